-- What passes say of their ends.
use Rattle.std.specs.Prelude.{◌≡◌}
use Rattle.plir_core.specs.ContextView.{ContextView}
use Rattle.plir_driver.specs.declared.pass_end.PassEnd.{PassEnd}
use Rattle.plir_driver.specs.declared.pass_end.PassEnd.TheVariants.{Changed, Unchanged}

module _ {K A T : Type 0} (s t : ContextView K A T) where
  -- What a pass says that went from s to t is so: where it says that nothing has changed, t is s, in all that one sees
  -- of a context.
  abbrev pub IsEnd : PassEnd → Type 0
  IsEnd Changed = Unit {0}
  IsEnd Unchanged = t ≡ s
