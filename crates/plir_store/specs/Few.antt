-- How `Few` holds its items. No public clause cites this module.
use Rattle.std.specs.Prelude.{List, [], ◌∷◌}
use Rattle.plir_store.specs.declared.few.Items.{Items}
use Rattle.plir_store.specs.declared.few.Items.TheVariants as Held

module _ {T : Type 0} where
  abbrev pub items_of : Items T → List T
  items_of Held.None = []
  items_of (Held.One x) = x ∷ []
  items_of (Held.Many xs) = xs.value.items
