use Rattle.std.proofs.Common.{refl, ◌≡◌, ℕ, List}
use Rattle.plir_attr_text.specs.laws.TypeSteps.{behind_is}
use Rattle.plir_attr_text.specs.Terms.{AttrTerm}
use Rattle.plir_read.proofs.OpSteps.{value_is}
use Rattle.plir_attr_text.specs.laws.Ends.{sign_end}
use Rattle.plir_read.specs.laws.TypesNamed.{attr_named}
use Rattle.plir_attr_text.specs.laws.StepLaws.{done}
use Rattle.plir_attr_text.specs.laws.Growth.{named_by}
use Rattle.plir_attr_text.specs.Parts.{IsHeldBy}
use Rattle.plir_attr_text.specs.laws.PartsFound.{attr_part}
use Rattle.plir_read.specs.OpReading.{value_at}
use Rattle.plir_read.proofs.Held.{held_is}
use Rattle.plir_read.proofs.constants.read_value.Goals as goal

pub returns-in_ok-end-in-Ok-clause-read : goal.returns-in_ok-end-in-Ok-clause-read
returns-in_ok-end-in-Ok-clause-read g c =
    let y = c.in-Ok.ensures.read in (
      (y.0.0, c.in_ok-end-in-Ok.end.now),
      value_is c.args.levels _ _ _ _ y.0.0 c.in_ok-start.ensures (behind_is _ y.0 c.in-Ok.read.1.now y.1 y.2.1)
          c.in_ok-end-in-Ok.ensures,
      (y.2.0, refl),
    )

pub returns-in_ok-end-in-Ok-clause-named : goal.returns-in_ok-end-in-Ok-clause-named
returns-in_ok-end-in-Ok-clause-named g c =
    attr_named c.args.levels _ _ _ _ (sign_end 60 _ _ c.in_ok-start.ensures) c.in-Ok.ensures.kept.named

pub returns-in_err-end-in-Ok-clause-named : goal.returns-in_err-end-in-Ok-clause-named
returns-in_err-end-in-Ok-clause-named g c =
    attr_named c.args.levels _ _ _ _ (sign_end 60 _ _ c.in_ok-start.ensures) c.in-Ok.ensures.kept.named

pub returns-in-Err-clause-named : goal.returns-in-Err-clause-named
returns-in-Err-clause-named g c =
    attr_named c.args.levels _ _ _ _ (sign_end 60 _ _ c.in_ok-start.ensures) c.in-Err.ensures.kept.named

pub returns-in_ok-end-in-Ok-clause-held : goal.returns-in_ok-end-in-Ok-clause-held
returns-in_ok-end-in-Ok-clause-held g c =
    let y = c.in-Ok.ensures.read in
    let z : AttrTerm × List ℕ = (y.0.0, c.in_ok-end-in-Ok.end.now) in
    let whole : value_at c.args.levels c.args.bytes.now ≡ done z =
    value_is c.args.levels _ _ _ _ y.0.0 c.in_ok-start.ensures (behind_is _ y.0 c.in-Ok.read.1.now y.1 y.2.1)
    c.in_ok-end-in-Ok.ensures in
    λ x e. held_is IsHeldBy _ z x _ _ whole e
    (named_by _ (λ t. IsHeldBy t y.0.0) (λ t w. attr_part c.args.levels _ y.0 t y.1 w) _ _
    c.in-Ok.ensures.kept.named)
