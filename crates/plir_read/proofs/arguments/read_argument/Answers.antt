use Rattle.std.proofs.Common.{refl, ◌≡◌, ℕ, List}
use Rattle.plir_attr_text.specs.laws.TypeSteps.{behind_is}
use Rattle.plir_read.proofs.OpSteps.{argument_is}
use Rattle.plir_read.specs.laws.OpEnds.{argument_start}
use Rattle.plir_read.specs.laws.TypesNamed.{type_named}
use Rattle.plir_attr_text.specs.laws.StepLaws.{done}
use Rattle.plir_attr_text.specs.laws.Growth.{named_by}
use Rattle.plir_attr_text.specs.Parts.{IsPartOf}
use Rattle.plir_attr_text.specs.laws.PartsFound.{type_part}
use Rattle.plir_read.specs.OpReading.{argument_at}
use Rattle.plir_read.specs.OpTerms.{Argument}
use Rattle.plir_read.proofs.Held.{held_is}
use Rattle.plir_read.proofs.arguments.read_argument.Goals as goal

pub returns-in_ok-given-in-Ok-clause-read : goal.returns-in_ok-given-in-Ok-clause-read
returns-in_ok-given-in-Ok-clause-read g c =
    let y = c.in-Ok.ensures.read in (
      ((c.in_ok-name.name, y.0.0), c.in-Ok.read.1.now),
      argument_is c.args.levels _ _ _ _ _ y.0.0 c.in_ok-name.ensures c.in_ok-colon.ensures
          (behind_is _ y.0 c.in-Ok.read.1.now y.1 y.2.1),
      ((c.in_ok-given-in-Ok.ensures.given, y.2.0), refl),
    )

pub returns-in_ok-given-in-Ok-clause-named : goal.returns-in_ok-given-in-Ok-clause-named
returns-in_ok-given-in-Ok-clause-named g c =
    type_named c.args.levels _ _ _ _ (argument_start _ _ _ _ c.in_ok-name.ensures c.in_ok-colon.ensures)
    c.in-Ok.ensures.kept.named

pub returns-in_err-given-in-Ok-clause-named : goal.returns-in_err-given-in-Ok-clause-named
returns-in_err-given-in-Ok-clause-named g c =
    type_named c.args.levels _ _ _ _ (argument_start _ _ _ _ c.in_ok-name.ensures c.in_ok-colon.ensures)
    c.in-Ok.ensures.kept.named

pub returns-in-Err-clause-named : goal.returns-in-Err-clause-named
returns-in-Err-clause-named g c =
    type_named c.args.levels _ _ _ _ (argument_start _ _ _ _ c.in_ok-name.ensures c.in_ok-colon.ensures)
    c.in-Err.ensures.kept.named

pub returns-in_ok-given-in-Ok-clause-held : goal.returns-in_ok-given-in-Ok-clause-held
returns-in_ok-given-in-Ok-clause-held g c =
    let y = c.in-Ok.ensures.read in
    let z : Argument × List ℕ = ((c.in_ok-name.name, y.0.0), c.in-Ok.read.1.now) in
    let whole : argument_at c.args.levels c.args.bytes.now ≡ done z =
    argument_is c.args.levels _ _ _ _ _ y.0.0 c.in_ok-name.ensures c.in_ok-colon.ensures
    (behind_is _ y.0 c.in-Ok.read.1.now y.1 y.2.1) in
    λ x e. held_is (λ t (a : Argument). IsPartOf t a.1) _ z x _ _ whole e
    (named_by _ (λ u. IsPartOf u y.0.0) (λ u w. type_part c.args.levels _ y.0 u y.1 w) _ _
    c.in-Ok.ensures.kept.named)
