use Rattle.std.proofs.Common.{refl, ap, ◌∙◌, ◌≡◌, ℕ, List}
use Rattle.plir_attr_text.specs.laws.TypeSteps.{behind_is}
use Rattle.plir_read.specs.OpTerms.{module_head, func_head, Head}
use Rattle.plir_read.specs.OpReading.{head_at}
use Rattle.plir_read.specs.laws.OpEnds.{func_start}
use Rattle.plir_read.specs.laws.TypesNamed.{type_named}
use Rattle.plir_read.proofs.OpSteps.{module_read, func_read}
use Rattle.plir_attr_text.specs.laws.StepLaws.{done}
use Rattle.plir_attr_text.specs.laws.Growth.{named_by}
use Rattle.plir_attr_text.specs.Parts.{IsPartOf}
use Rattle.plir_attr_text.specs.laws.PartsFound.{type_part}
use Rattle.plir_read.specs.HeldTypes.{IsHeldByHead}
use Rattle.plir_read.proofs.Held.{none_come, held_is}
use Rattle.plir_read.proofs.heads.read_head.Goals as goal

pub returns-in_ok-name-in-Module-clause-read : goal.returns-in_ok-name-in-Module-clause-read
returns-in_ok-name-in-Module-clause-read g c = (
  (module_head c.in_ok-name-in-Module.name, c.in_ok-name-in-Module.rest.now),
  ap (λ k. head_at c.args.levels k c.args.bytes.now) c.in-Module.is ∙
      module_read c.args.levels _ _ _ c.in_ok-name-in-Module.ensures,
  (refl, refl),
)

pub returns-in-Ok-clause-read : goal.returns-in-Ok-clause-read
returns-in-Ok-clause-read g c =
    let y = c.in-Ok.ensures.read in (
      (func_head c.in_ok-name-in-Func.name y.0.0, c.in-Ok.read.1.now),
      ap (λ k. head_at c.args.levels k c.args.bytes.now) c.in-Func.is ∙
          func_read c.args.levels _ _ _ _ _ y.0.0 c.in_ok-name-in-Func.ensures c.in_ok-colon-in-Func.ensures
          (behind_is _ y.0 c.in-Ok.read.1.now y.1 y.2.1),
      ((refl, y.2.0), refl),
    )

pub returns-in-Ok-clause-named : goal.returns-in-Ok-clause-named
returns-in-Ok-clause-named g c =
    type_named c.args.levels _ _ _ _ (func_start _ _ _ _ c.in_ok-name-in-Func.ensures c.in_ok-colon-in-Func.ensures)
    c.in-Ok.ensures.kept.named

pub returns-in-Err-clause-named : goal.returns-in-Err-clause-named
returns-in-Err-clause-named g c =
    type_named c.args.levels _ _ _ _ (func_start _ _ _ _ c.in_ok-name-in-Func.ensures c.in_ok-colon-in-Func.ensures)
    c.in-Err.ensures.kept.named

pub returns-in_ok-name-in-Module-clause-held : goal.returns-in_ok-name-in-Module-clause-held
returns-in_ok-name-in-Module-clause-held g c = λ y e. none_come (λ t. IsHeldByHead t y.0) _

pub returns-in-Ok-clause-held : goal.returns-in-Ok-clause-held
returns-in-Ok-clause-held g c =
    let r = c.in-Ok.ensures.read in
    let z : Head × List ℕ = (func_head c.in_ok-name-in-Func.name r.0.0, c.in-Ok.read.1.now) in
    let whole : head_at c.args.levels c.args.kind c.args.bytes.now ≡ done z =
    ap (λ k. head_at c.args.levels k c.args.bytes.now) c.in-Func.is ∙
    func_read c.args.levels _ _ _ _ _ r.0.0 c.in_ok-name-in-Func.ensures c.in_ok-colon-in-Func.ensures
    (behind_is _ r.0 c.in-Ok.read.1.now r.1 r.2.1) in
    λ y e. held_is IsHeldByHead _ z y _ _ whole e
    (named_by _ (λ u. IsPartOf u r.0.0) (λ u w. type_part c.args.levels _ r.0 u r.1 w) _ _
    c.in-Ok.ensures.kept.named)
