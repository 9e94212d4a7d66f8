use Rattle.std.proofs.Common.{◌≡◌, ◌<◌, true, refl, sym, subst, arith}
use Rattle.std.proofs.lemmas.List.{drop_all}
use Rattle.plir_core.specs.ContextView.{operands_of}
use Rattle.plir_roundtrip.specs.WrittenLevels.{value_levels}
use Rattle.plir_roundtrip.proofs.Asked.{low_passed, low_failed}
use Rattle.plir_roundtrip.proofs.PartLevels.{first_value}
use Rattle.plir_roundtrip.proofs.part_levels.are_operands_below.Goals as goal

pub operands-preserved : goal.operands-preserved
operands-preserved g c =
    let passed : c.is_type_below.result ≡ true = cc in
    low_passed _ _ _ _ c.args.left
    (first_value c.args.ctx.now (operands_of c.args.ctx.now c.args.op) c.operands.place c.get_operand.result
    c.get_type.result c.get_operand.ensures.value c.get_type.ensures.value)
    (c.is_type_below.ensures.0 passed) c.operands.invariant

pub returns-then-not-is_type_below : goal.returns-then-not-is_type_below
returns-then-not-is_type_below g c = (
  λ h. absurd (let f : ⊥ = cc in f),
  λ all. absurd (low_failed _ _ _ _ c.args.left
      (first_value c.args.ctx.now (operands_of c.args.ctx.now c.args.op) c.operands.place c.get_operand.result
      c.get_type.result c.get_operand.ensures.value c.get_type.ensures.value) (λ h.
      let passed : c.is_type_below.result ≡ true = c.is_type_below.ensures.1 h in
      let f : ⊥ = cc in f) c.operands.invariant all),
)

pub returns : goal.returns
returns g c = (
  λ t. c.operands.invariant.0 (subst (λ vs. value_levels c.args.ctx.now vs < c.args.left)
      (sym (drop_all c.operands.place (operands_of c.args.ctx.now c.args.op) (omega arith))) c.requires.some),
  λ h. refl,
)
