use Rattle.std.proofs.Common.{◌∙◌, ◌≤◌, arith, length, refl, sym, subst}
use Rattle.std.proofs.lemmas.Bool.{false≢true}
use Rattle.std.proofs.lemmas.List.{take_all}
use Rattle.plir_store.specs.MemberLaws.{Has-at}
use Rattle.plir_core.specs.ContextView.{operands_of}
use Rattle.plir_core.specs.declared.value.DefiningEntity.TheVariants.{Op}
use Rattle.plir_inline.specs.Given.{NoneFrom}
use Rattle.plir_inline.proofs.Prefixes.{none-next}
use Rattle.plir_inline.proofs.fitting.uses_none_of.Goals as goal

pub returns-then-is_result_of : goal.returns-then-is_result_of
returns-then-is_result_of g c = (
  λ yes. absurd (false≢true yes),
  λ none. absurd (none c.get_operand.result (Has-at (operands_of c.args.ctx.now c.args.op) c.loop-i.i c.get_operand.result
      c.get_operand.ensures.value) (c.is_result_of.ensures.0 c.if-is_result_of.true)),
)

pub loop-i-preserved : goal.loop-i-preserved
loop-i-preserved g c =
    none-next (Op c.args.other) (operands_of c.args.ctx.now c.args.op) c.get_operand.result c.loop-i.i
    c.get_operand.ensures.value (λ is. false≢true (sym c.if-is_result_of.false ∙ c.is_result_of.ensures.1 is)) c.loop-i.invariant

pub returns : goal.returns
returns g c =
    let xs = operands_of c.args.ctx.now c.args.op in
    let past : length xs ≤ c.loop-i.i = omega (arith, c.loop-i-test.false, c.get_num_operands-i-end.ensures.value) in (
      λ _. subst (NoneFrom (Op c.args.other)) (take_all c.loop-i.i xs past) c.loop-i.invariant,
      λ _. refl,
    )
