use Rattle.std.proofs.Common.{subst, sym, ◌∙◌, List}
use Rattle.std.specs.Prelude.{All}
use Rattle.plir_core.specs.declared.value.Value.{Value}
use Rattle.plir_core.specs.ContextView.{operands_of, IsValueLive}
use Rattle.plir_flow.proofs.Ranges.{all-push, range-more}
use Rattle.plir_flow.proofs.operand_ranges.operands_in.Goals as goal

pub loop-place-preserved : goal.loop-place-preserved
loop-place-preserved g c = record {
  values =
      c.in_ok-push.ensures.items ∙ range-more (operands_of c.args.ctx.now c.args.op) c.loop-place.values.items
      c.args.range.start c.loop-place.place c.get_operand.result c.loop-place.auto.place c.get_operand.ensures.value
      c.loop-place.invariant.values;
  live =
      subst (λ (vs : List Value). All (IsValueLive c.args.ctx.now) vs) (sym c.in_ok-push.ensures.items)
      (all-push (IsValueLive c.args.ctx.now) c.loop-place.values.items c.get_operand.result c.loop-place.invariant.live
      c.get_operand.ensures.live);
}
