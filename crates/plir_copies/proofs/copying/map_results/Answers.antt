use Rattle.std.proofs.Common.{◌≡◌, ◌∙◌, ap, sym, length, arith}
use Rattle.plir_core.specs.ContextView.{result_types_of}
use Rattle.plir_core.specs.declared.value.DefiningEntity.TheVariants.{Op}
use Rattle.plir_copies.specs.Images.{images, with_value}
use Rattle.plir_copies.specs.Copied.{with_values_of}
use Rattle.plir_copies.proofs.Values.{values-none, values-more}
use Rattle.plir_copies.proofs.copying.map_results.Goals as goal

pub loop-i-init : goal.loop-i-init
loop-i-init g c = sym (values-none (images c.args.map.now) (Op c.args.op) (Op c.args.copy))

pub loop-i-preserved : goal.loop-i-preserved
loop-i-preserved g c =
    let m = images c.args.map.now in
    c.in_ok-map_value.ensures.ok ∙ (λ j. with_value (c.loop-i.invariant j) (c.get_result.ensures.value j)
    (c.get_result-in-loop-i.ensures.value j)) ∙ values-more m (Op c.args.op) (Op c.args.copy) c.loop-i.i

pub returns-clause-ok : goal.returns-clause-ok
returns-clause-ok g c =
    let all : c.loop-i.i ≡ length (result_types_of c.args.ctx.now c.args.op) =
    omega (arith, c.loop-i.auto.i-end, c.loop-i-test.false, c.get_num_results-i-end.ensures.value) in
    c.loop-i.invariant ∙ ap (with_values_of (images c.args.map.now) (Op c.args.op) (Op c.args.copy)) all
