use Rattle.std.proofs.Common.{◌∙◌, ap, length}
use Rattle.plir_core.specs.ContextView.{result_types_of}
use Rattle.plir_core.specs.declared.value.DefiningEntity.TheVariants.{Op}
use Rattle.plir_copies.specs.Images.{images, over}
use Rattle.plir_copies.specs.Copied.{with_values_of}
use Rattle.plir_copies.proofs.Values.{values-over}
use Rattle.plir_copies.proofs.copying.map_results_in_whole.Goals as goal

pub returns-clause-ok : goal.returns-clause-ok
returns-clause-ok g c =
    let m = images c.args.map.now in
    let n = length (result_types_of c.args.ctx.now c.args.op) in
    c.in_ok-extend.ensures.ok ∙ ap (λ k. over k m) (c.in_ok-map_results.ensures.ok
    ∙ ap (λ k. with_values_of k (Op c.args.op) (Op c.args.copy) n) c.new-results.ensures)
    ∙ values-over m (Op c.args.op) (Op c.args.copy) n
