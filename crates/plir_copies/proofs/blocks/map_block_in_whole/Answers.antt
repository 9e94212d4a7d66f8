use Rattle.std.proofs.Common.{◌∙◌, ap, length}
use Rattle.plir_core.specs.ContextView.{arg_types_of}
use Rattle.plir_core.specs.declared.value.DefiningEntity.TheVariants.{Block}
use Rattle.plir_copies.specs.Images.{images, over, with_block}
use Rattle.plir_copies.specs.Copied.{with_values_of}
use Rattle.plir_copies.proofs.Values.{block-over}
use Rattle.plir_copies.proofs.blocks.map_block_in_whole.Goals as goal

pub returns-clause-ok : goal.returns-clause-ok
returns-clause-ok g c =
    let m = images c.args.map.now in
    let b = c.args.block in
    let d = c.args.copy in
    let n = length (arg_types_of c.args.ctx.now b) in
    c.in_ok-extend.ensures.ok ∙ ap (λ k. over k m) (c.in_ok-map_block.ensures.ok
    ∙ ap (λ k. with_block k b d) (c.in_ok-map_arguments.ensures
    ∙ ap (λ k. with_values_of k (Block b) (Block d) n) c.new-arguments.ensures))
    ∙ block-over m (Block b) (Block d) b d n
