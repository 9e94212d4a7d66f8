use Rattle.std.proofs.Common.{◌∙◌, ap, sym, subst}
use Rattle.plir_core.specs.declared.ptr.IRNode.TheVariants.{BasicBlock}
use Rattle.plir_copies.specs.Images.{AreImagesLive, for_call, images, no_images}
use Rattle.plir_copies.specs.Trees.{IsCopyOfTree}
use Rattle.plir_inline.proofs.inlining.copy_tree.Goals as goal

pub clone_block_tree_into-requires-clause-images_live : goal.clone_block_tree_into-requires-clause-images_live
clone_block_tree_into-requires-clause-images_live g c =
    let s = c.args.ctx.now in
    let is = c.set_call.ensures ∙ ap (λ m. for_call m c.args.place) c.new-map.ensures in
    subst (AreImagesLive s) (sym is) (c.images_stay_live.ensures.call s no_images c.args.place
    (c.images_stay_live.ensures.none s))

pub returns-clause-copied : goal.returns-clause-copied
returns-clause-copied g c =
    let s = c.args.ctx.now in
    let n = images c.clone_block_tree_into.new.map in
    let is = c.set_call.ensures ∙ ap (λ m. for_call m c.args.place) c.new-map.ensures in (
      n,
      subst (λ m. IsCopyOfTree s c.clone_block_tree_into.new.ctx (BasicBlock c.args.block) (BasicBlock c.in_ok-copy.copy) m n)
          is c.in_ok-copy.ensures.copied,
    )
