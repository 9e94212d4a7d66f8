use Rattle.std.proofs.Common.{◌∙◌, ap, sym, subst, take, ◌++◌, ◌∷◌, []}
use Rattle.std.specs.Prelude.{All}
use Rattle.std.proofs.lemmas.List.Elements.{All-push}
use Rattle.plir_core.specs.declared.ptr.IRNode.TheVariants.{BasicBlock}
use Rattle.plir_core.specs.ContextView.{IsLive, successors_of}
use Rattle.plir_copies.specs.Images.{block_in, blocks_in, images}
use Rattle.plir_copies.proofs.Images.{block-live}
use Rattle.plir_copies.proofs.Lists.{map-next}
use Rattle.plir_copies.proofs.reading.successors_under.Goals as goal

pub loop-i-preserved : goal.loop-i-preserved
loop-i-preserved g c =
    let s = c.args.ctx.now in
    let m = images c.args.map.now in
    let b = c.get_successor.result in
    let x = c.block.result in
    let live = subst (λ z. IsLive s (BasicBlock z)) (sym c.block.ensures)
    (block-live s m c.requires.images_live b c.get_successor.ensures.live) in (
      c.in_ok-push.ensures.items ∙ ap (λ z. z ++ x ∷ []) c.loop-i.invariant.0
          ∙ ap (λ z. blocks_in m (take c.loop-i.i (successors_of s c.args.op)) ++ z ∷ []) c.block.ensures
          ∙ sym (map-next (block_in m) (successors_of s c.args.op) c.loop-i.i b c.get_successor.ensures.value),
      subst (All (λ b. IsLive s (BasicBlock b))) (sym c.in_ok-push.ensures.items)
          (All-push (λ b. IsLive s (BasicBlock b)) c.loop-i.successors.items x c.loop-i.invariant.1 live),
    )
