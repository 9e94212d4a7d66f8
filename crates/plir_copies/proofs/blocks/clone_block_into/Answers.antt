use Rattle.std.proofs.Common.{◌∙◌, ap, sym, subst, length}
use Rattle.plir_core.specs.Changes.{SameLive}
use Rattle.plir_core.specs.declared.ptr.IRNode.TheVariants.{BasicBlock}
use Rattle.plir_core.specs.declared.value.DefiningEntity.TheVariants.{Block}
use Rattle.plir_core.specs.ContextView.{arguments_in, arg_types_of}
use Rattle.plir_copies.specs.Images.{AreImagesLive, images}
use Rattle.plir_copies.specs.Copied.{with_values_of}
use Rattle.plir_copies.proofs.Images.{live-block, live-values}
use Rattle.plir_copies.proofs.Keeping.{images-keep, images-same}
use Rattle.plir_copies.proofs.blocks.clone_block_into.Goals as goal

pub map_block_in_whole-requires-clause-live : goal.map_block_in_whole-requires-clause-live
map_block_in_whole-requires-clause-live g c =
    c.in_ok-copy.ensures.made.keeps.live (BasicBlock c.args.block) c.requires.live

pub map_block_in_whole-requires-clause-copy_live : goal.map_block_in_whole-requires-clause-copy_live
map_block_in_whole-requires-clause-copy_live g c = c.in_ok-copy.ensures.made.root

pub map_block_in_whole-requires-clause-same : goal.map_block_in_whole-requires-clause-same
map_block_in_whole-requires-clause-same g c =
    ap arguments_in c.in_ok-copy.ensures.held
    ∙ ap arguments_in (sym (c.in_ok-copy.ensures.made.keeps.blocks c.args.block c.requires.live))

pub erase-requires-clause-live : goal.erase-requires-clause-live
erase-requires-clause-live g c = c.in_ok-copy.ensures.made.root

pub erase-requires-clause-unused : goal.erase-requires-clause-unused
erase-requires-clause-unused g c =
    c.what_was_made_is_unused.ensures c.copy_block.new.ctx (BasicBlock c.in_ok-copy.copy) c.in_ok-copy.ensures.made

pub returns-in_err-copy-clause-images_live : goal.returns-in_err-copy-clause-images_live
returns-in_err-copy-clause-images_live g c =
    images-same c.args.ctx.now c.copy_block.new.ctx (images c.args.map.now) c.in_err-copy.ensures.err
    c.requires.images_live

pub returns-in-Ok-clause-images_live : goal.returns-in-Ok-clause-images_live
returns-in-Ok-clause-images_live g c =
    let s = c.args.ctx.now in
    let t = c.copy_block.new.ctx in
    let b = c.args.block in
    let d = c.in_ok-copy.copy in
    let made = c.in_ok-copy.ensures.made in
    let m = images c.args.map.now in
    let n = length (arg_types_of t b) in
    let same = ap arguments_in c.in_ok-copy.ensures.held ∙ ap arguments_in (sym (made.keeps.blocks b c.requires.live)) in
    subst (AreImagesLive t) (sym c.in-Ok.ensures.ok)
    (live-block t (with_values_of m (Block b) (Block d) n) (live-values t m (images-keep s t m made.keeps
    c.requires.images_live) (Block b) (Block d) n made.root (ap length (sym same))) b d made.root)

pub returns-in-Err-clause-images_live : goal.returns-in-Err-clause-images_live
returns-in-Err-clause-images_live g c =
    let s = c.args.ctx.now in
    let u = c.erase.new.ctx in
    let same : SameLive s u = record {
      nodes = c.growth.ensures.unmade c.copy_block.new.ctx.nodes u.nodes (BasicBlock c.in_ok-copy.copy)
          c.in_ok-copy.ensures.made c.erase.ensures.tree;
      types = ap (λ z. z.types) c.erase.ensures.after ∙ c.in_ok-copy.ensures.types;
    } in
    subst (AreImagesLive u) (sym c.in-Err.ensures.err) (images-same s u (images c.args.map.now) same
    c.requires.images_live)

pub returns-in-Err-clause-err : goal.returns-in-Err-clause-err
returns-in-Err-clause-err g c = record {
  nodes = c.growth.ensures.unmade c.copy_block.new.ctx.nodes c.erase.new.ctx.nodes (BasicBlock c.in_ok-copy.copy)
      c.in_ok-copy.ensures.made c.erase.ensures.tree;
  types = ap (λ z. z.types) c.erase.ensures.after ∙ c.in_ok-copy.ensures.types;
}
