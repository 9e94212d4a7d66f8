use Rattle.std.proofs.Common.{map}
use Rattle.plir_core.specs.declared.ptr.IRNode.TheVariants.{BasicBlock}
use Rattle.plir_copies.specs.Room.{tree_count}
use Rattle.plir_copies.specs.Trees.{node_copy}
use Rattle.plir_inline.proofs.Copied.{can-put, copy-ends}
use Rattle.plir_inline.proofs.FromCopy.{inlined}
use Rattle.plir_inline.proofs.inlining.inline_block.Goals as goal

pub put_in_place-requires : goal.put_in_place-requires
put_in_place-requires g c =
    let s = c.args.ctx.now in
    let t = c.copy_tree.new.ctx in
    let whole = c.stands.ensures.whole in
    let fs = (c.contexts_stand.ensures s whole).forest in
    let ft = (c.contexts_stand.ensures t c.copy_tree.ensures.whole).forest in
    let done = c.in_ok-copy.ensures.copied in
    can-put g.D.OpSet.attr_handles s t c.args.call c.args.block c.in_ok-copy.copy c.requires whole fs ft
    c.in_ok-copy.ensures.made c.loc-place.result done.0 done.1

pub returns-clause-ok : goal.returns-clause-ok
returns-clause-ok g c =
    let s = c.args.ctx.now in
    let t = c.copy_tree.new.ctx in
    let u = c.put_in_place.new.ctx in
    let whole = c.stands.ensures.whole in
    let fs = (c.contexts_stand.ensures s whole).forest in
    let ft = (c.contexts_stand.ensures t c.copy_tree.ensures.whole).forest in
    let done = c.in_ok-copy.ensures.copied in
    let made = c.in_ok-copy.ensures.made in
    let ends = copy-ends g.D.OpSet.attr_handles s t c.args.call c.args.block c.in_ok-copy.copy c.requires whole fs ft
    made c.loc-place.result done.0 done.1 in
    inlined g.D.OpSet.attr_handles s t c.args.call c.args.block c.in_ok-copy.copy c.requires whole fs ft made c.loc-place.result done.0 done.1
    u (c.put_in_place.ensures.put (done.1.copies.op c.requires.last) (map (node_copy done.1.copies) c.requires.body) ends) c.copy_tree.ensures.types
    c.loc-place.ensures.value

pub returns-clause-room : goal.returns-clause-room
returns-clause-room g c =
    let s = c.args.ctx.now in
    c.room_is_used_up.ensures.had s c.copy_tree.new.ctx (tree_count s.nodes (BasicBlock c.args.block))
    c.copy_tree.ensures.whole c.in_ok-copy.ensures.come
