use Rattle.std.proofs.Common.{◌≡◌, ◌∙◌, ◌+◌, ap, sym, subst, refl, length, arith, Some}
use Rattle.std.specs.Prelude.{slice_get, slice_set}
use Rattle.plir_core.specs.declared.ptr.Ptr.{Ptr}
use Rattle.plir_core.specs.declared.ptr.BasicBlock.{BasicBlock as BlockKind}
use Rattle.plir_core.specs.Changes.{with_op_edit}
use Rattle.plir_core.specs.declared.ptr.IRNode.TheVariants.{Operation, BasicBlock}
use Rattle.plir_core.specs.Contents.{OpView}
use Rattle.plir_core.specs.ContextView.{IsLive, op_at, successors_of, successors_in}
use Rattle.plir_core.specs.Held.{IsOpEdited}
use Rattle.plir_core.specs.Room.{no_node}
use Rattle.plir_core.specs.RoomLaws.{come_itself, op_edit_comes}
use Rattle.plir_copies.specs.Images.{images, block_in}
use Rattle.plir_copies.specs.Copied.{with_successors_in}
use Rattle.plir_copies.proofs.Changing.{front-at, half_put, put-none, put-next, put-all, put-list}
use Rattle.plir_copies.proofs.Edits.{length-front}
use Rattle.plir_copies.proofs.Images.{block-live}
use Rattle.plir_copies.proofs.Keeping.{edited-same, edited-both, edited-as, images-edited}
use Rattle.plir_copies.proofs.trees.change_successors.Goals as goal

pub loop-i-init : goal.loop-i-init
loop-i-init g c =
    let s = c.args.ctx.now in
    let half = half_put (images c.args.map.now) (successors_of s c.args.op) in record {
      edited = edited-same s c.args.op (half 0)
          (put-none (images c.args.map.now) (successors_of s c.args.op) (op_at s c.args.op));
      none_come = come_itself s.nodes;
      formed = c.stands.ensures.whole;
    }

pub op_edits_keep_the_rest-requires : goal.op_edits_keep_the_rest-requires
op_edits_keep_the_rest-requires g c = c.loop-i.invariant.edited.keeps.live (Operation c.args.op) ∙ c.requires.live

pub get_successor-successor-requires-clause-live : goal.get_successor-successor-requires-clause-live
get_successor-successor-requires-clause-live g c =
    c.loop-i.invariant.edited.keeps.live (Operation c.args.op) ∙ c.requires.live

pub get_successor-successor-requires-clause-below : goal.get_successor-successor-requires-clause-below
get_successor-successor-requires-clause-below g c =
    let s = c.args.ctx.now in
    let m = images c.args.map.now in
    let xs = successors_of s c.args.op in
    let same : length (successors_of c.loop-i.ctx c.args.op) ≡ length xs =
    ap (λ x. length (successors_in x)) c.loop-i.invariant.edited.held
    ∙ ap length (put-list m xs c.loop-i.i (op_at s c.args.op) refl) ∙ length-front (block_in m) xs c.loop-i.i in
    omega (arith, same, c.loop-i-test.true, c.get_num_successors-i-end.ensures.value)

pub set_successor-requires-clause-live : goal.set_successor-requires-clause-live
set_successor-requires-clause-live g c =
    c.loop-i.invariant.edited.keeps.live (Operation c.args.op) ∙ c.requires.live

pub set_successor-requires-clause-below : goal.set_successor-requires-clause-below
set_successor-requires-clause-below g c =
    let s = c.args.ctx.now in
    let m = images c.args.map.now in
    let xs = successors_of s c.args.op in
    let same : length (successors_of c.loop-i.ctx c.args.op) ≡ length xs =
    ap (λ x. length (successors_in x)) c.loop-i.invariant.edited.held
    ∙ ap length (put-list m xs c.loop-i.i (op_at s c.args.op) refl) ∙ length-front (block_in m) xs c.loop-i.i in
    omega (arith, same, c.loop-i-test.true, c.get_num_successors-i-end.ensures.value)

pub set_successor-requires-clause-block_live : goal.set_successor-requires-clause-block_live
set_successor-requires-clause-block_live g c =
    let s = c.args.ctx.now in
    let m = images c.args.map.now in
    let live = images-edited s c.loop-i.ctx c.args.op (half_put m (successors_of s c.args.op) c.loop-i.i)
    c.loop-i.invariant.edited (λ o. refl) m c.requires.images_live in
    subst (λ z. IsLive c.loop-i.ctx (BasicBlock z)) (sym c.block.ensures)
    (block-live c.loop-i.ctx m live c.get_successor-successor.result c.get_successor-successor.ensures.live)

pub loop-i-preserved : goal.loop-i-preserved
loop-i-preserved g c =
    let s = c.args.ctx.now in
    let t = c.loop-i.ctx in
    let u = c.set_successor.new.ctx in
    let p = c.args.op in
    let m = images c.args.map.now in
    let xs = successors_of s c.args.op in
    let i = c.loop-i.i in
    let v = c.get_successor-successor.result in
    let put : OpView g.row.D-Kind.Denot g.row.D-Attr.Denot → OpView g.row.D-Kind.Denot g.row.D-Attr.Denot =
    λ o. record o { successors = slice_set o.successors i (block_in m v) } in
    let after : u ≡ with_op_edit t p put =
    c.set_successor.ensures.after ∙ ap (λ (w : Ptr BlockKind). with_op_edit t p (λ o. record o { successors = slice_set o.successors i w })) c.block.ensures in
    let at : slice_get xs i ≡ Some v =
    front-at (block_in m) xs i v (ap (λ l. slice_get l i) (sym (ap successors_in c.loop-i.invariant.edited.held
    ∙ put-list m xs i (op_at s p) refl)) ∙ c.get_successor-successor.ensures.value) in record {
      edited = edited-as s u p (λ o. put (half_put m xs i o)) (half_put m xs (i + 1))
          (edited-both s t u p (half_put m xs i) put c.loop-i.invariant.edited
          (subst (λ z. IsOpEdited t z p put) (sym after) (c.op_edits_keep_the_rest.ensures put)))
          (put-next m xs i v at (op_at s p) refl);
      none_come = op_edit_comes s t no_node c.loop-i.invariant.none_come u p put after;
      formed = c.set_successor.ensures.whole;
    }

pub returns-clause-edited : goal.returns-clause-edited
returns-clause-edited g c =
    let s = c.args.ctx.now in
    let m = images c.args.map.now in
    let xs = successors_of s c.args.op in
    let all : c.loop-i.i ≡ length xs =
    omega (arith, c.loop-i.auto.i-end, c.loop-i-test.false, c.get_num_successors-i-end.ensures.value) in
    edited-as s c.loop-i.ctx c.args.op (half_put m xs c.loop-i.i) (with_successors_in m) c.loop-i.invariant.edited
    (put-all m xs c.loop-i.i all (op_at s c.args.op) refl)
