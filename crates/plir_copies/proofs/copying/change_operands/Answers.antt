use Rattle.std.proofs.Common.{◌≡◌, ◌∙◌, ◌+◌, ap, sym, subst, refl, length, arith, Some}
use Rattle.std.specs.Prelude.{slice_get, slice_set}
use Rattle.plir_core.specs.declared.value.Value.{Value}
use Rattle.plir_core.specs.Changes.{with_op_edit}
use Rattle.plir_core.specs.declared.ptr.IRNode.TheVariants.{Operation}
use Rattle.plir_core.specs.Contents.{OpView}
use Rattle.plir_core.specs.ContextView.{IsValueLive, op_at, operands_of, operands_in}
use Rattle.plir_core.specs.Held.{IsOpEdited}
use Rattle.plir_core.specs.Room.{no_node}
use Rattle.plir_core.specs.RoomLaws.{come_itself, op_edit_comes}
use Rattle.plir_copies.specs.Images.{images, value_in}
use Rattle.plir_copies.specs.Copied.{with_operands_in}
use Rattle.plir_copies.proofs.Changing.{front-at, half-list}
use Rattle.plir_copies.proofs.Edits.{half_set, half-none, half-next, half-all, half-length}
use Rattle.plir_copies.proofs.Images.{value-live}
use Rattle.plir_copies.proofs.Keeping.{edited-same, edited-both, edited-as, images-edited}
use Rattle.plir_copies.proofs.copying.change_operands.Goals as goal

pub loop-i-init : goal.loop-i-init
loop-i-init g c =
    let s = c.args.ctx.now in
    let half = half_set (images c.args.map.now) (operands_of s c.args.op) in record {
      edited = edited-same s c.args.op (half 0)
          (half-none (images c.args.map.now) (operands_of s c.args.op) (op_at s c.args.op));
      none_come = come_itself s.nodes;
      formed = c.stands.ensures.whole;
    }

pub op_edits_keep_the_rest-requires : goal.op_edits_keep_the_rest-requires
op_edits_keep_the_rest-requires g c = c.loop-i.invariant.edited.keeps.live (Operation c.args.op) ∙ c.requires.live

pub get_operand-operand-requires-clause-live : goal.get_operand-operand-requires-clause-live
get_operand-operand-requires-clause-live g c =
    c.loop-i.invariant.edited.keeps.live (Operation c.args.op) ∙ c.requires.live

pub get_operand-operand-requires-clause-below : goal.get_operand-operand-requires-clause-below
get_operand-operand-requires-clause-below g c =
    let s = c.args.ctx.now in
    let same : length (operands_of c.loop-i.ctx c.args.op) ≡ length (operands_of s c.args.op) =
    ap (λ x. length (operands_in x)) c.loop-i.invariant.edited.held
    ∙ half-length (images c.args.map.now) (operands_of s c.args.op) c.loop-i.i (op_at s c.args.op) refl in
    omega (arith, same, c.loop-i-test.true, c.get_num_operands-i-end.ensures.value)

pub replace_operand-requires-clause-live : goal.replace_operand-requires-clause-live
replace_operand-requires-clause-live g c =
    c.loop-i.invariant.edited.keeps.live (Operation c.args.op) ∙ c.requires.live

pub replace_operand-requires-clause-below : goal.replace_operand-requires-clause-below
replace_operand-requires-clause-below g c =
    let s = c.args.ctx.now in
    let same : length (operands_of c.loop-i.ctx c.args.op) ≡ length (operands_of s c.args.op) =
    ap (λ x. length (operands_in x)) c.loop-i.invariant.edited.held
    ∙ half-length (images c.args.map.now) (operands_of s c.args.op) c.loop-i.i (op_at s c.args.op) refl in
    omega (arith, same, c.loop-i-test.true, c.get_num_operands-i-end.ensures.value)

pub replace_operand-requires-clause-value_live : goal.replace_operand-requires-clause-value_live
replace_operand-requires-clause-value_live g c =
    let s = c.args.ctx.now in
    let m = images c.args.map.now in
    let live = images-edited s c.loop-i.ctx c.args.op (half_set m (operands_of s c.args.op) c.loop-i.i)
    c.loop-i.invariant.edited (λ o. refl) m c.requires.images_live in
    subst (IsValueLive c.loop-i.ctx) (sym c.value.ensures)
    (value-live c.loop-i.ctx m live c.get_operand-operand.result c.get_operand-operand.ensures.live)

pub loop-i-preserved : goal.loop-i-preserved
loop-i-preserved g c =
    let s = c.args.ctx.now in
    let t = c.loop-i.ctx in
    let u = c.replace_operand.new.ctx in
    let p = c.args.op in
    let m = images c.args.map.now in
    let xs = operands_of s c.args.op in
    let i = c.loop-i.i in
    let v = c.get_operand-operand.result in
    let put : OpView g.row.D-Kind.Denot g.row.D-Attr.Denot → OpView g.row.D-Kind.Denot g.row.D-Attr.Denot =
    λ o. record o { operands = slice_set o.operands i (value_in m v) } in
    let after : u ≡ with_op_edit t p put =
    c.replace_operand.ensures.after ∙ ap (λ (w : Value). with_op_edit t p (λ o. record o { operands = slice_set o.operands i w })) c.value.ensures in
    let at : slice_get xs i ≡ Some v =
    front-at (value_in m) xs i v (ap (λ l. slice_get l i) (sym (ap operands_in c.loop-i.invariant.edited.held
    ∙ half-list m xs i (op_at s p) refl)) ∙ c.get_operand-operand.ensures.value) in record {
      edited = edited-as s u p (λ o. put (half_set m xs i o)) (half_set m xs (i + 1))
          (edited-both s t u p (half_set m xs i) put c.loop-i.invariant.edited
          (subst (λ z. IsOpEdited t z p put) (sym after) (c.op_edits_keep_the_rest.ensures put)))
          (half-next m xs i v at (op_at s p) refl);
      none_come = op_edit_comes s t no_node c.loop-i.invariant.none_come u p put after;
      formed = c.replace_operand.ensures.whole;
    }

pub returns-clause-edited : goal.returns-clause-edited
returns-clause-edited g c =
    let s = c.args.ctx.now in
    let m = images c.args.map.now in
    let xs = operands_of s c.args.op in
    let all : c.loop-i.i ≡ length xs =
    omega (arith, c.loop-i.auto.i-end, c.loop-i-test.false, c.get_num_operands-i-end.ensures.value) in
    edited-as s c.loop-i.ctx c.args.op (half_set m xs c.loop-i.i) (with_operands_in m) c.loop-i.invariant.edited
    (half-all m xs c.loop-i.i all (op_at s c.args.op) refl)
