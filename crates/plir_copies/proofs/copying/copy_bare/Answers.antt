use Rattle.std.proofs.Common.{sym, subst}
use Rattle.std.proofs.lemmas.Result.{err_from_is_err_and}
use Rattle.plir_core.specs.Held.{IsOpEdited}
use Rattle.plir_core.specs.Contents.{OpView}
use Rattle.plir_core.specs.declared.ptr.IRNode.TheVariants.{Operation}
use Rattle.plir_core.specs.Room.{one_op}
use Rattle.plir_core.specs.RoomLaws.{op_comes, op_edit_comes, op_full}
use Rattle.plir_copies.proofs.Keeping.{made-edited}
use Rattle.plir_copies.proofs.copying.copy_bare.Goals as goal

pub returns-clause-made : goal.returns-clause-made
returns-clause-made g c =
    let s = c.args.ctx.now in
    let t = c.with_attributes.new.ctx in
    let p = c.in_ok-copy.copy in
    let f : OpView g.row.D-Kind.Denot g.row.D-Attr.Denot → OpView g.row.D-Kind.Denot g.row.D-Attr.Denot =
    λ o. record o { location = c.inlined_at-location.result } in
    made-edited s t c.set_loc.new.ctx (Operation p) p f c.in_ok-copy.ensures.made.made
    (subst (λ u. IsOpEdited t u p f) (sym c.set_loc.ensures.after) (c.op_edits_keep_the_rest.ensures f))
    c.in_ok-copy.ensures.made.made.new

pub returns-clause-come : goal.returns-clause-come
returns-clause-come g c =
    let s = c.args.ctx.now in
    let t = c.with_attributes.new.ctx in
    let p = c.in_ok-copy.copy in
    op_edit_comes s t one_op
    (op_comes s c.stands.ensures.whole.stored t _ c.in_ok-copy.ensures.made.after) c.set_loc.new.ctx p _
    c.set_loc.ensures.after

pub returns-in_err-copy-clause-full : goal.returns-in_err-copy-clause-full
returns-in_err-copy-clause-full g c =
    let p = err_from_is_err_and c.from_residual-in_err-copy.result c.from_residual-in_err-copy.ensures.1 in
    rw (p.1, p.2) (λ e. op_full c.args.ctx.now.nodes 0 c.stands.ensures.whole.stored
    (c.in_err-copy.ensures.too_many_only e))
