use Rattle.std.proofs.Common.{sym, subst}
use Rattle.plir_data.specs.AttrLive.{HandlesLive}
use Rattle.plir_data.specs.AttrSeen.{attr_view}
use Rattle.plir_data.specs.LiveLaws.{held_live}
use Rattle.plir_builtin.proofs.func_op.find_func_type.Goals as goal

pub returns-clause-live : goal.returns-clause-live
returns-clause-live g c =
    let own = g.D.OpSet.attr_handles in
    let types = c.args.ctx.now.types in
    let handles = subst (HandlesLive own types) (sym c.attributes.ensures.value) c.attributes.ensures.live in
    held_live own types c.as_type.result (attr_view c.in_ok-get.field-0.now) c.as_type.ensures.live
    (c.in_ok-get.ensures.live own types handles)
