use Rattle.std.proofs.Common.{ap, Err}
use Rattle.plir_core.specs.Contents.{op_view}
use Rattle.plir_core.specs.declared.ptr.IRNode.TheVariants.{Operation, Region}
use Rattle.plir_core.specs.RoomLaws.{op_full}
use Rattle.plir_read.proofs.RoomLaws.{op_comes}
use Rattle.plir_read.proofs.OpSteps.{refused_as}
use Rattle.plir_read.specs.laws.SlotLaws.{op_given, region_new}
use Rattle.plir_read.proofs.making.make_with.Goals as goal

pub returns-in-Ok-clause-slots : goal.returns-in-Ok-clause-slots
returns-in-Ok-clause-slots g c =
    let o = c.in-Ok.ensures.made in
    let r = c.get_region-region in
    let v = op_view c.args.kind c.new-results.result.items c.new-operands.result.items c.new-successors.result.items
    c.args.attributes in
    op_given c.args.ctx.now c.with_attributes.new.ctx c.stands.ensures.whole.stored v c.in-Ok.op r.result o.after
    o.made.new o.made.root
    (region_new c.args.ctx.now.nodes c.with_attributes.new.ctx.nodes (Operation c.in-Ok.op) (Region r.result) o.made
    o.regions r.ensures.value) r.ensures.live

pub returns-in-Err-clause-refused : goal.returns-in-Err-clause-refused
returns-in-Err-clause-refused g c =
    let o = c.in-Err.ensures in
    refused_as _ _ c.stop_of.result
    (λ e. op_full c.args.ctx.now.nodes 1 c.stands.ensures.whole.stored
    (o.too_many_only (ap (λ x. Err x) e))) c.stop_of.ensures

pub returns-in-Ok-clause-come : goal.returns-in-Ok-clause-come
returns-in-Ok-clause-come g c =
    op_comes c.args.ctx.now c.stands.ensures.whole.stored c.with_attributes.new.ctx _ c.in-Ok.ensures.made.after
