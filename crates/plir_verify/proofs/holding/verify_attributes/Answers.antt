use Rattle.std.proofs.Common.{◌≡◌, ◌∷◌, ap, ◌∙◌}
use Rattle.plir_data.specs.AttrSeen.{attr_view}
use Rattle.plir_data.specs.DictSeen.{pairs_view}
use Rattle.plir_verify.proofs.Entries.{begins, entry-live, goes-on, all-verified, invalid-found}
use Rattle.plir_verify.proofs.holding.verify_attributes.Goals as goal

pub entries-init : goal.entries-init
entries-init g c =
    let into : c.into_iter-attribute-iterator.result ≡ c.iter-attribute-items.result = cc in
    begins g.D.OpSet c.args.ctx.now c.args.op _
    (ap pairs_view into ∙ c.iter-attribute-items.ensures.entries ∙ c.attributes.ensures.value)

pub verify-requires : goal.verify-requires
verify-requires g c =
    let left = pairs_view c.next.new.self in
    entry-live g.D.OpSet c.args.ctx.now c.args.op g.D.OpSet.attr_handles _ left
    (c.in-Some.field-0-0.now, attr_view c.in-Some.attribute.now) (ap pairs_view c.in-Some.ensures.steps)
    c.entries.invariant c.attributes.ensures.live

pub entries-preserved : goal.entries-preserved
entries-preserved g c =
    let left = pairs_view c.next.new.self in
    goes-on g.D.OpSet c.args.ctx.now c.args.op _ left
    (c.in-Some.field-0-0.now, attr_view c.in-Some.attribute.now) (ap pairs_view c.in-Some.ensures.steps)
    c.entries.invariant c.in-Ok.ensures

pub returns-in-Err : goal.returns-in-Err
returns-in-Err g c =
    let left = pairs_view c.next.new.self in
    invalid-found g.D.OpSet c.args.ctx.now c.args.op _ left
    (c.in-Some.field-0-0.now, attr_view c.in-Some.attribute.now) (ap pairs_view c.in-Some.ensures.steps)
    c.entries.invariant c.in-Err.refused c.in-Err.ensures

pub returns : goal.returns
returns g c =
    all-verified g.D.OpSet c.args.ctx.now c.args.op _ (ap pairs_view c.in-None.ensures.steps.0) c.entries.invariant
