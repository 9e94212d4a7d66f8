use Rattle.std.proofs.Common.{Ok, refl, ap, arith, ◌∙◌}
use Rattle.plir_core.specs.declared.ptr.IRNode.TheVariants.{Operation}
use Rattle.plir_passes.proofs.Walking.{converted-by, walk-converted, legal-at-end}
use Rattle.plir_walk.specs.WalkLaws.{never-at-limit, limit-at-exit, walk-lasts}
use Rattle.plir_passes.proofs.WholeWalks.{conversion-ended, conversion-broken, conversion-idle}
use Rattle.plir_passes.proofs.conversion.convert.Goals as goal

pub walk_op-end-requires-clause-lawful : goal.walk_op-end-requires-clause-lawful
walk_op-end-requires-clause-lawful g c = λ d t n a d' t' p.
    let illegal = g.C.Conversion.illegal c.args.conversion.now in
    let rewrites = g.C.Conversion.rewrites c.args.conversion.now in
    (converted-by illegal rewrites p.made.shows.0 p.made.leaves.0 p.made.met.1).lawful

pub returns-in-Ok-Continue-clause-legal : goal.returns-in-Ok-Continue-clause-legal
returns-in-Ok-Continue-clause-legal g c =
    let illegal = g.C.Conversion.illegal c.args.conversion.now in
    let rewrites = g.C.Conversion.rewrites c.args.conversion.now in
    let t = c.walk_op-end.new.ctx in
    legal-at-end illegal rewrites _ (Operation c.args.root)
    (λ d t n a d' t' p. converted-by illegal rewrites p.shows.0 p.leaves.0 p.met.1) _ c.args.ctx.now t _ _ _ _ _
    (c.in-Ok-Continue.is ∙ ap Ok c.in-Ok-Continue.field-0-is) (refl, refl, refl)
    (c.lawful_changes.ensures.forest t c.stands-2.ensures.whole) c.walk_op-end.ensures

pub returns-in-Ok-Continue-clause-converted : goal.returns-in-Ok-Continue-clause-converted
returns-in-Ok-Continue-clause-converted g c =
    let illegal = g.C.Conversion.illegal c.args.conversion.now in
    let rewrites = g.C.Conversion.rewrites c.args.conversion.now in
    let s = c.args.ctx.now in
    walk-converted illegal rewrites _ (Operation c.args.root)
    (λ d t n a d' t' p. converted-by illegal rewrites p.shows.0 p.leaves.0 p.met.1) s c.walk_op-end.new.ctx _ _
    c.walk_op-end.ensures.calls (c.lawful_changes.ensures.forest s c.stands.ensures.whole) c.walk_op-end.ensures.chain

pub returns-in-Ok-Continue-clause-lawful : goal.returns-in-Ok-Continue-clause-lawful
returns-in-Ok-Continue-clause-lawful g c =
    let illegal = g.C.Conversion.illegal c.args.conversion.now in
    let rewrites = g.C.Conversion.rewrites c.args.conversion.now in
    let s = c.args.ctx.now in
    let walked = c.walk_op-end.ensures in
    (walk-lasts g.D.OpSet.attr_handles c.lawful_changes.ensures _ (Operation c.args.root)
    (λ d t n a d' t' p. (converted-by illegal rewrites p.shows.0 p.leaves.0 p.met.1).lawful) s c.walk_op-end.new.ctx _ _
    walked.calls (c.lawful_changes.ensures.forest s c.stands.ensures.whole) c.requires walked.chain).2

pub returns-in-Ok-Break-clause-converted : goal.returns-in-Ok-Break-clause-converted
returns-in-Ok-Break-clause-converted g c =
    let illegal = g.C.Conversion.illegal c.args.conversion.now in
    let rewrites = g.C.Conversion.rewrites c.args.conversion.now in
    let s = c.args.ctx.now in
    walk-converted illegal rewrites _ (Operation c.args.root)
    (λ d t n a d' t' p. converted-by illegal rewrites p.shows.0 p.leaves.0 p.met.1) s c.walk_op-end.new.ctx _ _
    c.walk_op-end.ensures.calls (c.lawful_changes.ensures.forest s c.stands.ensures.whole) c.walk_op-end.ensures.chain

pub returns-in-Ok-Break-clause-lawful : goal.returns-in-Ok-Break-clause-lawful
returns-in-Ok-Break-clause-lawful g c =
    let illegal = g.C.Conversion.illegal c.args.conversion.now in
    let rewrites = g.C.Conversion.rewrites c.args.conversion.now in
    let s = c.args.ctx.now in
    let walked = c.walk_op-end.ensures in
    (walk-lasts g.D.OpSet.attr_handles c.lawful_changes.ensures _ (Operation c.args.root)
    (λ d t n a d' t' p. (converted-by illegal rewrites p.shows.0 p.leaves.0 p.met.1).lawful) s c.walk_op-end.new.ctx _ _
    walked.calls (c.lawful_changes.ensures.forest s c.stands.ensures.whole) c.requires walked.chain).2

pub returns-in-Ok-Continue-clause-handed : goal.returns-in-Ok-Continue-clause-handed
returns-in-Ok-Continue-clause-handed g c =
    let illegal = g.C.Conversion.illegal c.args.conversion.now in
    let rewrites = g.C.Conversion.rewrites c.args.conversion.now in
    conversion-ended illegal rewrites (Operation c.args.root) _
    (λ d t n a d' t' p. converted-by illegal rewrites p.shows.0 p.leaves.0 p.met.1) c.args.ctx.now
    c.walk_op-end.new.ctx _ _ c.walk_op-end.ensures _ (c.in-Ok-Continue.is ∙ ap Ok c.in-Ok-Continue.field-0-is)

pub returns-in-Ok-Continue-clause-idle : goal.returns-in-Ok-Continue-clause-idle
returns-in-Ok-Continue-clause-idle g c =
    let illegal = g.C.Conversion.illegal c.args.conversion.now in
    let rewrites = g.C.Conversion.rewrites c.args.conversion.now in
    conversion-idle illegal rewrites (Operation c.args.root) c.args.ctx.now c.walk_op-end.new.ctx _
    (conversion-ended illegal rewrites (Operation c.args.root) _
    (λ d t n a d' t' p. converted-by illegal rewrites p.shows.0 p.leaves.0 p.met.1) c.args.ctx.now
    c.walk_op-end.new.ctx _ _ c.walk_op-end.ensures _ (c.in-Ok-Continue.is ∙ ap Ok c.in-Ok-Continue.field-0-is))

pub returns-in-Ok-Break-clause-handed : goal.returns-in-Ok-Break-clause-handed
returns-in-Ok-Break-clause-handed g c =
    let illegal = g.C.Conversion.illegal c.args.conversion.now in
    let rewrites = g.C.Conversion.rewrites c.args.conversion.now in
    conversion-broken illegal rewrites (Operation c.args.root) _
    (λ d t n a d' t' p. converted-by illegal rewrites p.shows.0 p.leaves.0 p.met.1) c.args.ctx.now
    c.walk_op-end.new.ctx _ _ c.walk_op-end.ensures _ (c.in-Ok-Break.is ∙ ap Ok c.in-Ok-Break.field-0-is)

pub returns-in-Ok-Break-clause-idle : goal.returns-in-Ok-Break-clause-idle
returns-in-Ok-Break-clause-idle g c =
    let illegal = g.C.Conversion.illegal c.args.conversion.now in
    let rewrites = g.C.Conversion.rewrites c.args.conversion.now in
    conversion-idle illegal rewrites (Operation c.args.root) c.args.ctx.now c.walk_op-end.new.ctx _
    (conversion-broken illegal rewrites (Operation c.args.root) _
    (λ d t n a d' t' p. converted-by illegal rewrites p.shows.0 p.leaves.0 p.met.1) c.args.ctx.now
    c.walk_op-end.new.ctx _ _ c.walk_op-end.ensures _ (c.in-Ok-Break.is ∙ ap Ok c.in-Ok-Break.field-0-is))

pub unreachable-requires : goal.unreachable-requires
unreachable-requires g c =
    let illegal = g.C.Conversion.illegal c.args.conversion.now in
    let rewrites = g.C.Conversion.rewrites c.args.conversion.now in
    let s = c.args.ctx.now in
    let r = Operation c.args.root in
    let t = c.walk_op-end.new.ctx in
    let walked = c.walk_op-end.ensures in
    let most = c.from.ensures in
    let lasts =
    walk-lasts g.D.OpSet.attr_handles c.lawful_changes.ensures _ r
    (λ d t n a d' t' p. (converted-by illegal rewrites p.shows.0 p.leaves.0 p.met.1).lawful) s t _ _ walked.calls
    (c.lawful_changes.ensures.forest s c.stands.ensures.whole) c.requires walked.chain in
    never-at-limit _ t r _ walked.calls _ c.before_is_a_total_order.ensures
    (c.contexts_stand.ensures t c.stands-2.ensures.whole) lasts.1 (omega arith)
    (limit-at-exit _ s t _ _ r _ _ _ c.in-Err.is (refl, refl, refl) walked)
