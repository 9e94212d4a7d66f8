use Rattle.std.proofs.Common.{◌≡◌, Ok, refl, ap, arith, ◌∙◌}
use Rattle.plir_core.specs.declared.arena.making.NodeErr.TheVariants.{TooManyNodes}
use Rattle.plir_core.specs.declared.ptr.IRNode.TheVariants.{Operation}
use Rattle.plir_folding.proofs.Walking.{folded-at, walk-below, tells-at-end, settled-at-end, crowded-at-end}
use Rattle.plir_walk.specs.WalkLaws.{never-at-limit, limit-at-exit, walk-lasts}
use Rattle.plir_folding.proofs.folding.fold_round.Goals as goal

pub walk_op-end-requires-clause-lawful : goal.walk_op-end-requires-clause-lawful
walk_op-end-requires-clause-lawful g c = λ d e n a d' e' p.
    (folded-at g.D.FoldSet.fold g.D.OpSet.attr_handles p.made.shows.0 p.made.shows.1 p.made.leaves.0 p.made.leaves.1
    p.made.met.1).below.lawful

pub returns-in-Ok-Continue-clause-below : goal.returns-in-Ok-Continue-clause-below
returns-in-Ok-Continue-clause-below g c =
    let fold = g.D.FoldSet.fold in
    let own = g.D.OpSet.attr_handles in
    walk-below fold own _ (Operation c.args.root) c.lawful_changes.ensures
    (λ d e n a d' e' p. folded-at fold own p.shows.0 p.shows.1 p.leaves.0 p.leaves.1 p.met.1) c.args.ctx.now
    c.walk_op-end.new.ctx _ _ c.walk_op-end.ensures.calls c.stands.ensures.whole c.requires c.walk_op-end.ensures.chain

pub returns-in-Ok-Break-clause-below : goal.returns-in-Ok-Break-clause-below
returns-in-Ok-Break-clause-below g c =
    let fold = g.D.FoldSet.fold in
    let own = g.D.OpSet.attr_handles in
    walk-below fold own _ (Operation c.args.root) c.lawful_changes.ensures
    (λ d e n a d' e' p. folded-at fold own p.shows.0 p.shows.1 p.leaves.0 p.leaves.1 p.met.1) c.args.ctx.now
    c.walk_op-end.new.ctx _ _ c.walk_op-end.ensures.calls c.stands.ensures.whole c.requires c.walk_op-end.ensures.chain

pub returns-in-Ok-Continue-clause-told : goal.returns-in-Ok-Continue-clause-told
returns-in-Ok-Continue-clause-told g c =
    let fold = g.D.FoldSet.fold in
    let own = g.D.OpSet.attr_handles in
    let laws = c.lawful_changes.ensures in
    let s = c.args.ctx.now in
    let r = Operation c.args.root in
    let t = c.walk_op-end.new.ctx in
    let walked = c.walk_op-end.ensures in
    let whole = c.stands.ensures.whole in
    let is = c.in-Ok-Continue.is in
    let field = rw is at c.in-Ok-Continue.field-0-is in
    record {
      tells = tells-at-end fold own _ r laws
          (λ d e n a d' e' p. folded-at fold own p.shows.0 p.shows.1 p.leaves.0 p.leaves.1 p.met.1)
          _ s t _ _ _ _ _ (is ∙ ap Ok field) (refl, refl, refl) whole walked;
      settled = settled-at-end fold own _ r laws
          (λ d e n a d' e' p. folded-at fold own p.shows.0 p.shows.1 p.leaves.0 p.leaves.1 p.met.1)
          _ s t _ _ _ _ _ (is ∙ ap Ok field) (refl, refl, refl) whole walked
          (laws.forest t c.stands-2.ensures.whole);
    }

pub unreachable-requires : goal.unreachable-requires
unreachable-requires g c =
    let fold = g.D.FoldSet.fold in
    let own = g.D.OpSet.attr_handles in
    let laws = c.lawful_changes.ensures in
    let s = c.args.ctx.now in
    let r = Operation c.args.root in
    let t = c.walk_op-end.new.ctx in
    let walked = c.walk_op-end.ensures in
    let most = c.from.ensures in
    let lasts =
    walk-lasts own laws _ r
    (λ d e n a d' e' p. (folded-at fold own p.shows.0 p.shows.1 p.leaves.0 p.leaves.1 p.met.1).below.lawful) s t _ _
    walked.calls (laws.forest s c.stands.ensures.whole) c.requires walked.chain in
    never-at-limit _ t r _ walked.calls _ c.before_is_a_total_order.ensures
    (c.contexts_stand.ensures t c.stands-2.ensures.whole) lasts.1 (omega arith)
    (limit-at-exit _ s t _ _ r _ _ _ c.in-Err.is (refl, refl, refl) walked)

pub returns-in-Ok-Break-clause-crowded : goal.returns-in-Ok-Break-clause-crowded
returns-in-Ok-Break-clause-crowded g c = λ e.
    (let is = c.in-Ok-Break.is in
    let field = rw is at c.in-Ok-Break.field-0-is in
    crowded-at-end g.D.FoldSet.fold g.D.OpSet.attr_handles _ (Operation c.args.root) c.lawful_changes.ensures
    (λ d e n a d' e' p. folded-at g.D.FoldSet.fold g.D.OpSet.attr_handles p.shows.0 p.shows.1 p.leaves.0 p.leaves.1
    p.met.1) _ c.args.ctx.now c.walk_op-end.new.ctx _ _ _ _ c.in-Ok-Break.refusal (is ∙ ap Ok field)
    (refl, refl, refl) c.walk_op-end.ensures (let q : c.in-Ok-Break.refusal ≡ TooManyNodes = cc in q))
