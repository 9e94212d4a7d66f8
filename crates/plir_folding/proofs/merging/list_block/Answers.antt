use Rattle.std.proofs.Common.{◌∙◌}
use Rattle.plir_core.specs.declared.ptr.IRNode.TheVariants.{BasicBlock}
use Rattle.plir_folding.proofs.Listing.{listing-start, listing-end, listing-live, listing-more, listing-falls}
use Rattle.plir_folding.proofs.merging.list_block.Goals as goal

pub ops-init : goal.ops-init
ops-init g c =
    listing-start c.args.ctx.now c.args.block c.args.merges.now.items c.new-firsts.result c.get_head-at.result
    c.new-firsts.ensures.empty (c.get_head-at.ensures.value ∙ c.first_child_is_front.ensures.front)

pub get_next-at-requires : goal.get_next-at-requires
get_next-at-requires g c =
    listing-live c.args.ctx.now c.args.block c.stands.ensures.standing.forest c.args.merges.now.items
    c.ops.merges.items c.ops.firsts c.ops.at c.ops.invariant c.in-Some.op c.in-Some.is

pub note-requires : goal.note-requires
note-requires g c =
    listing-live c.args.ctx.now c.args.block c.stands.ensures.standing.forest c.args.merges.now.items
    c.ops.merges.items c.ops.firsts c.ops.at c.ops.invariant c.in-Some.op c.in-Some.is

pub ops-smaller : goal.ops-smaller
ops-smaller g c =
    listing-falls c.args.ctx.now c.args.block c.stands.ensures.standing.forest c.args.merges.now.items
    c.ops.merges.items c.ops.firsts c.ops.at c.ops.invariant c.in-Some.op c.in-Some.is c.get_next-at.result
    (λ xs ys q. c.get_next-at.ensures.value ∙ c.next_is_behind.ensures (BasicBlock c.args.block) xs ys q)

pub ops-preserved : goal.ops-preserved
ops-preserved g c =
    listing-more c.args.ctx.now c.args.block c.stands.ensures.standing.forest c.args.merges.now.items
    c.ops.merges.items c.ops.firsts c.ops.at c.ops.invariant c.in-Some.op c.in-Some.is c.get_next-at.result
    (λ xs ys q. c.get_next-at.ensures.value ∙ c.next_is_behind.ensures (BasicBlock c.args.block) xs ys q)
    c.note.new.merges.items c.note.new.firsts c.in_ok-note.ensures

pub returns : goal.returns
returns g c =
    listing-end c.args.ctx.now c.args.block c.stands.ensures.standing.forest c.args.merges.now.items
    c.ops.merges.items c.ops.firsts c.ops.at c.ops.invariant c.in_default.is
