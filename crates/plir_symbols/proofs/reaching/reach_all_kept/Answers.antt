use Rattle.std.proofs.Common.{◌∙◌}
use Rattle.plir_core.specs.declared.ptr.IRNode.TheVariants.{BasicBlock}
use Rattle.plir_symbols.proofs.KeptLoop.{keeping-cut, keeping-end, keeping-falls, keeping-live, keeping-more}
use Rattle.plir_symbols.proofs.KeptLoop.{rest, keeping-start, keeping-tells}
use Rattle.plir_symbols.proofs.reaching.reach_all_kept.Goals as goal

pub ops-init : goal.ops-init
ops-init g c = keeping-start (c.get_head-at.ensures.value ∙ c.first_child_is_front.ensures.front)

pub reach_kept-requires : goal.reach_kept-requires
reach_kept-requires g c = keeping-live c.ops.invariant c.in-Some.op c.in-Some.is c.stands.ensures.standing

pub get_next-at-requires : goal.get_next-at-requires
get_next-at-requires g c = keeping-live c.ops.invariant c.in-Some.op c.in-Some.is c.stands.ensures.standing

pub ops-preserved : goal.ops-preserved
ops-preserved g c =
    let r = c.ops.invariant in
    let op = c.in-Some.op in
    let is = c.in-Some.is in
    keeping-more r op is c.stands.ensures.standing c.get_next-at.result
    (c.get_next-at.ensures.value ∙ c.next_is_behind.ensures (BasicBlock c.args.block) r.passed (rest r op is).0
    (keeping-cut r op is)) c.reach_kept.new.reached c.in_ok-reach_kept.ensures.grown c.in_ok-reach_kept.ensures.tells

pub ops-smaller : goal.ops-smaller
ops-smaller g c =
    let r = c.ops.invariant in
    let op = c.in-Some.op in
    let is = c.in-Some.is in
    keeping-falls r op is c.stands.ensures.standing c.get_next-at.result
    (c.get_next-at.ensures.value ∙ c.next_is_behind.ensures (BasicBlock c.args.block) r.passed (rest r op is).0
    (keeping-cut r op is))

pub returns-clause-grown : goal.returns-clause-grown
returns-clause-grown g c = keeping-end c.ops.invariant c.in_default.is

pub returns-clause-tells : goal.returns-clause-tells
returns-clause-tells g c = keeping-tells c.ops.invariant c.in_default.is
