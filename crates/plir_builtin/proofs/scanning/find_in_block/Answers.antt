use Rattle.plir_builtin.proofs.FindLoop.{finding-start, finding-end, finding-live, finding-found, finding-more}
use Rattle.plir_builtin.proofs.FindLoop.{finding-falls}
use Rattle.plir_builtin.proofs.scanning.find_in_block.Goals as goal

pub ops-init : goal.ops-init
ops-init g c =
    finding-start g.D.OpSet.is_symbol c.args.ctx.now c.args.block c.args.name.now c.get_head-at.result
    c.get_head-at.ensures.value c.first_child_is_front.ensures.front

pub is_symbol_named-requires : goal.is_symbol_named-requires
is_symbol_named-requires g c =
    finding-live g.D.OpSet.is_symbol c.args.ctx.now c.args.block c.args.name.now c.stands.ensures.standing c.ops.at
    c.ops.invariant c.in-Some.op c.in-Some.is

pub get_next-at-requires : goal.get_next-at-requires
get_next-at-requires g c =
    finding-live g.D.OpSet.is_symbol c.args.ctx.now c.args.block c.args.name.now c.stands.ensures.standing c.ops.at
    c.ops.invariant c.in-Some.op c.in-Some.is

pub returns-then-is_symbol_named : goal.returns-then-is_symbol_named
returns-then-is_symbol_named g c =
    finding-found g.D.OpSet.is_symbol c.args.ctx.now c.args.block c.args.name.now c.stands.ensures.standing c.ops.at
    c.ops.invariant c.in-Some.op c.in-Some.is (c.is_symbol_named.ensures.yes c.if-is_symbol_named.true)

pub ops-smaller : goal.ops-smaller
ops-smaller g c =
    finding-falls g.D.OpSet.is_symbol c.args.ctx.now c.args.block c.args.name.now c.stands.ensures.standing c.ops.at
    c.ops.invariant c.in-Some.op c.in-Some.is c.get_next-at.result c.get_next-at.ensures.value c.next_is_behind.ensures

pub ops-preserved : goal.ops-preserved
ops-preserved g c =
    finding-more g.D.OpSet.is_symbol c.args.ctx.now c.args.block c.args.name.now c.stands.ensures.standing c.ops.at
    c.ops.invariant c.in-Some.op c.in-Some.is c.get_next-at.result c.get_next-at.ensures.value c.next_is_behind.ensures
    (c.is_symbol_named.ensures.no c.if-is_symbol_named.false)

pub returns : goal.returns
returns g c =
    finding-end g.D.OpSet.is_symbol c.args.ctx.now c.args.block c.args.name.now c.ops.at c.ops.invariant c.in_default.is
