use Rattle.std.proofs.Common.{◌∙◌, sym}
use Rattle.plir_builtin.proofs.Seeking.{seeking-start, seeking-found, seeking-end, seeking-more, seeking-falls}
use Rattle.plir_builtin.proofs.nearest.nearest_symbol_table.Goals as goal

pub up-init : goal.up-init
up-init g c = seeking-start g.D.OpSet.is_symbol_table c.args.ctx.now c.args.from c.requires

pub is_table-requires : goal.is_table-requires
is_table-requires g c = c.up.invariant.live c.in-Some.op c.in-Some.is

pub get_parent_op-at-requires : goal.get_parent_op-at-requires
get_parent_op-at-requires g c = c.up.invariant.live c.in-Some.op c.in-Some.is

pub returns-then-is_table-clause-nearest : goal.returns-then-is_table-clause-nearest
returns-then-is_table-clause-nearest g c =
    seeking-found g.D.OpSet.is_symbol_table c.args.ctx.now c.args.from c.up.at c.up.invariant c.in-Some.op c.in-Some.is
    (sym c.is_table.ensures ∙ c.if-is_table.true)

pub up-preserved : goal.up-preserved
up-preserved g c =
    seeking-more g.D.OpSet.is_symbol_table c.args.ctx.now c.args.from c.stands.ensures.standing c.up.at c.up.invariant
    c.in-Some.op c.in-Some.is c.get_parent_op-at.result c.get_parent_op-at.ensures.value
    (sym c.is_table.ensures ∙ c.if-is_table.false)

pub up-smaller : goal.up-smaller
up-smaller g c =
    seeking-falls g.D.OpSet.is_symbol_table c.args.ctx.now c.args.from c.stands.ensures.standing c.up.at c.up.invariant
    c.in-Some.op c.in-Some.is c.get_parent_op-at.result c.get_parent_op-at.ensures.value

pub returns-clause-nearest : goal.returns-clause-nearest
returns-clause-nearest g c =
    seeking-end g.D.OpSet.is_symbol_table c.args.ctx.now c.args.from c.up.at c.up.invariant c.in_default.is
