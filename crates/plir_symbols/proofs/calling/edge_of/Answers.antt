use Rattle.std.proofs.lemmas.Result.{err_from_is_err_and}
use Rattle.plir_builtin.specs.Nearest.{IsNearest}
use Rattle.plir_symbols.proofs.Bringing.{answered-brought, answered-cached, brought-none}
use Rattle.plir_symbols.proofs.Edges.{nearest-refused}
use Rattle.plir_symbols.proofs.calling.edge_of.Goals as goal
use Rattle.std.proofs.Common.{Some}

pub returns-in_err-symbol-clause-refused : goal.returns-in_err-symbol-clause-refused
returns-in_err-symbol-clause-refused g c =
    let p = err_from_is_err_and c.from_residual.result c.from_residual.ensures.1 in
    rw (p.1, p.2) (nearest-refused g.D.OpSet.is_symbol g.D.OpSet.is_symbol_table c.args.ctx.now c.args.tables.now
    c.args.user c.in_err-symbol.field-0.0 c.in_err-symbol.ensures.refused)

pub returns-in_err-symbol-clause-brought : goal.returns-in_err-symbol-clause-brought
returns-in_err-symbol-clause-brought g c =
    brought-none g.D.OpSet.is_symbol g.D.OpSet.is_symbol_table c.args.ctx.now
    (λ t. IsNearest g.D.OpSet.is_symbol_table c.args.ctx.now c.args.user (Some t)) _ _ c.in_err-symbol.ensures.same

pub returns-clause-brought : goal.returns-clause-brought
returns-clause-brought g c =
    answered-brought g.D.OpSet.is_symbol g.D.OpSet.is_symbol_table c.args.ctx.now _ _ c.args.user c.args.name.now _
    c.in_ok-symbol.ensures.answered

pub returns-clause-cached : goal.returns-clause-cached
returns-clause-cached g c =
    answered-cached g.D.OpSet.is_symbol g.D.OpSet.is_symbol_table c.args.ctx.now _ _ c.args.user c.args.name.now _
    c.in_ok-symbol.ensures.answered
