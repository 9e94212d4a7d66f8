use Rattle.std.proofs.Common.{sym, ◌∙◌}
use Rattle.plir_symbols.proofs.Going.{refused, no-symbol, not-private}
use Rattle.plir_symbols.proofs.reaching.may_go.Goals as goal

pub returns-then-not-is_symbol : goal.returns-then-not-is_symbol
returns-then-not-is_symbol g c =
    refused (no-symbol g.D.OpSet.is_symbol g.D.SymbolNames.is_private c.args.ctx.now c.args.op
    (sym c.is_symbol.ensures ∙ c.if-not-is_symbol.true))

pub returns-then-not-is_private : goal.returns-then-not-is_private
returns-then-not-is_private g c =
    refused (not-private g.D.OpSet.is_symbol g.D.SymbolNames.is_private c.args.ctx.now c.args.op
    (sym c.is_private.ensures ∙ c.if-not-is_private.true))
