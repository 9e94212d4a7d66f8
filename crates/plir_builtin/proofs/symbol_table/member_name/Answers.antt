use Rattle.std.proofs.Common.{◌∙◌, refl, sym}
use Rattle.plir_builtin.specs.Refusals.{no_symbol, not_there, unnamed}
use Rattle.plir_builtin.proofs.symbol_table.member_name.Goals as goal

pub returns-then-not-is_symbol-clause-refused : goal.returns-then-not-is_symbol-clause-refused
returns-then-not-is_symbol-clause-refused g c = (no_symbol, refl, sym c.is_symbol.ensures ∙ c.if-not-is_symbol.true)

pub returns-then-not-stands_in-clause-refused : goal.returns-then-not-stands_in-clause-refused
returns-then-not-stands_in-clause-refused g c = (
  not_there,
  refl,
  (
    sym c.is_symbol.ensures ∙ c.if-not-is_symbol.false,
    λ e. c.stands_in.ensures.no c.if-not-stands_in.true (e ∙ c.body_of.ensures.body),
  ),
)

pub returns-in-None-clause-refused : goal.returns-in-None-clause-refused
returns-in-None-clause-refused g c = (
  unnamed,
  refl,
  (
    sym c.is_symbol.ensures ∙ c.if-not-is_symbol.false,
    c.stands_in.ensures.yes c.if-not-stands_in.false ∙ sym c.body_of.ensures.body,
    sym c.in-None.ensures,
  ),
)
