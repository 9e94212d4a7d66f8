use Rattle.std.proofs.Common.{sym, ◌∙◌}
use Rattle.plir_builtin.proofs.FindLoop.{named-yes, named-no}
use Rattle.plir_builtin.proofs.scanning.is_symbol_named.Goals as goal

pub returns-in-Some-clause-yes : goal.returns-in-Some-clause-yes
returns-in-Some-clause-yes g c =
    named-yes g.D.OpSet.is_symbol c.args.ctx.now c.args.op c.args.name.now c.in-Some.own.now
    (sym c.is_symbol.ensures ∙ c.if-not-is_symbol.false) (sym c.in-Some.ensures) c.eq.result c.eq.ensures

pub returns-in-Some-clause-no : goal.returns-in-Some-clause-no
returns-in-Some-clause-no g c =
    named-no g.D.OpSet.is_symbol c.args.ctx.now c.args.op c.args.name.now c.in-Some.own.now
    (sym c.is_symbol.ensures ∙ c.if-not-is_symbol.false) (sym c.in-Some.ensures) c.eq.result c.eq.ensures
