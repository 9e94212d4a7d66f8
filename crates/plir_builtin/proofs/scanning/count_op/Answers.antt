use Rattle.std.proofs.Common.{arith, sym, ◌∙◌}
use Rattle.plir_builtin.proofs.CountLoop.{counts-one}
use Rattle.plir_builtin.proofs.scanning.count_op.Goals as goal

pub returns-then-is_symbol : goal.returns-then-is_symbol
returns-then-is_symbol g c =
    let one = counts-one g.D.OpSet.is_symbol c.args.ctx.now c.args.op (sym c.is_symbol.ensures ∙ c.if-is_symbol.true) in
    omega (arith, c.saturating_add.ensures, one)
