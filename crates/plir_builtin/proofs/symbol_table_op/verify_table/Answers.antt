use Rattle.std.proofs.Common.{inr}
use Rattle.plir_builtin.proofs.SoleBlocks.{sole-some}
use Rattle.plir_builtin.proofs.UseChecks.{use-fault}
use Rattle.plir_builtin.proofs.symbol_table_op.verify_table.Goals as goal

pub verify_symbols-requires-clause-at_body : goal.verify_symbols-requires-clause-at_body
verify_symbols-requires-clause-at_body g c =
    sole-some c.args.ctx.now c.args.op c.requires.one_region c.requires.single_blocks

pub returns-in-Err-verify_uses-clause-refused : goal.returns-in-Err-verify_uses-clause-refused
returns-in-Err-verify_uses-clause-refused g c =
    let S = g.D.OpSet in
    let U = g.D.SymbolUserSet in
    inr (
      c.in_default.ensures.ok,
      use-fault S.is_symbol_table S.is_symbol_user U.uses_hold U.use_refusal c.args.ctx.now c.args.op
          c.in-Err-verify_uses.refused c.tell_use.result c.tell_use.ensures c.in-Err-verify_uses.ensures.refused,
    )
