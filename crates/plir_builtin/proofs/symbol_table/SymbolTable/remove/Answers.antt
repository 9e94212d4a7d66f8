use Rattle.std.proofs.Common.{ap}
use Rattle.plir_builtin.specs.Table.{Table}
use Rattle.plir_builtin.proofs.GivenOut.{keeps-put, given-edited, moved-given}
use Rattle.plir_builtin.proofs.TableEdits.{unlinked-agrees, unlinked-all}
use Rattle.plir_builtin.proofs.symbol_table.SymbolTable.remove.Goals as goal

pub returns-clause-agrees : goal.returns-clause-agrees
returns-clause-agrees g c =
    let f = c.in_ok-forget.ensures.forgotten in
    unlinked-agrees g.D.OpSet.is_symbol g.D.OpSet.is_symbol_table c.args.ctx.now c.unlink.new.ctx
    c.stands.ensures.standing c.stands-2.ensures.standing c.args.self.now c.args.op f.name f.named
    c.requires.at_body f.member c.requires.table_live c.forget.new.self f.table c.unlink.ensures.unlinked

pub returns-clause-all_agree : goal.returns-clause-all_agree
returns-clause-all_agree g c =
    let f = c.in_ok-forget.ensures.forgotten in
    keeps-put g.D.OpSet.is_symbol g.D.OpSet.is_symbol_table c.args.ctx.now c.unlink.new.ctx c.args.self.now
    c.forget.new.self
    (unlinked-all g.D.OpSet.is_symbol g.D.OpSet.is_symbol_table c.args.ctx.now c.unlink.new.ctx
    c.stands.ensures.standing c.stands-2.ensures.standing c.args.self.now c.args.op f.name f.named
    c.requires.at_body f.member c.requires.table_live c.forget.new.self f.table c.unlink.ensures.unlinked)

pub returns-clause-given : goal.returns-clause-given
returns-clause-given g c =
    given-edited c.args.ctx.now c.unlink.new.ctx
    (moved-given c.args.ctx.now c.unlink.new.ctx c.unlink.ensures.unlinked.moved.ops) c.args.self.now
    c.forget.new.self (ap (λ (z : Table). z.op) c.in_ok-forget.ensures.forgotten.table)
