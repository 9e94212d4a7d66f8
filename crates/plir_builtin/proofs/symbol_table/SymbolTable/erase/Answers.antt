use Rattle.std.proofs.Common.{ap, ◌∙◌}
use Rattle.plir_core.specs.declared.ptr.IRNode.TheVariants.{Operation}
use Rattle.plir_builtin.specs.Table.{Table}
use Rattle.plir_builtin.proofs.GivenOut.{keeps-put, given-edited}
use Rattle.plir_builtin.proofs.TableEdits.{erased-agrees, erased-all}
use Rattle.plir_builtin.proofs.symbol_table.SymbolTable.erase.Goals as goal

pub returns-clause-agrees : goal.returns-clause-agrees
returns-clause-agrees g c =
    let f = c.in_ok-forget.ensures.forgotten in
    erased-agrees g.D.OpSet.is_symbol g.D.OpSet.is_symbol_table c.args.ctx.now c.erase.new.ctx c.stands.ensures.standing
    c.stands-2.ensures.standing c.args.self.now c.args.op f.name f.named c.requires.at_body f.member
    c.requires.table_live c.forget.new.self f.table c.erase.ensures.tree

pub returns-clause-all_agree : goal.returns-clause-all_agree
returns-clause-all_agree g c =
    let f = c.in_ok-forget.ensures.forgotten in
    keeps-put g.D.OpSet.is_symbol g.D.OpSet.is_symbol_table c.args.ctx.now c.erase.new.ctx c.args.self.now
    c.forget.new.self
    (erased-all g.D.OpSet.is_symbol g.D.OpSet.is_symbol_table c.args.ctx.now c.erase.new.ctx c.stands.ensures.standing
    c.stands-2.ensures.standing c.args.self.now c.args.op f.name f.named c.requires.at_body f.member
    c.requires.table_live c.forget.new.self f.table c.erase.ensures.tree)

pub returns-clause-given : goal.returns-clause-given
returns-clause-given g c =
    given-edited c.args.ctx.now c.erase.new.ctx (λ p h. c.erase.ensures.tree.given (Operation p) ∙ h) c.args.self.now
    c.forget.new.self (ap (λ (z : Table). z.op) c.in_ok-forget.ensures.forgotten.table)
