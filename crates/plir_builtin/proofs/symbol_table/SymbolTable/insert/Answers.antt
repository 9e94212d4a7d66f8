use Rattle.std.proofs.Common.{ap}
use Rattle.std.proofs.lemmas.Result.{err_from_is_err_and}
use Rattle.std.specs.FinMap.{get}
use Rattle.plir_builtin.proofs.Inserts.{planned-grows, planned-placeable}
use Rattle.plir_builtin.specs.Table.{Table}
use Rattle.plir_builtin.proofs.GivenOut.{keeps-put, given-edited, put-given}
use Rattle.plir_builtin.proofs.TableEdits.{insert-not_above, insert-agrees, insert-all}
use Rattle.plir_builtin.proofs.symbol_table.SymbolTable.insert.Goals as goal

pub carry_out-requires-clause-not_above : goal.carry_out-requires-clause-not_above
carry_out-requires-clause-not_above g c =
    insert-not_above g.D.OpSet.is_terminator g.D.OpSet.is_symbol g.D.OpSet.is_symbol_table c.args.ctx.now c.args.ctx.now
    c.stands.ensures.standing c.stands.ensures.standing c.args.self.now c.args.op c.args.point
    c.in_ok-name.field-0.name c.in_ok-name.field-0.body c.in_ok-name.field-0.place c.in_ok-name.ensures.ok
    c.requires.not_above

pub returns-clause-agrees : goal.returns-clause-agrees
returns-clause-agrees g c =
    insert-agrees g.D.OpSet.is_terminator g.D.OpSet.is_symbol g.D.OpSet.is_symbol_table c.args.ctx.now
    c.carry_out.new.ctx c.stands.ensures.standing c.carry_out.ensures.stands c.args.self.now c.args.op c.args.point
    c.in_ok-name.field-0.name c.in_ok-name.field-0.body c.in_ok-name.field-0.place
    (record { plan = c.in_ok-name.ensures.ok; stays = c.carry_out.ensures.stays; put = c.carry_out.ensures.put })
    c.requires.table_live c.record_name.new.self c.in_ok-record_name.ensures.ok

pub returns-clause-all_agree : goal.returns-clause-all_agree
returns-clause-all_agree g c =
    keeps-put g.D.OpSet.is_symbol g.D.OpSet.is_symbol_table c.args.ctx.now c.carry_out.new.ctx c.args.self.now
    c.record_name.new.self
    (insert-all g.D.OpSet.is_terminator g.D.OpSet.is_symbol g.D.OpSet.is_symbol_table c.args.ctx.now c.carry_out.new.ctx
    c.stands.ensures.standing c.carry_out.ensures.stands c.args.self.now c.args.op c.args.point
    c.in_ok-name.field-0.name c.in_ok-name.field-0.body c.in_ok-name.field-0.place
    (record { plan = c.in_ok-name.ensures.ok; stays = c.carry_out.ensures.stays; put = c.carry_out.ensures.put })
    c.requires.table_live c.record_name.new.self c.in_ok-record_name.ensures.ok)

pub returns-clause-given : goal.returns-clause-given
returns-clause-given g c =
    given-edited c.args.ctx.now c.carry_out.new.ctx (put-given c.args.ctx.now c.carry_out.new.ctx c.args.op
    c.in_ok-name.field-0.body c.in_ok-name.field-0.place c.carry_out.ensures.stays c.carry_out.ensures.put)
    c.args.self.now c.record_name.new.self (ap (λ (z : Table). z.op) c.in_ok-record_name.ensures.ok)

pub returns-in_err-record_name-clause-refused : goal.returns-in_err-record_name-clause-refused
returns-in_err-record_name-clause-refused g c =
    let p =
    err_from_is_err_and c.from_residual-in_err-record_name.result c.from_residual-in_err-record_name.ensures.1 in
    rw (p.1, p.2) (planned-grows g.D.OpSet.is_terminator g.D.OpSet.is_symbol c.args.ctx.now (get c.args.self.now.names)
    c.args.self.now.op c.args.op c.args.point c.in_ok-name.field-0.name c.in_ok-name.field-0.body
    c.in_ok-name.field-0.place c.in_ok-name.ensures.ok)

pub returns-clause-placeable : goal.returns-clause-placeable
returns-clause-placeable g c =
    planned-placeable g.D.OpSet.is_terminator g.D.OpSet.is_symbol c.args.ctx.now (get c.args.self.now.names)
    c.args.self.now.op c.args.op c.args.point c.in_ok-name.field-0.name c.in_ok-name.field-0.body
    c.in_ok-name.field-0.place c.in_ok-name.ensures.ok
