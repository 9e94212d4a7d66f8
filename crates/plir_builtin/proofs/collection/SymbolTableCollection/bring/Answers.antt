use Rattle.plir_core.specs.declared.ptr.IRNode.TheVariants.{Operation}
use Rattle.std.proofs.Common.{sym, subst}
use Rattle.plir_builtin.specs.Agree.{AreGivenOut}
use Rattle.plir_builtin.proofs.GivenOut.{brought-given}
use Rattle.plir_builtin.proofs.collection.SymbolTableCollection.bring.Goals as goal

pub returns-clause-made : goal.returns-clause-made
returns-clause-made g c =
    λ _. (c.in_ok-table.table, c.in_ok-cache.ensures.ok, c.in_ok-table.ensures.op, c.in_ok-table.ensures.agrees)

pub returns-clause-given : goal.returns-clause-given
returns-clause-given g c = λ all.
    brought-given c.args.ctx.now g.D.OpSet.is_symbol g.D.OpSet.is_symbol_table c.args.self.now c.args.op
    (c.stands.ensures.standing.forest.live_given (Operation c.args.op) c.requires) c.cache.new.self
    (c.in_ok-table.table, c.in_ok-cache.ensures.ok, c.in_ok-table.ensures.op, c.in_ok-table.ensures.agrees) all

pub returns-in_err-cache-clause-given : goal.returns-in_err-cache-clause-given
returns-in_err-cache-clause-given g c = λ all. subst (AreGivenOut c.args.ctx.now) (sym c.in_err-cache.ensures.err) all
