use Rattle.std.proofs.Common.{sym, subst}
use Rattle.plir_builtin.specs.Agree.{AllAgree}
use Rattle.plir_builtin.proofs.Cached.{brought-found, brought-good, brought-agree}
use Rattle.plir_builtin.proofs.collection.SymbolTableCollection.lookup_symbol_in_table.Goals as goal

pub returns-in-Err-clause-agree : goal.returns-in-Err-clause-agree
returns-in-Err-clause-agree g c =
    λ all. subst (AllAgree g.D.OpSet.is_symbol g.D.OpSet.is_symbol_table c.args.ctx.now) (sym c.in-Err.ensures.same) all

pub returns-clause-found : goal.returns-clause-found
returns-clause-found g c =
    λ all. brought-found g.D.OpSet.is_symbol g.D.OpSet.is_symbol_table c.args.ctx.now c.args.self.now c.args.table
    c.requires.live c.bring.new.self c.in_default.ensures.kept c.in_default.ensures.made all c.find.result
    c.args.name.now c.find.ensures

pub returns-clause-good : goal.returns-clause-good
returns-clause-good g c =
    λ all. brought-good g.D.OpSet.is_symbol g.D.OpSet.is_symbol_table c.args.ctx.now c.args.self.now c.args.table
    c.requires.live c.bring.new.self c.in_default.ensures.kept c.in_default.ensures.made all

pub returns-clause-agree : goal.returns-clause-agree
returns-clause-agree g c =
    λ all. brought-agree g.D.OpSet.is_symbol g.D.OpSet.is_symbol_table c.args.ctx.now c.args.self.now c.args.table
    c.requires.live c.bring.new.self c.in_default.ensures.kept c.in_default.ensures.made all
