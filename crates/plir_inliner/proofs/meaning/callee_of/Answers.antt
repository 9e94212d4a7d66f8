use Rattle.std.proofs.Common.{refl}
use Rattle.plir_inliner.proofs.Meant.{found-means, lookup-refused, none-means}
use Rattle.plir_inliner.proofs.meaning.callee_of.Goals as goal

pub returns-in_default-clause-none : goal.returns-in_default-clause-none
returns-in_default-clause-none g c = λ _ f m. c.in_default.ensures.none refl m.name m.passes

pub returns-clause-some : goal.returns-clause-some
returns-clause-some g c =
    found-means g.D.OpSet.is_symbol g.D.OpSet.is_symbol_table g.D.CallSet.call c.args.ctx.now c.args.call _
    c.in-Some.ensures.some c.lookup_symbol_in_nearest_table.result
    (c.lookup_symbol_in_nearest_table.ensures.found c.requires.sure.agree)

pub returns-clause-none : goal.returns-clause-none
returns-clause-none g c =
    none-means g.D.OpSet.is_symbol g.D.OpSet.is_symbol_table g.D.CallSet.call c.args.ctx.now c.args.call _
    c.in-Some.ensures.some c.lookup_symbol_in_nearest_table.result
    (c.lookup_symbol_in_nearest_table.ensures.found c.requires.sure.agree)

pub returns-clause-sure : goal.returns-clause-sure
returns-clause-sure g c = record {
  agree = c.lookup_symbol_in_nearest_table.ensures.agree c.requires.sure.agree;
  given = c.lookup_symbol_in_nearest_table.ensures.given c.requires.sure.given;
}

pub returns-clause-refused : goal.returns-clause-refused
returns-clause-refused g c =
    lookup-refused g.D.OpSet.is_symbol g.D.OpSet.is_symbol_table g.D.CallSet.call c.args.ctx.now c.args.call _
    c.in-Some.ensures.some c.args.tables.now c.lookup_symbol_in_nearest_table.result
    c.lookup_symbol_in_nearest_table.ensures.refused
