use Rattle.std.proofs.Common.{◌∙◌, Some, ap}
use Rattle.std.specs.Prelude.{option_map}
use Rattle.plir_builtin.specs.Table.{Table}
use Rattle.plir_builtin.proofs.MapViews.{table-get}
use Rattle.plir_builtin.proofs.collection.SymbolTableCollection.owner.Goals as goal

pub returns-in-Some : goal.returns-in-Some
returns-in-Some c =
    ap Some c.get_operation.ensures ∙ ap (option_map (λ (t : Table). t.op))
    (c.in-Some.ensures.value ∙ table-get c.self.inside.tables.entries c.args.self.now c.self.view_is c.args.op)

pub returns-in-None : goal.returns-in-None
returns-in-None c =
    ap (option_map (λ (t : Table). t.op))
    (c.in-None.ensures.value ∙ table-get c.self.inside.tables.entries c.args.self.now c.self.view_is c.args.op)
