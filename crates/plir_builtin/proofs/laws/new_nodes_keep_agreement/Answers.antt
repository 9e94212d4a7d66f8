use Rattle.plir_builtin.proofs.NewNodes.{made-agree, same-agree, typed-agree}
use Rattle.plir_builtin.proofs.laws.new_nodes_keep_agreement.Goals as goal

pub returns-clause-made : goal.returns-clause-made
returns-clause-made g c =
    λ s n tables whole made given all. made-agree s c.args.ctx.now (c.contexts_stand.ensures s whole)
    g.D.OpSet.is_symbol g.D.OpSet.is_symbol_table tables n made given all

pub returns-clause-refused : goal.returns-clause-refused
returns-clause-refused g c =
    λ s tables whole same all. same-agree s c.args.ctx.now (c.contexts_stand.ensures s whole) g.D.OpSet.is_symbol
    g.D.OpSet.is_symbol_table tables same.nodes all

pub returns-clause-types : goal.returns-clause-types
returns-clause-types g c =
    λ s tables whole same all. typed-agree s c.args.ctx.now (c.contexts_stand.ensures s whole) g.D.OpSet.is_symbol
    g.D.OpSet.is_symbol_table tables same all
