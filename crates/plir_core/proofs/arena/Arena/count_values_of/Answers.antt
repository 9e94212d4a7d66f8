use Rattle.std.proofs.Common.{arith}
use Rattle.plir_core.specs.Erase.{tree_of}
use Rattle.plir_core.specs.ContextView.{entity_node}
use Rattle.plir_core.specs.declared.value.Value.{Value}
use Rattle.plir_core.proofs.TreeUses.{hits-start, hits-all, value-more}
use Rattle.plir_core.proofs.arena.Arena.count_values_of.Goals as goal

pub loop-value-init : goal.loop-value-init
loop-value-init g c = record {
  counted = hits-start (λ (v : Value). entity_node v.entity) c.args.values.now (tree_of c.args.self.now c.args.root);
  fits = omega arith;
}

pub loop-value-preserved : goal.loop-value-preserved
loop-value-preserved g c = record {
  counted = value-more c.args.self.now c.args.root c.args.values.now c.loop-value.value-index _ c.defining_entity.result
      c.node.result c.loop-value.count c.num_places-count.result c.defining_entity.ensures c.node.ensures
      c.loop-value-test.true c.loop-value.invariant.counted c.num_places-count.ensures.places;
  fits = let one = c.num_places-count.ensures.once in let fits = c.loop-value.invariant.fits in omega arith;
}

pub returns : goal.returns
returns g c = hits-all (λ (v : Value). entity_node v.entity) c.args.values.now (tree_of c.args.self.now c.args.root)
    c.loop-value.value-index c.loop-value.count c.loop-value-test.false c.loop-value.invariant.counted
