use Rattle.std.proofs.Common.{map, arith, refl, subst, ◌∙◌}
use Rattle.std.proofs.lemmas.List.{take_all}
use Rattle.plir_symbols.specs.Chained.{AreChains, at_end}
use Rattle.plir_symbols.specs.declared.call_edges.End.TheVariants.{User, Symbol}
use Rattle.plir_symbols.proofs.Chaining.{chains-next}
use Rattle.plir_symbols.proofs.call_edges.CallGraph.new.Goals as goal

pub loop-edge-init : goal.loop-edge-init
loop-edge-init c = (c.new-by_user.ensures, c.new-by_symbol.ensures)

pub loop-edge-preserved : goal.loop-edge-preserved
loop-edge-preserved c =
    let xs = c.deref-edge-items.result.now in
    let i = c.loop-edge.edge-index in (
      chains-next User xs i _ _ _ _ (omega arith) refl c.in_ok-put.ensures c.loop-edge.invariant.0,
      chains-next Symbol xs i _ _ _ _ (omega arith) refl c.in_ok-put-2.ensures c.loop-edge.invariant.1,
    )

pub invariant_of-result : goal.invariant_of-result
invariant_of-result c =
    let xs = c.deref-edge-items.result.now in
    let all = take_all c.loop-edge.edge-index xs (omega arith) ∙ c.deref-edge-items.ensures.value in (
      subst (λ z. AreChains (map (at_end User) z) c.loop-edge.by_user) all c.loop-edge.invariant.0,
      subst (λ z. AreChains (map (at_end Symbol) z) c.loop-edge.by_symbol) all c.loop-edge.invariant.1,
    )
