use Rattle.std.proofs.Common.{map, filter_map, sym, ap, subst, ◌∙◌}
use Rattle.std.proofs.lemmas.Result.{IfOk-weaker}
use Rattle.plir_symbols.specs.Chained.{AreChains, at_end, found_by}
use Rattle.plir_symbols.specs.declared.call_edges.End.TheVariants.{Symbol}
use Rattle.plir_symbols.proofs.call_edges.CallGraph.callers.Goals as goal

pub found_along-requires : goal.found_along-requires
found_along-requires c =
    subst (λ es. AreChains (map (at_end Symbol) es) c.self.inside.by_symbol) (sym c.as_slice-edges.ensures.value)
    c.self.invariant.1

pub returns : goal.returns
returns c =
    IfOk-weaker c.found_along.result _ _
    (λ r is. is ∙ ap (filter_map (found_by Symbol c.args.symbol)) (c.as_slice-edges.ensures.value ∙ c.self.view_is))
    c.found_along.ensures
