-- What passes may say of their ends.
use Rattle.std.proofs.Common.{◌≡◌, ℕ, ◌+◌, ◌≢◌, List, [], length, ap, ◌∙◌, arith}
use Rattle.std.proofs.lemmas.List.{nil_from_length}
use Rattle.plir_core.specs.ContextView.{ContextView, num_live}
use Rattle.plir_core.specs.Erase.{without_nodes}
use Rattle.plir_core.specs.declared.ptr.IRNode.{IRNode}
use Rattle.plir_walk.specs.Thinned.{IsThinned}

module _ {K A T : Type 0} (s t : ContextView K A T) where
  -- where as many nodes are live, none is gone
  pub thinned-same : IsThinned s t → num_live t ≡ num_live s → t ≡ s
  thinned-same thinned same =
      let counted = thinned.count in
      let none : length thinned.gone ≡ 0 = omega (arith, counted, same) in
      thinned.after ∙ ap (λ (ns : List IRNode). record s { nodes = without_nodes s.nodes ns }) (nil_from_length thinned.gone none)

  -- and else some are
  pub other-size : (num_live t ≡ num_live s → ⊥) → t ≢ s
  other-size differs is = differs (ap num_live is)
