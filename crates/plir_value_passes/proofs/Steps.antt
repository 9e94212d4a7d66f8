-- What follows where calls were inlined one after another.
use Rattle.std.proofs.Common.{Bool, [], ◌∷◌, Option, sym, subst}
use Rattle.plir_core.specs.declared.ptr.Ptr.{Ptr}
use Rattle.plir_core.specs.declared.ptr.Operation.{Operation as OperationKind}
use Rattle.plir_core.specs.declared.ptr.IRNode.TheVariants.{Operation}
use Rattle.plir_core.specs.Contents.{OpView}
use Rattle.plir_core.specs.ContextView.{ContextView, IsLive}
use Rattle.plir_walk.specs.NodeLaws.{same-op}
use Rattle.plir_flow.specs.Branches.{Range as Places}
use Rattle.plir_flow_sets.specs.Calls.{CallView}
use Rattle.plir_inliner.specs.Steps.{AreSteps}

module _ {K A T : Type 0} (own_symbol own_table : K → Bool) (calls : OpView K A → Option CallView)
    (returned : OpView K A → Option Places) (root : Ptr OperationKind) where
  -- the root is there still
  pub root-kept : (steps : _) (s t : ContextView K A T) → AreSteps own_symbol own_table calls returned root s steps t →
      IsLive s (Operation root) → IsLive t (Operation root)
  root-kept [] s t went live = subst (λ z. IsLive z (Operation root)) (sym went) live
  root-kept (x ∷ xs) s t went live =
      root-kept xs went.0 t went.3
      (went.2.live (Operation root) live (λ z. went.1.below.other (sym (same-op _ _ z))))
