-- What follows from a refusal by an error, for the proofs of every crate.
use Rattle.plir_data.specs.declared.location.VerifyErr.{VerifyErr}
use Rattle.plir_data.specs.declared.location.VerifyErr.TheVariants.{Refused, Memory}
use Rattle.plir_core.specs.declared.ptr.Ptr.{Ptr}
use Rattle.plir_core.specs.declared.ptr.Operation.{Operation as OperationKind}
use Rattle.plir_core.specs.ContextView.{ContextView}
use Rattle.plir_iface.specs.Verdict.{IsRefusal, IsRefusalMemoryAside}

module _ {K A T E : Type 0} (s : ContextView K A T) (op : Ptr OperationKind) (P Q : E → Type 0)
    (along : (e : E) → P e → Q e) where
  pub refusal-weaker : (v : VerifyErr E) → IsRefusal s op P v → IsRefusal s op Q v
  refusal-weaker (Refused loc err) r = (r.0, along err r.1)
  refusal-weaker Memory r = absurd r

  pub refusal-aside : (v : VerifyErr E) → IsRefusal s op P v → IsRefusalMemoryAside s op Q v
  refusal-aside (Refused loc err) r = (r.0, along err r.1)
  refusal-aside Memory r = tt

  pub aside-weaker : (v : VerifyErr E) → IsRefusalMemoryAside s op P v → IsRefusalMemoryAside s op Q v
  aside-weaker (Refused loc err) r = (r.0, along err r.1)
  aside-weaker Memory r = tt
