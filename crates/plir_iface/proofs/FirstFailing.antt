-- The first type of a list that fails a test.
use Rattle.std.proofs.Common.{◌<◌, ℕ, List, Bool, Option, arith}
use Rattle.plir_data.specs.Types.{TypeView}
use Rattle.plir_core.specs.ContextView.{ContextView}
use Rattle.plir_iface.specs.TypeRules.{FailsFirst, IsBetween}

-- the first of all places from 0 on and before an end is the first of all before that end
pub first-of-all : {K A T : Type 0} (passes : TypeView T → Bool) (s : ContextView K A T) (ts : List (Option ℕ))
    (end i : ℕ)
    → FailsFirst passes s (IsBetween 0 end) ts i → FailsFirst passes s (λ k. k < end) ts i
first-of-all passes s ts end i r = (r.0.1, r.1, λ k h. r.2 k (omega arith, h))
