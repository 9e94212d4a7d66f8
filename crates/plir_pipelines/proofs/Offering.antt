-- Passes that can be offered, as far as a loop has come.
use Rattle.std.proofs.Common.{◌≡◌, ℕ, ◌+◌, ◌<◌, ◌≤◌, List, length, take, get_or, arith, below_more, refl, subst, ◌∙◌}
use Rattle.std.proofs.Common.{Some}
use Rattle.std.specs.List.{slice_get}
use Rattle.std.proofs.lemmas.Option.{get_or_from_slice_get, slice_get_read, slice_get_within}
use Rattle.plir_pipelines.specs.declared.offer.OfferErr.{OfferErr}
use Rattle.plir_pipelines.specs.Offers.{CanBeOffered, CanBeOfferedTo, CanFollow, IsClash, IsOfferRefusal}

module _ {P : Type 0} (name_of : P → List ℕ) (passes : List P) (i : ℕ) where
  module _ (p : P) (below : i < length passes) (is : p ≡ get_or passes i p) where
    -- the one at a place can too
    pub offered-next : CanBeOfferedTo name_of i passes → CanFollow name_of (take i passes) p →
        CanBeOfferedTo name_of (i + 1) passes
    offered-next so_far here =
        below_more (λ k. (q : P) → slice_get passes k ≡ Some q → CanFollow name_of (take k passes) q) i so_far
        (λ q found. subst (λ z. CanFollow name_of (take i passes) z) (is ∙ get_or_from_slice_get passes i q p found)
        here)

    -- the one at a place can't
    pub refused-at : (e : OfferErr) → CanBeOfferedTo name_of i passes → IsClash name_of (take i passes) p e →
        IsOfferRefusal name_of passes e
    refused-at e so_far clash = record {
      place = i;
      pass = p;
      here = slice_get_read passes (length passes) i p refl below is;
      clash = clash;
      first = so_far;
    }

  -- all can
  pub offered-all : length passes ≤ i → CanBeOfferedTo name_of i passes → CanBeOffered name_of passes
  offered-all past so_far k p found =
      let within : k < length passes = slice_get_within passes k p found in
      let below : k < i = omega arith in so_far k below p found
