-- What an op set of own kinds tells of operations that forward one value less is what their kind tells.
use Rattle.std.proofs.Common.{◌≡◌, ℕ, sym, ap, ◌∙◌, List, Some}
use Rattle.std.specs.Prelude.{Option, remove, option_and_then}
use Rattle.std.proofs.lemmas.Option.{same_Some}
use Rattle.plir_data.specs.declared.op_set.OpKind.TheVariants.{Own}
use Rattle.plir_core.specs.declared.ptr.Ptr.{Ptr}
use Rattle.plir_core.specs.declared.ptr.Operation.{Operation as OperationKind}
use Rattle.plir_core.specs.Contents.{OpView}
use Rattle.plir_core.specs.ContextView.{ContextView, op_at}
use Rattle.plir_flow.specs.Branches.{Range as Places}
use Rattle.plir_flow_sets.specs.Branches.{forwarded_to, operands_told}
use Rattle.plir_flow_sets.specs.Told.{at_own_kind, by_own_kind}
use Rattle.plir_arguments.specs.Removed.{ForwardsLess, IsOpChanged, values_at}

module _ {K A : Type 0} (f : K → ℕ → OpView K A → Option Places) (k : K) where
  by-kind : (o : OpView K A) → o.kind ≡ Own k → (i : ℕ) → by_own_kind (λ z. f z i) o ≡ f k i o
  by-kind o e i = ap (at_own_kind (λ z. f z i) o) e

  less-by-kind : (keys : List (List ℕ)) (i n : ℕ) (o r : OpView K A) → o.kind ≡ Own k → ForwardsLess keys (f k) i n o r
      → ForwardsLess keys (λ j. by_own_kind (λ z. f z j)) i n o r
  less-by-kind keys i n o r e h =
      let e' : r.kind ≡ Own k = h.kind ∙ e in record {
        kind = h.kind;
        result_types = h.result_types;
        successors = h.successors;
        location = h.location;
        attributes = h.attributes;
        operands = λ q is. h.operands q (sym (by-kind o e i) ∙ is);
        here = ap (values_at r) (by-kind r e' i) ∙ h.here ∙ ap (λ z. remove (values_at o z) n) (sym (by-kind o e i));
        others = λ j below off.
            ap (values_at r) (by-kind r e' j) ∙ h.others j below off ∙ ap (values_at o) (sym (by-kind o e j));
      }

  module _ {T : Type 0} (s : ContextView K A T) (p : Ptr OperationKind) (o : OpView K A) (there : op_at s p ≡ Some o)
      (e : o.kind ≡ Own k) where
    -- what is forwarded
    pub forwarded-by-kind : (i : ℕ) → forwarded_to (λ j. by_own_kind (λ z. f z j)) s p i ≡ forwarded_to (f k) s p i
    forwarded-by-kind i = ap (operands_told s p) (ap (option_and_then (by_own_kind (λ z. f z i))) there ∙ by-kind o e i
        ∙ sym (ap (option_and_then (f k i)) there))

    -- and what is left
    pub changed-by-kind : (t : ContextView K A T) (keys : List (List ℕ)) (i n : ℕ)
        → IsOpChanged s t p (ForwardsLess keys (f k) i n)
        → IsOpChanged s t p (ForwardsLess keys (λ j. by_own_kind (λ z. f z j)) i n)
    changed-by-kind t keys i n h = record {
      keeps = h.keeps;
      held = λ q is.
          let r = h.held q is in
          let same : o ≡ q = same_Some o q (sym there ∙ is) in
          (r.0, r.1, less-by-kind keys i n q r.0 (ap (λ (z : OpView K A). z.kind) (sym same) ∙ e) r.2);
      ops = h.ops;
      blocks = h.blocks;
    }
