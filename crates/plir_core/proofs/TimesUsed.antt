-- How many operands of live operations are a value.
use Rattle.std.proofs.Common.{◌≡◌, ℕ, ◌<◌, Bool, true, false, length, get_or, Option, None, refl, sym, ◌∙◌, ap, subst}
use Rattle.plir_store.specs.Table.{content_at}
use Rattle.plir_core.specs.declared.value.Value.{Value}
use Rattle.plir_core.specs.Contents.{OpView}
use Rattle.plir_core.specs.SameValue.{same_value, value-exact}
use Rattle.plir_core.specs.Stored.{Seat, seat_of}
use Rattle.plir_core.specs.ContextView.{ContextView, entity_node, operands_in}
use Rattle.plir_core.specs.Uses.{is_seated, is_not_used}
use Rattle.plir_core.specs.ValueUses.{times_in, uses_in_slot, num_uses_of}
use Rattle.plir_core.proofs.Counted.{count_none}
use Rattle.plir_core.proofs.Counting.{total_none}
use Rattle.plir_core.proofs.NotUsed.{none_passes, seated_value, unused_by, values_some}

-- a test that holds nowhere, by what it would tell
pub not_same : {P : Type 0} (b : Bool) → (b ≡ true → P) → (P → ⊥) → b ≡ false
not_same true tells n = absurd (n (tells refl))
not_same false tells n = refl

module _ {K A T : Type 0} where
  -- a free slot has none: s is made of the fields, and t is the value
  pub free_slot : (s t : ContextView K A T) → s ≡ t → (v : Value) (i : ℕ) → content_at s.nodes.ops i ≡ None → 0 ≡
      uses_in_slot t v i
  free_slot s t view v i none = ap (λ (o : Option (OpView K A)). times_in v (operands_in o)) (sym none) ∙ ap
      (λ (z : ContextView K A T). uses_in_slot z v i) view

  -- its operation or block is not used
  pub none_used : (s : ContextView K A T) (v : Value) → is_not_used s (entity_node v.entity) ≡ true → num_uses_of s v ≡
      0
  none_used s v not = total_none (uses_in_slot s v) (λ i. count_none (λ x. same_value x v)
      (operands_in (content_at s.nodes.ops i)) (λ k d h. none_there i k d h)) (length s.nodes.ops.slots)
    where
      at : Seat
      at = seat_of (entity_node v.entity)

      none_there : (i k : ℕ) (d : Value) → k < length (operands_in (content_at s.nodes.ops i)) → same_value
          (get_or (operands_in (content_at s.nodes.ops i)) k d) v ≡ false
      none_there i k d h =
          let xs = operands_in (content_at s.nodes.ops i) in
          not_same (same_value (get_or xs k d) v) (value-exact (get_or xs k d) v).0 (λ e.
          none_passes (λ x. is_seated at (entity_node x.entity)) xs k d h (subst
          (λ x. is_seated at (entity_node x.entity) ≡ true) (sym e) (seated_value v.entity))
          (values_some at (content_at s.nodes.ops i) (unused_by s (entity_node v.entity) i not)))
