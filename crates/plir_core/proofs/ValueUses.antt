-- Whether a value is an operand of a live operation.
use Rattle.std.proofs.Common.{◌≡◌, ℕ, ◌<◌, ◌≤◌, true, List, [], length, Option, Some, None, IsSome, refl, sym, ◌∙◌, ap}
use Rattle.std.proofs.Common.{subst, arith}
use Rattle.std.specs.Prelude.{Contains}
use Rattle.std.proofs.lemmas.List.Elements.{All-contains}
use Rattle.plir_store.specs.Table.{content_at}
use Rattle.plir_core.specs.declared.ptr.Ptr.{Ptr}
use Rattle.plir_core.specs.declared.ptr.Operation.{Operation as OperationKind}
use Rattle.plir_core.specs.declared.value.Value.{Value}
use Rattle.plir_core.specs.Contents.{OpView}
use Rattle.plir_core.specs.Nodes.{ptr_at}
use Rattle.plir_core.specs.Stored.{seat_of}
use Rattle.plir_core.specs.ContextView.{ContextView, entity_node, operands_of, operands_in}
use Rattle.plir_core.specs.Uses.{is_seated, is_not_used}
use Rattle.plir_core.specs.ValueUses.{IsOperandAt, HasUses}
use Rattle.plir_core.proofs.Ancestors.{AllSoFar, AllSoFar-all}
use Rattle.plir_core.proofs.Facts.{live_at, live_parts}
use Rattle.plir_core.proofs.Listing.{within_content}
use Rattle.plir_core.proofs.NotUsed.{none_passes, seated_value, unused_by, values_some}

-- none of the first values is it, and there are no more
pub not_among : (xs : List Value) (v : Value) (n : ℕ) → AllSoFar
    (λ x. x ≡ v → ⊥) xs n → length xs ≤ n → Contains xs v → ⊥
not_among xs v n all h c = All-contains (λ x. x ≡ v → ⊥) xs v (AllSoFar-all (λ x. x ≡ v → ⊥) xs n all h) c refl

some_held : {K A : Type 0} (o : Option (OpView K A)) (v : Value) → Contains (operands_in o) v → IsSome o
some_held None v c = let h = c.1 in absurd (omega arith)
some_held (Some x) v c = refl

module _ {K A T : Type 0} where
  -- the operands of an operation: s is made of the fields, and t is the value
  pub operands_seen : (s t : ContextView K A T) → s ≡ t → (p : Ptr OperationKind) (o : OpView K A) (xs : List Value) →
      content_at s.nodes.ops p.slot ≡ Some o → xs ≡ o.operands → xs ≡ operands_of t p
  operands_seen s t view p o xs held e = e ∙ sym (ap operands_in held) ∙ ap
      (λ (z : ContextView K A T). operands_of z p) view

  -- an empty slot has no operand
  pub no_operand : (s t : ContextView K A T) → s ≡ t → (v : Value) (i : ℕ) → content_at s.nodes.ops i ≡ None →
      IsOperandAt t v i → ⊥
  no_operand s t view v i none c =
      let none_there : Contains [] v = subst (λ xs. Contains xs v) (ap (λ (z : ContextView K A T). operands_in
      (content_at z.nodes.ops i)) (sym view) ∙ ap operands_in none) c in
      let h = none_there.1 in
      omega arith

  pub HasUses-at : (s : ContextView K A T) (v : Value) (i : ℕ) → IsOperandAt s v i → HasUses s v
  HasUses-at s v i c = (ptr_at s.nodes.ops i, (live_at s.nodes.ops i (some_held (content_at s.nodes.ops i) v c), c))

  -- no slot has it
  pub HasUses-none : (s : ContextView K A T) (v : Value) (n : ℕ) → ((k : ℕ) → k < n → IsOperandAt s v k → ⊥) → length
      s.nodes.ops.slots ≤ n → HasUses s v → ⊥
  HasUses-none s v n none h u =
      let some = (live_parts s.nodes.ops u.0.slot u.0.version u.1.0).0 in
      let within = within_content s.nodes.ops u.0.slot some in
      none u.0.slot (omega arith) u.1.1

  -- its operation or block is not used
  pub HasUses-not : (s : ContextView K A T) (v : Value) → is_not_used s (entity_node v.entity) ≡ true → HasUses s v → ⊥
  HasUses-not s v not u =
      let at = seat_of (entity_node v.entity) in
      let xs = operands_in (content_at s.nodes.ops u.0.slot) in
      none_passes (λ x. is_seated at (entity_node x.entity)) xs u.1.1.0 v u.1.1.1
      (subst (λ x. is_seated at (entity_node x.entity) ≡ true) (sym u.1.1.2) (seated_value v.entity))
      (values_some at (content_at s.nodes.ops u.0.slot) (unused_by s (entity_node v.entity) u.0.slot not))
