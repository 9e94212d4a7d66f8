-- The only result of an operation: what uses the operation uses it.
use Rattle.std.proofs.Common.{◌≡◌, ℕ, zero, suc, ◌<◌, Bool, true, false, cond, List, [], ◌∷◌, length, get_or}
use Rattle.std.proofs.Common.{Option, Some, None, inl, inr, refl, sym, ◌∙◌, ap, subst, arith, eq-eqb, nat_lt}
use Rattle.std.specs.Prelude.{All, Contains}
use Rattle.std.proofs.lemmas.Bool.{cases_eq, cases_lt, ne_eqb, and_parts, ltb-true}
use Rattle.std.proofs.lemmas.List.Elements.{All-head, All-tail}
use Rattle.std.proofs.lemmas.List.Sums.{sum_by-cons}
use Rattle.plir_store.specs.Table.{content_at}
use Rattle.plir_core.specs.declared.ptr.Ptr.{Ptr}
use Rattle.plir_core.specs.declared.ptr.Operation.{Operation as OperationKind}
use Rattle.plir_core.specs.declared.ptr.IRNode.TheVariants.{Operation, BasicBlock}
use Rattle.plir_core.specs.declared.value.Value.{Value}
use Rattle.plir_core.specs.declared.value.DefiningEntity.{DefiningEntity}
use Rattle.plir_core.specs.declared.value.DefiningEntity.TheVariants.{Op, Block}
use Rattle.plir_core.specs.Contents.{OpView}
use Rattle.plir_core.specs.Stored.{op, seat_of}
use Rattle.plir_core.specs.ContextView.{ContextView, IsLive, IsValueLive, is_live, entity_node, types_from, operands_in}
use Rattle.plir_core.specs.ContextView.{result_types_of, operands_of}
use Rattle.plir_core.specs.SameValue.{same_value, value-exact}
use Rattle.plir_core.specs.Uses.{total, is_seated, values_from, uses_held, uses_of}
use Rattle.plir_core.specs.ValueUses.{HasUses, times_in, uses_in_slot, num_uses_of}
use Rattle.plir_core.specs.WellFormed.{IsWellFormed}
use Rattle.plir_core.proofs.Counted.{count_none}
use Rattle.plir_core.proofs.Facts.{live_parts}
use Rattle.plir_core.proofs.Freed.{ptr_one}
use Rattle.plir_core.proofs.Listing.{within_content}
use Rattle.plir_core.proofs.Rewiring.{total_same, time, time_same}
use Rattle.plir_core.proofs.TimesUsed.{not_same}
use Rattle.plir_core.proofs.ValueUses.{HasUses-at}

module _ {K A T : Type 0} (own : A → List ℕ) (s : ContextView K A T) (w : IsWellFormed own s) (p : Ptr OperationKind)
    (live : IsLive s (Operation p)) (one : length (result_types_of s p) ≡ 1) where
  abbrev it : Value
  it = record { entity = Op p; index = 0 }

  -- a live value that comes from its slot is the result
  result_there : (q : Ptr OperationKind) (i : ℕ) → IsValueLive s (record { entity = Op q; index = i }) → q.slot ≡ p.slot
      → record { entity = Op q; index = i } ≡ it
  result_there q i e same =
      let parts = and_parts (is_live s (Operation q)) (nat_lt i (length (result_types_of s q))) e in
      let is : q ≡ p = ptr_one s.nodes.ops p q live parts.0 same in
      let below : i < length (result_types_of s q) = ltb-true i (length (result_types_of s q)) parts.1 in
      let few : length (result_types_of s q) ≡ 1 = ap (λ z. length (result_types_of s z)) is ∙ one in
      let first : i ≡ 0 = omega (arith, below, few) in
      ap (λ z. let v : Value = record { entity = Op z; index = i } in v) is
      ∙ ap (λ k. let v : Value = record { entity = Op p; index = k } in v) first

  seen_op : (q : Ptr OperationKind) (i : ℕ) → IsValueLive s (record { entity = Op q; index = i }) →
      is_seated (op p.slot) (Operation q) ≡ same_value (record { entity = Op q; index = i }) it
  seen_op q i e = elim (cases_eq q.slot p.slot) [
    | inl same ↦ eq-eqb q.slot p.slot same ∙ sym ((value-exact (record { entity = Op q; index = i }) it).1
        (result_there q i e same))
    | inr n ↦ ne_eqb q.slot p.slot n ∙ sym (not_same (same_value (record { entity = Op q; index = i }) it)
        (value-exact (record { entity = Op q; index = i }) it).0 (λ z. n (slot_of z)))
  ]
    where
      entity_slot : DefiningEntity → ℕ
      entity_slot (Op z) = z.slot
      entity_slot (Block z) = z.slot

      slot_of : record { entity = Op q; index = i } ≡ it → q.slot ≡ p.slot
      slot_of z = ap (λ (v : Value). entity_slot v.entity) z

  seen : (d : DefiningEntity) (i : ℕ) → IsValueLive s (record { entity = d; index = i }) →
      is_seated (op p.slot) (entity_node d) ≡ same_value (record { entity = d; index = i }) it
  seen (Op q) i e = seen_op q i e
  seen (Block q) i e = refl

  operands_seen : (xs : List Value) → All (IsValueLive s) xs → values_from (op p.slot) xs ≡ times_in it xs
  operands_seen [] a = refl
  operands_seen (x ∷ xs) a =
      let l = sum_by-cons (λ z. cond {A = ℕ} (is_seated (op p.slot) (entity_node z.entity)) 1 0) x xs in
      let r = sum_by-cons (λ z. cond {A = ℕ} (same_value z it) 1 0) x xs in
      let h = ap (λ (b : Bool). cond {A = ℕ} b 1 0) (seen x.entity x.index (All-head (IsValueLive s) x xs a)) in
      let t = operands_seen xs (All-tail (IsValueLive s) x xs a) in
      omega arith

  held_seen : (i : ℕ) (o : Option (OpView K A)) → content_at s.nodes.ops i ≡ o → uses_held (op p.slot) o ≡ times_in it
      (operands_in o)
  held_seen i None e = refl
  held_seen i (Some v) e =
      let a = operands_seen v.operands (w.holds.ops i v e).operands in
      let z = count_none (λ b. is_seated (op p.slot) (BasicBlock b)) v.successors (λ k d h. refl) in
      omega arith

  pub uses_only : uses_of s.nodes.ops (op p.slot) ≡ num_uses_of s it
  uses_only = total_same (λ i. uses_held (op p.slot) (content_at s.nodes.ops i)) (uses_in_slot s it)
      (λ i. held_seen i (content_at s.nodes.ops i) refl) (length s.nodes.ops.slots)

-- the only value of a live operation
module _ {K A T : Type 0} (own : A → List ℕ) (s : ContextView K A T) (w : IsWellFormed own s) (v : Value)
    (live : IsValueLive s v) where
  live_parts_of : is_live s (entity_node v.entity) ≡ true × nat_lt v.index (length (types_from s v.entity)) ≡ true
  live_parts_of = and_parts (is_live s (entity_node v.entity)) (nat_lt v.index (length (types_from s v.entity))) live

  pub owner_live : (p : Ptr OperationKind) → v.entity ≡ Op p → IsLive s (Operation p)
  owner_live p e = subst (λ d. is_live s (entity_node d) ≡ true) e live_parts_of.0

  pub only_used : (p : Ptr OperationKind) → v.entity ≡ Op p → length (result_types_of s p) ≡ 1 →
      uses_of s.nodes.ops (seat_of (entity_node v.entity)) ≡ num_uses_of s v
  only_used p e one =
      let below : v.index < length (types_from s v.entity) = ltb-true v.index (length (types_from s v.entity))
      live_parts_of.1 in
      let few : length (types_from s v.entity) ≡ 1 = ap (λ d. length (types_from s d)) e ∙ one in
      let first : v.index ≡ 0 = omega (arith, below, few) in
      let same : v ≡ record { entity = Op p; index = 0 } = λ i. record { entity = e i; index = first i } in
      subst (λ z. uses_of s.nodes.ops (seat_of (entity_node z.entity)) ≡ num_uses_of s z) (sym same)
      (uses_only own s w p (owner_live p e) one)

-- one of some numbers is not 0 where their sum is not
some_of : (f : ℕ → ℕ) (n : ℕ) → 0 < total f n → (i : ℕ) × (0 < f i)
some_of f zero h = absurd (omega arith)
some_of f (suc n) h = elim (cases_lt 0 (f n)) [
  | inl more ↦ (n, more)
  | inr none ↦ some_of f n (omega arith)
]

-- and their sum is not 0 where one of them is not
sum_of : (f : ℕ → ℕ) (j n : ℕ) → j < n → 0 < f j → 0 < total f n
sum_of f j zero h more = absurd (omega arith)
sum_of f j (suc n) h more = elim (cases_eq j n) [
  | inl e ↦ let a = ap f e in omega arith
  | inr ne ↦ let a = sum_of f j n (omega arith) more in omega arith
]

-- a value that is among others some times is one of them, and the other way round
among : (v : Value) (xs : List Value) → 0 < times_in v xs → Contains xs v
among v [] h = absurd (omega arith)
among v (x ∷ xs) h =
    let e = sum_by-cons (time v) x xs in
    elim (cases_lt 0 (times_in v xs)) [
      | inl more ↦ let c = among v xs more in (suc c.0, omega (arith, c.1), c.2)
      | inr none ↦ (0, omega arith, (value-exact x v).0 (here (same_value x v) refl (omega (arith, h, e, none))))
    ]
  where
    here : (b : Bool) → same_value x v ≡ b → 0 < cond {A = ℕ} (same_value x v) 1 0 → same_value x v ≡ true
    here true e m = e
    here false e m = let z = ap (λ (c : Bool). cond {A = ℕ} c 1 0) e in absurd (omega arith)

times : (v : Value) (xs : List Value) (i : ℕ) (d : Value) → i < length xs → get_or xs i d ≡ v → 0 < times_in v xs
times v [] i d h e = absurd (omega arith)
times v (x ∷ xs) zero d h e =
    let a = sum_by-cons (time v) x xs in
    let b = time_same v x e in
    omega arith
times v (x ∷ xs) (suc i) d h e =
    let a = sum_by-cons (time v) x xs in
    let b = times v xs i d (omega arith) e in
    omega arith

module _ {K A T : Type 0} (s : ContextView K A T) (v : Value) where
  -- a value that is used some times is used
  pub used_some : 0 < num_uses_of s v → HasUses s v
  used_some h = let i = some_of (uses_in_slot s v) (length s.nodes.ops.slots) h in HasUses-at s v i.0
      (among v (operands_in (content_at s.nodes.ops i.0)) i.1)

  -- and one that is used is used some times
  pub some_used : HasUses s v → 0 < num_uses_of s v
  some_used u =
      let some = (live_parts s.nodes.ops u.0.slot u.0.version u.1.0).0 in
      let within = within_content s.nodes.ops u.0.slot some in
      sum_of (uses_in_slot s v) u.0.slot (length s.nodes.ops.slots) within
      (times v (operands_of s u.0) u.1.1.0 v u.1.1.1 u.1.1.2)
