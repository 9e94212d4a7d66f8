-- How many results are used: each time that uses are passed on there are fewer.
use Rattle.std.proofs.Common.{◌≡◌, ◌<◌, ◌≤◌, ◌^◌, ◌==◌, ℕ, zero, suc, arith, Bool, true, false, cond, List, []}
use Rattle.std.proofs.Common.{◌∷◌, length, Option, Some, None, IsSome, inl, inr, refl, sym, ap, subst, get_or}
use Rattle.std.specs.Prelude.{Contains}
use Rattle.std.proofs.lemmas.Bool.{cases_eq, cases_lt}
use Rattle.std.proofs.lemmas.Bool.Decides.{eqb_tells}
use Rattle.std.proofs.lemmas.List.Sums.{sum_by-cons}
use Rattle.plir_store.specs.Table.{content_at}
use Rattle.plir_store.specs.TableLaws.{within_from_content}
use Rattle.plir_core.specs.declared.ptr.Ptr.{Ptr}
use Rattle.plir_core.specs.declared.ptr.Operation.{Operation as OperationKind}
use Rattle.plir_core.specs.declared.ptr.IRNode.TheVariants.{Operation}
use Rattle.plir_core.specs.declared.value.Value.{Value}
use Rattle.plir_core.specs.Contents.{OpView}
use Rattle.plir_core.specs.ContextView.{ContextView, IsLive, operands_in, operands_of, given_out, IsIndexed}
use Rattle.plir_core.specs.Nodes.{ptr_at}
use Rattle.plir_core.specs.SameValue.{same_value, value-exact}
use Rattle.plir_core.specs.Uses.{total}
use Rattle.plir_core.specs.ValueUses.{HasUses, times_in, uses_in_slot, num_uses_of}
use Rattle.plir_folding.specs.Folded.{result_of}
use Rattle.plir_folding.proofs.Room.{live-now, live-some, live-version, vacant, vacant_below, vacant-less, vacant-fewer}

-- one of some numbers is not 0 where their sum is not
some_of : (f : ℕ → ℕ) (n : ℕ) → 0 < total f n → (i : ℕ) × (0 < f i)
some_of f zero h = absurd (omega (arith, h))
some_of f (suc n) h = elim (cases_lt 0 (f n)) [
  | inl more ↦ (n, more)
  | inr none ↦ some_of f n (omega (arith, h, none))
]

-- and their sum is not 0 where one of them is not
sum_of : (f : ℕ → ℕ) (j n : ℕ) → j < n → 0 < f j → 0 < total f n
sum_of f j zero h more = absurd (omega (arith, h))
sum_of f j (suc n) h more = elim (cases_eq j n) [
  | inl e ↦ (let a = ap f e in omega (arith, a, more))
  | inr ne ↦ (let a = sum_of f j n (omega (arith, h, ne)) more in omega (arith, a))
]

abbrev time : Value → Value → ℕ
time v x = cond (same_value x v) 1 0

time-same : (v x : Value) → x ≡ v → time v x ≡ 1
time-same v x e = ap (λ b. cond {A = ℕ} b 1 0) ((value-exact x v).1 e)

-- a value that is among others some times is one of them, and the other way round
among : (v : Value) (xs : List Value) → 0 < times_in v xs → Contains xs v
among v [] h = absurd (omega (arith, h))
among v (x ∷ xs) h =
    let e = sum_by-cons (time v) x xs in
    elim (cases_lt 0 (times_in v xs)) [
      | inl more ↦ (let c = among v xs more in (suc c.0, omega (arith, c.1), c.2))
      | inr none ↦ (0, omega arith, (value-exact x v).0 (here (same_value x v) refl (omega (arith, h, e, none))))
    ]
  where
    here : (b : Bool) → same_value x v ≡ b → 0 < cond {A = ℕ} (same_value x v) 1 0 → same_value x v ≡ true
    here true e m = e
    here false e m = (let z = ap (λ (c : Bool). cond {A = ℕ} c 1 0) e in absurd (omega (arith, z, m)))

times : (v : Value) (xs : List Value) (i : ℕ) (d : Value) → i < length xs → get_or xs i d ≡ v → 0 < times_in v xs
times v [] i d h e = absurd (omega (arith, h))
times v (x ∷ xs) zero d h e =
    let a = sum_by-cons (time v) x xs in
    let b = time-same v x e in
    omega (arith, a, b)
times v (x ∷ xs) (suc i) d h e =
    let a = sum_by-cons (time v) x xs in
    let b = times v xs i d (omega (arith, h)) e in
    omega (arith, a, b)

is-some : {X : Type 0} (o : Option X) (x : X) → o ≡ Some x → IsSome o
is-some o x e = subst IsSome (sym e) refl

module _ {K A T : Type 0} (s : ContextView K A T) (v : Value) where
  -- a slot that has operands holds an operation
  held : (o : Option (OpView K A)) → Contains (operands_in o) v → (x : OpView K A) × (o ≡ Some x)
  held None c = absurd (let h = c.1 in omega (arith, h))
  held (Some x) c = (x, refl)

  -- a value that is used some times is used
  pub used-some : 0 < num_uses_of s v → HasUses s v
  used-some h =
      let i = some_of (uses_in_slot s v) (length s.nodes.ops.slots) h in
      let c = among v (operands_in (content_at s.nodes.ops i.0)) i.1 in
      let x = held (content_at s.nodes.ops i.0) c in
      (ptr_at s.nodes.ops i.0, (live-now s.nodes.ops i.0 x.0 x.1, c))

  -- and one that is used is used some times
  pub some-used : HasUses s v → 0 < num_uses_of s v
  some-used u =
      let x = live-some s.nodes.ops u.0.slot u.0.version u.1.0 in
      let within = within_from_content s.nodes.ops u.0.slot (is-some (content_at s.nodes.ops u.0.slot) x.0 x.1) in
      sum_of (uses_in_slot s v) u.0.slot (length s.nodes.ops.slots) within
      (times v (operands_of s u.0) u.1.1.0 v u.1.1.1 u.1.1.2)

at-most : (o : Option (Unit {0})) → vacant o ≤ 1
at-most None = omega arith
at-most (Some x) = omega arith

module _ {K A T : Type 0} where
  -- something, where nothing uses the result of an operation
  unused : ContextView K A T → Ptr OperationKind → Option (Unit {0})
  unused s p = cond (num_uses_of s (result_of p) == 0) (Some tt) None

  unused-none : (s : ContextView K A T) (p : Ptr OperationKind) → (HasUses s (result_of p) → ⊥)
      → vacant (unused s p) ≡ 0
  unfolding unused
  unused-none s p not = elim (eqb_tells (num_uses_of s (result_of p)) 0) [
    | inl h ↦ ap (λ b. vacant (cond {A = Option (Unit {0})} b (Some tt) None)) h.0
    | inr h ↦ absurd (not (used-some s (result_of p) (let d = h.1 in omega (arith, d))))
  ]

  unused-some : (s : ContextView K A T) (p : Ptr OperationKind) → HasUses s (result_of p) → vacant (unused s p) ≡ 1
  unfolding unused
  unused-some s p u = elim (eqb_tells (num_uses_of s (result_of p)) 0) [
    | inl h ↦ absurd (let a = some-used s (result_of p) u in let d = h.1 in omega (arith, a, d))
    | inr h ↦ ap (λ b. vacant (cond {A = Option (Unit {0})} b (Some tt) None)) h.0
  ]

  unused-less : (s t : ContextView K A T) (p : Ptr OperationKind) → (HasUses t (result_of p) → HasUses s (result_of p))
      → vacant (unused t p) ≤ vacant (unused s p)
  unused-less s t p keeps = elim (cases_lt 0 (num_uses_of s (result_of p))) [
    | inl more ↦
        (let a = unused-some s p (used-some s (result_of p) more) in
        let b = at-most (unused t p) in
        omega (arith, a, b))
    | inr none ↦
        (let a = unused-none t p
        (λ u. let c = some-used s (result_of p) (keeps u) in let z : ⊥ = omega (arith, c, none) in z) in
        omega (arith, a))
  ]

  -- how many of the operations that there are in `start` have results that are used in s
  pub in_use : ContextView K A T → ContextView K A T → ℕ
  in_use start s = vacant_below (λ i. unused s (ptr_at start.nodes.ops i)) (2 ^ 32)

  module _ (start s t : ContextView K A T) (keeps : (v : Value) → HasUses t v → HasUses s v) where
    less : (i : ℕ) → vacant (unused t (ptr_at start.nodes.ops i)) ≤ vacant (unused s (ptr_at start.nodes.ops i))
    less i = unused-less s t (ptr_at start.nodes.ops i) (keeps (result_of (ptr_at start.nodes.ops i)))

    pub no-more-used : in_use start t ≤ in_use start s
    unfolding in_use
    no-more-used = vacant-less (λ i. unused s (ptr_at start.nodes.ops i))
        (λ i. unused t (ptr_at start.nodes.ops i)) less
        (2 ^ 32)

    module _ (p : Ptr OperationKind) (live : IsLive start (Operation p)) (indexed : IsIndexed s)
        (given : given_out s (Operation p) ≡ true) (used : HasUses s (result_of p))
        (gone : HasUses t (result_of p) → ⊥) where
      -- the pointer to what the slot holds is the live one
      is : ptr_at start.nodes.ops p.slot ≡ p
      is = ap (λ v. let q : Ptr OperationKind = record { slot = p.slot; version = v; kind = record {} } in q)
          (live-version start.nodes.ops p.slot p.version live)

      within : p.slot < 2 ^ 32
      within = (let e = indexed.ops p given in omega (arith, e))

      fewer : vacant (unused t (ptr_at start.nodes.ops p.slot)) < vacant (unused s (ptr_at start.nodes.ops p.slot))
      fewer = subst (λ z. vacant (unused t z) < vacant (unused s z)) (sym is)
          (let a = unused-none t p gone in let b = unused-some s p used in omega (arith, a, b))

      pub fewer-used : in_use start t < in_use start s
      unfolding in_use
      fewer-used =
          vacant-fewer (λ i. unused s (ptr_at start.nodes.ops i)) (λ i. unused t (ptr_at start.nodes.ops i)) less
          (2 ^ 32) p.slot within fewer
