-- One slot of a table: what is live in it, and what is left where its content is another.
use Rattle.std.proofs.Common.{◌≡◌, ℕ, ◌<◌, true, length, Option, Some, None, IsSome, is_some, inl, inr, refl, sym, ap}
use Rattle.std.proofs.Common.{◌∙◌, eqb, eq-eqb}
use Rattle.std.proofs.lemmas.Bool.{cases_eq, cases_lt, and_parts, and_from, eqb-true}
use Rattle.std.proofs.lemmas.List.{get_or_past, get_or-set_same, get_or-set_other}
use Rattle.plir_store.specs.Table.{Table, Cell, no_cell, cell_at, content_at, version_at, is_live_at, with_content}
use Rattle.plir_core.specs.declared.ptr.Ptr.{Ptr}
use Rattle.plir_core.specs.Nodes.{ptr_at}

module _ {C : Type 0} (t : Table C) where
  none_some : (o : Option C) → IsSome o → o ≡ None → ⊥
  none_some None w e = cc
  none_some (Some v) w e = cc

  -- what is live holds something under the slot's version, and the other way round
  pub live_parts : (i v : ℕ) → is_live_at t i v ≡ true → IsSome (content_at t i) × (version_at t i ≡ v)
  live_parts i v e = let r = and_parts (is_some (content_at t i)) (eqb (version_at t i) v) e in
      (r.0, eqb-true (version_at t i) v r.1)

  pub live_at : (i : ℕ) → IsSome (content_at t i) → is_live_at t i (version_at t i) ≡ true
  live_at i some = and_from (is_some (content_at t i)) (eqb (version_at t i) (version_at t i)) some
      (eq-eqb (version_at t i) (version_at t i) refl)

  -- the pointer to what a slot holds is the live one
  pub ptr_is : {X : Type 0} (p : Ptr X) → is_live_at t p.slot p.version ≡ true → ptr_at t p.slot ≡ p
  ptr_is {X} p e = ap (λ v. let q : Ptr X = record { slot = p.slot; version = v; kind = record {} } in q)
      ((live_parts p.slot p.version e).1)

  -- pointers to what one slot holds are one
  pub ptr_one : {X : Type 0} (p q : Ptr X) → is_live_at t p.slot p.version ≡ true → is_live_at t q.slot q.version ≡ true
      → p.slot ≡ q.slot → p ≡ q
  ptr_one {X} p q l m e = sym (ptr_is p l) ∙ (ap (λ i. let z : Ptr X = ptr_at t i in z) e ∙ ptr_is q m)

-- another content in a slot that holds something
module _ {C : Type 0} (t : Table C) (i : ℕ) (v : C) (some : IsSome (content_at t i)) where
  within : i < length t.slots
  within = elim (cases_lt i (length t.slots)) [
    | inl h ↦ h
    | inr h ↦ absurd (none_some t (content_at t i) some (ap (λ (z : Cell C). z.content)
        (get_or_past t.slots i no_cell h)))
  ]

  here : cell_at (with_content t i v) i ≡ record { version = version_at t i; content = Some v }
  here = get_or-set_same t.slots i (record { version = version_at t i; content = Some v }) no_cell within

  other : (j : ℕ) → (j ≡ i → ⊥) → cell_at (with_content t i v) j ≡ cell_at t j
  other j ne = get_or-set_other t.slots i j (record { version = version_at t i; content = Some v }) no_cell ne

  pub content-here : content_at (with_content t i v) i ≡ Some v
  content-here = ap (λ (z : Cell C). z.content) here

  pub content-other : (j : ℕ) → (j ≡ i → ⊥) → content_at (with_content t i v) j ≡ content_at t j
  content-other j ne = ap (λ (z : Cell C). z.content) (other j ne)

  pub version-kept : (j : ℕ) → version_at (with_content t i v) j ≡ version_at t j
  version-kept j = elim (cases_eq j i) [
    | inl q ↦ ap (version_at (with_content t i v)) q ∙ (ap (λ (z : Cell C). z.version) here ∙ ap (version_at t) (sym q))
    | inr n ↦ ap (λ (z : Cell C). z.version) (other j n)
  ]

  pub full-kept : (j : ℕ) → is_some (content_at (with_content t i v) j) ≡ is_some (content_at t j)
  full-kept j = elim (cases_eq j i) [
    | inl q ↦ ap (λ z. is_some (content_at (with_content t i v) z)) q ∙ (ap is_some content-here ∙ sym
        (ap (λ z. is_some (content_at t z)) q ∙ some))
    | inr n ↦ ap is_some (content-other j n)
  ]

  pub live-kept : (j x : ℕ) → is_live_at t j x ≡ true → is_live_at (with_content t i v) j x ≡ true
  live-kept j x l = rw (full-kept j, version-kept j) l
