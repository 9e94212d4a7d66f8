-- A node that was just made: its pointer is new, and those given out stay so.
use Rattle.std.proofs.Common.{◌≡◌, ℕ, ◌+◌, ◌≤◌, true, false, ◌&&◌, List, [], ◌∷◌, length, Some, inl, inr, refl, sym}
use Rattle.std.proofs.Common.{◌∙◌, ap, arith, set, length-set, nat_lt, nat_le}
use Rattle.std.proofs.lemmas.Bool.{cases_lt, cases_eq}
use Rattle.std.proofs.lemmas.List.{get_or_past, get_or-set_same, get_or_push}
use Rattle.std.proofs.lemmas.Option.{none-some}
use Rattle.plir_store.specs.Lists.{Lists}
use Rattle.plir_store.specs.Table.{Table, Cell, no_cell, content_at, version_at, slot_after, next_slot, with_new_in}
use Rattle.plir_core.specs.declared.ptr.Ptr.{Ptr}
use Rattle.plir_core.specs.declared.ptr.Region.{Region as RegionKind}
use Rattle.plir_core.specs.declared.ptr.IRNode.{IRNode}
use Rattle.plir_core.specs.declared.ptr.IRNode.TheVariants.{Operation, Region, BasicBlock}
use Rattle.plir_core.specs.Nodes.{Nodes, is_given_out, was_given_out}
use Rattle.plir_core.specs.Edits.{IsFilled}
use Rattle.plir_core.proofs.Listing.{version_new_other}

given_by : (v a b : ℕ) → a ≤ b → (nat_lt 0 v && nat_le v a) ≡ true → (nat_lt 0 v && nat_le v b) ≡ true
given_by v a b h e = grind arith

not_given : (v a : ℕ) → v ≡ a + 1 → (nat_lt 0 v && nat_le v a) ≡ false
not_given v a e = grind arith

module _ {T : Type 0} where
  version_new_in : (t : Table T) (v : T) (fs : List ℕ) → content_at (with_new_in t v fs)
      (slot_after (length t.slots) fs) ≡ Some v → version_at (with_new_in t v fs) (slot_after (length t.slots) fs) ≡
      version_at t (slot_after (length t.slots) fs) + 1
  version_new_in t v [] here =
      let a : version_at (with_new_in t v []) (length t.slots) ≡ 1 = ap (λ (z : Cell T). z.version)
      (get_or_push t.slots (record { version = 1; content = Some v }) no_cell (length t.slots) refl) in
      let b : version_at t (length t.slots) ≡ 0 = ap (λ (z : Cell T). z.version)
      (get_or_past t.slots (length t.slots) no_cell (omega arith)) in
      omega arith
  version_new_in t v (f ∷ fs) here = elim (cases_lt f (length t.slots)) [
    | inl h ↦ ap (λ (z : Cell T). z.version) (get_or-set_same t.slots f (record {
      version = version_at t f + 1;
      content
          = Some v;
    }) no_cell h)
    | inr h ↦ absurd (none-some v (ap (λ (z : Cell T). z.content) (sym (get_or_past
        (set t.slots f (record { version = version_at t f + 1; content = Some v })) f no_cell
        (omega (arith, length-set t.slots f (record { version = version_at t f + 1; content = Some v }))))) ∙ here))
  ]

  pub version_filled : (t t' : Table T) (v : T) → IsFilled t t' v → version_at t' (next_slot t) ≡ version_at t
      (next_slot t) + 1
  version_filled t t' v x = ap (λ z. version_at z (next_slot t)) x.is ∙ version_new_in t v t.free
      (ap (λ z. content_at z (next_slot t)) (sym x.is) ∙ x.here)

  version_grows : (t t' : Table T) (v : T) → IsFilled t t' v → (i : ℕ) → version_at t i ≤ version_at t' i
  version_grows t t' v x i = elim (cases_eq i (next_slot t)) [
    | inl q ↦ rw q (let e = version_filled t t' v x in omega arith)
    | inr n ↦ let e : version_at t' i ≡ version_at t i = ap (λ z. version_at z i) x.is ∙ version_new_other t v i n in
        omega arith
  ]

  pub given_stays : {X : Type 0} (t t' : Table T) (v : T) → IsFilled t t' v → (p : Ptr X) → is_given_out t p ≡ true →
      is_given_out t' p ≡ true
  given_stays t t' v x p e = given_by p.version (version_at t p.slot) (version_at t' p.slot)
      (version_grows t t' v x p.slot) e

  pub never_given : {X : Type 0} (t t' : Table T) (v : T) → IsFilled t t' v → (p : Ptr X) → p.slot ≡ next_slot t →
      p.version ≡ version_at t' (next_slot t) → is_given_out t p ≡ false
  never_given t t' v x p e f = not_given p.version (version_at t p.slot) (f ∙ version_filled t t' v x ∙ ap
      (λ z. version_at t z + 1) (sym e))

-- pointers given out stay so where the slots of one kind get one more value
module _ {O B : Type 0} (s : Nodes O B) where
  pub given_with_region : (t : Table RegionKind) (l m : Lists) → IsFilled s.regions t (record {}) → (n : IRNode) →
      was_given_out s n ≡ true → was_given_out (record s { regions = t; blocks_in_region = l; regions_in_op = m }) n ≡
      true
  given_with_region t l m x (Operation p) e = e
  given_with_region t l m x (Region p) e = given_stays s.regions t (record {}) x p e
  given_with_region t l m x (BasicBlock p) e = e
