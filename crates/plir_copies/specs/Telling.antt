-- Laws that tell whether two things are the same, proved here so that the crates above can cite them. No contract cites
-- this module.
use Rattle.std.proofs.Common.{◌≡◌, ◌⊎◌, ℕ, Bool, true, true≢false, ◌&&◌, cond, eqb, inl, inr, sym, ap, arith, ◌∙◌}
use Rattle.std.specs.Prelude.{IsTrue, ◌↔◌}
use Rattle.std.proofs.lemmas.Bool.{cases_Bool}
use Rattle.plir_core.specs.declared.ptr.Ptr.{Ptr}
use Rattle.plir_core.specs.declared.value.DefiningEntity.{DefiningEntity}
use Rattle.plir_core.specs.declared.value.Value.{Value}
use Rattle.plir_core.specs.Replaced.{replaced}
use Rattle.plir_core.specs.SameValue.{same_ptr, same_entity, same_value, ptr-exact, entity-exact, value-exact}

-- two pointers are the same or not
pub ptr_told : {X : Type 0} (p q : Ptr X) → (p ≡ q) ⊎ (p ≡ q → ⊥)
ptr_told p q = elim (cases_Bool (same_ptr p q)) [
  | inl e ↦ inl ((ptr-exact p q).0 e)
  | inr e ↦ inr (λ h. true≢false (sym ((ptr-exact p q).1 h) ∙ e))
]

-- what two values come from is the same or not
pub entity_told : (d e : DefiningEntity) → (d ≡ e) ⊎ (d ≡ e → ⊥)
entity_told d e = elim (cases_Bool (same_entity d e)) [
  | inl h ↦ inl ((entity-exact d e).0 h)
  | inr h ↦ inr (λ is. true≢false (sym ((entity-exact d e).1 is) ∙ h))
]

-- what the derived test of two pointers says
pub same_ptr_told : {X : Type 0} (p q : Ptr X) (b : Bool)
    → b ≡ (eqb p.slot q.slot && (eqb p.version q.version && true)) → IsTrue b ↔ (p ≡ q)
same_ptr_told {X} p q b e = (
  λ h.
      let slots : p.slot ≡ q.slot = grind arith in
      let versions : p.version ≡ q.version = grind arith in
      ap (λ (n : ℕ). let r : Ptr X = record { slot = n; version = p.version; kind = record {} } in r) slots
      ∙ ap (λ (n : ℕ). let r : Ptr X = record { slot = q.slot; version = n; kind = record {} } in r) versions,
  λ h.
      let slots : p.slot ≡ q.slot = ap (λ z. z.slot) h in
      let versions : p.version ≡ q.version = ap (λ z. z.version) h in
      grind arith,
)

-- a value that another one takes the place of is that one, and any other value stays
pub replaced_hit : (x w v : Value) → v ≡ x → replaced x w v ≡ w
replaced_hit x w v is = ap (λ b. cond b w v) ((value-exact v x).1 is)

pub replaced_miss : (x w v : Value) → (v ≡ x → ⊥) → replaced x w v ≡ v
replaced_miss x w v off = elim (cases_Bool (same_value v x)) [
  | inl h ↦ absurd (off ((value-exact v x).0 h))
  | inr h ↦ ap (λ b. cond b w v) h
]
