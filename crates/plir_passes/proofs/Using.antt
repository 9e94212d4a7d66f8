-- Which operations an operation uses, as a loop over its operands finds them.
use Rattle.std.proofs.Common.{◌≡◌, ◌<◌, ℕ, zero, suc, ◌+◌, arith, List, [], ◌∷◌, length, Some, ◌⊎◌}
use Rattle.std.proofs.Common.{inl, inr, refl, sym, ap, ◌∙◌}
use Rattle.std.specs.Prelude.{◌≢◌, ◌≤◌, Err, Ok, OnOk, Result, slice_get}
use Rattle.std.proofs.lemmas.Option.{none-some, same_Some, slice_get_within}
use Rattle.plir_core.specs.declared.ptr.Ptr.{Ptr}
use Rattle.plir_core.specs.declared.ptr.Operation.{Operation as OperationKind}
use Rattle.plir_core.specs.declared.ptr.BasicBlock.{BasicBlock as BasicBlockKind}
use Rattle.plir_core.specs.declared.value.Value.{Value}
use Rattle.plir_core.specs.declared.value.DefiningEntity.{DefiningEntity}
use Rattle.plir_core.specs.declared.value.DefiningEntity.TheVariants.{Op, Block}
use Rattle.plir_core.specs.ContextView.{ContextView, operands_of}
use Rattle.plir_walk.specs.NodeLaws.{ptr-tells}
use Rattle.plir_passes.specs.Dead.{Uses}
use Rattle.plir_passes.specs.declared.worklist.Worklist.{Worklist}
use Rattle.plir_passes.specs.Worklists.{WaitAgain}
use Rattle.plir_passes.proofs.Lists.{again-as, again-both, again-none}

-- the index-th result of p
abbrev result_of : Ptr OperationKind → ℕ → Value
result_of p index = record { entity = Op p; index = index }

-- a result of p stands in a list
abbrev IsIn : List Value → Ptr OperationKind → Type 0
IsIn vs p = (place : ℕ) × (index : ℕ) × (slice_get vs place ≡ Some (result_of p index))

-- a result of p stands in a list before a place
abbrev pub IsBefore : List Value → ℕ → Ptr OperationKind → Type 0
IsBefore vs end p = (place : ℕ) × (index : ℕ) × (place < end) × (slice_get vs place ≡ Some (result_of p index))

-- a number below the next one is below this one or is it
below_next : (j n : ℕ) → j < n + 1 → (j < n) ⊎ (j ≡ n)
below_next zero zero lt = inr refl
below_next zero (suc n) lt = inl (omega arith)
below_next (suc j) zero lt = absurd (omega (arith, lt))
below_next (suc j) (suc n) lt =
    elim (below_next j n (omega (arith, lt))) [ inl h ↦ inl (omega (arith, h)) | inr e ↦ inr (ap suc e) ]

-- ---- whether it is used is known

entity-tells : (e : DefiningEntity) (p : Ptr OperationKind) → (e ≡ Op p) ⊎ (e ≢ Op p)
entity-tells (Op q) p = elim (ptr-tells q p) [ inl e ↦ inl (ap Op e) | inr ne ↦ inr (λ h. ne (cc h)) ]
entity-tells (Block b) p = inr (λ h. cc h)

in-tells : (vs : List Value) (p : Ptr OperationKind) → IsIn vs p ⊎ (IsIn vs p → ⊥)
in-tells [] p = inr (λ h. none-some (result_of p h.1) h.2)
in-tells (v ∷ vs) p = elim (entity-tells v.entity p) [
  | inl e ↦ inl (0, v.index, ap (λ z. Some (record { entity = z; index = v.index })) e)
  | inr ne ↦ elim (in-tells vs p) [
    | inl h ↦ inl (suc h.0, h.1, h.2)
    | inr away ↦ inr (λ h. at h.0 h.1 ne away h.2)
  ]
]
  where
    at : (place index : ℕ) → (v.entity ≡ Op p → ⊥) → (IsIn vs p → ⊥) →
        slice_get (v ∷ vs) place ≡ Some (result_of p index) → ⊥
    at zero index ne away e = ne (ap (λ (z : Value). z.entity) (same_Some v (result_of p index) e))
    at (suc place) index ne away e = away (place, index, e)

-- ---- the operation whose result a value is

pub definer-again : {X E : Type 0} (r : Result X E) (v : Value) (p : Ptr OperationKind) (w w' : Worklist) →
    v.entity ≡ Op p → OnOk r (WaitAgain (λ q. q ≡ p) w w') → OnOk r (WaitAgain (λ q. v.entity ≡ Op q) w w')
definer-again (Ok x) v p w w' e h =
    again-as w w' (λ q is. e ∙ ap Op (sym is))
    (λ q f. let d : Op p ≡ Op q = sym e ∙ f in let g : q ≡ p = cc d in g) h
definer-again (Err x) v p w w' e h = tt

pub definer-none : (v : Value) (b : Ptr BasicBlockKind) (w : Worklist) → v.entity ≡ Block b →
    WaitAgain (λ q. v.entity ≡ Op q) w w
definer-none v b w e = again-none w w refl (λ q f. let d : Block b ≡ Op q = sym e ∙ f in let z : ⊥ = cc d in z)

module _ {K A T : Type 0} (s : ContextView K A T) (q : Ptr OperationKind) where
  abbrev vs : List Value
  vs = operands_of s q

  pub uses-tells : (p : Ptr OperationKind) → Uses s q p ⊎ (Uses s q p → ⊥)
  uses-tells p = elim (in-tells vs p) [
    | inl h ↦ inl (record { place = h.0; index = h.1; here = h.2 })
    | inr away ↦ inr (λ u. away (u.place, u.index, u.here))
  ]

  -- ---- operand by operand

  more : (end : ℕ) (p : Ptr OperationKind) → IsBefore vs end p → IsBefore vs (end + 1) p
  more end p h = (h.0, h.1, omega (arith, h.2), h.3)

  cases : (end : ℕ) (v : Value) → slice_get vs end ≡ Some v → (p : Ptr OperationKind) → IsBefore vs (end + 1) p →
      IsBefore vs end p ⊎ (v.entity ≡ Op p)
  cases end v is p h = elim (below_next h.0 end h.2) [
    | inl l ↦ inl (h.0, h.1, l, h.3)
    | inr e ↦ inr (ap (λ (z : Value). z.entity)
        (same_Some v (result_of p h.1) (sym is ∙ ap (slice_get vs) (sym e) ∙ h.3)))
  ]

  pub using-start : (w : Worklist) → WaitAgain (IsBefore vs 0) w w
  using-start w = again-none w w refl (λ p h. omega (arith, h.2))

  -- one operand more
  pub using-next : (end : ℕ) (v : Value) (w m t : Worklist) → slice_get vs end ≡ Some v →
      WaitAgain (IsBefore vs end) w m → WaitAgain (λ p. v.entity ≡ Op p) m t → WaitAgain (IsBefore vs (end + 1)) w t
  using-next end v w m t is h k =
      again-both w m t (cases end v is) (more end)
      (λ p e. (end, v.index, omega arith, is ∙ ap (λ z. Some (record { entity = z; index = v.index })) e)) h k

  pub using-end : (end : ℕ) (w m : Worklist) → length vs ≤ end → WaitAgain (IsBefore vs end) w m →
      WaitAgain (Uses s q) w m
  using-end end w m past h =
      again-as w m (λ p b. record { place = b.0; index = b.1; here = b.3 })
      (λ p u. (u.place, u.index, (let l = slice_get_within vs u.place _ u.here in omega (arith, l, past)), u.here)) h
