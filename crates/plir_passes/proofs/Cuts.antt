-- How far the loops have come that let operations go of what they use.
use Rattle.std.proofs.Common.{◌≡◌, ◌<◌, ◌+◌, ℕ, arith, true, false, drop, List, [], ◌∷◌, length, take, Option, Some}
use Rattle.std.proofs.Common.{None, ◌⊎◌}
use Rattle.std.proofs.Common.{inl, inr, refl, sym, ap, subst, ◌∙◌}
use Rattle.std.specs.Prelude.{option_map, remove, slice_get, slice_set}
use Rattle.std.proofs.lemmas.List.{take-append-drop, take_more_set}
use Rattle.std.proofs.lemmas.List.Edits.{length-remove}
use Rattle.plir_store.specs.FilterLaws.{not-both}
use Rattle.plir_store.specs.Members.{Has}
use Rattle.plir_store.specs.MemberLaws.{Has-append_cases, Has-append_left, Has-at}
use Rattle.plir_core.specs.declared.ptr.Ptr.{Ptr}
use Rattle.plir_core.specs.declared.ptr.Operation.{Operation as OperationKind}
use Rattle.plir_core.specs.declared.ptr.BasicBlock.{BasicBlock as BlockKind}
use Rattle.plir_core.specs.declared.ptr.IRNode.TheVariants.{Operation}
use Rattle.plir_core.specs.Changes.{with_op_edit}
use Rattle.plir_core.specs.Contents.{OpView}
use Rattle.plir_core.specs.Held.{IsOpEdited}
use Rattle.plir_core.specs.ContextView.{ContextView, IsLive, op_at, operands_in, operands_of, successors_in}
use Rattle.plir_core.specs.ContextView.{successors_of}
use Rattle.plir_walk.specs.NodeLaws.{ptr-tells}
use Rattle.plir_passes.specs.declared.marks.Marks.{Marks}
use Rattle.plir_passes.specs.Cutting.{IsCut, IsLoose, UsesNothing}
use Rattle.plir_passes.specs.Marked.{is_among, ops_of}
use Rattle.plir_passes.proofs.Freed.{cut-both, cut-edit}
use Rattle.plir_passes.proofs.Marking.{take-one}

module _ {K A : Type 0} where
  -- an operation without the operand at a place, and with another successor there
  abbrev pub without_operand : ℕ → OpView K A → OpView K A
  without_operand i v = record v { operands = remove v.operands i }

  abbrev pub with_successor : ℕ → Ptr BlockKind → OpView K A → OpView K A
  with_successor i b v = record v { successors = slice_set v.successors i b }

  -- one operand is taken out
  fewer : (i : ℕ) (o : Option (OpView K A)) → i < length (operands_in o) →
      length (operands_in (option_map (without_operand i) o)) + 1 ≡ length (operands_in o)
  fewer i None less = absurd (let z : ⊥ = omega (arith, less) in z)
  fewer i (Some v) less = length-remove v.operands i less

  -- one successor is another block
  turned : (i : ℕ) (b : Ptr BlockKind) (o : Option (OpView K A)) → i < length (successors_in o) →
      successors_in (option_map (with_successor i b) o)
      ≡ slice_set (successors_in o) i b
  turned i b None less = absurd (let z : ⊥ = omega (arith, less) in z)
  turned i b (Some v) less = refl

  still : (i : ℕ) (b : Ptr BlockKind) (o : Option (OpView K A)) →
      operands_in (option_map (with_successor i b) o) ≡ operands_in o
  still i b None = refl
  still i b (Some v) = refl

module _ {K A T : Type 0} (r s t : ContextView K A T) (p : Ptr OperationKind) where
  pub cut-more : (f : OpView K A → OpView K A) → IsOpEdited s (with_op_edit s p f) p f → t ≡ with_op_edit s p f →
      IsCut (λ q. q ≡ p) r s → IsCut (λ q. q ≡ p) r t
  cut-more f e after h =
      cut-both r s t (λ q x. x) (λ q x. x) h (subst (λ z. IsCut (λ q. q ≡ p) s z) (sym after) (cut-edit s p f e))

  pub operand-less : (i : ℕ) → i < length (operands_of s p) →
      IsOpEdited s (with_op_edit s p (without_operand i)) p
      (without_operand i) →
      t ≡ with_op_edit s p (without_operand i) →
      length (operands_of t p) + 1 ≡ length (operands_of s p)
  operand-less i less e after =
      ap (λ z. length (operands_of z p) + 1) after ∙ ap (λ o. length (operands_in o) + 1) e.held
      ∙ fewer i (op_at s p) less

  module _ (i : ℕ) (b : Ptr BlockKind) (less : i < length (successors_of s p))
      (e : IsOpEdited s (with_op_edit s p (with_successor i b)) p
      (with_successor i b))
      (after : t ≡ with_op_edit s p (with_successor i b)) where
    pub successor-turned : successors_of t p ≡ slice_set (successors_of s p) i b
    successor-turned =
        ap (λ z. successors_of z p) after ∙ ap successors_in e.held ∙ turned i b (op_at s p) less

    pub operands-still : operands_of t p ≡ operands_of s p
    operands-still = ap (λ z. operands_of z p) after ∙ ap operands_in e.held ∙ still i b (op_at s p)

    pub turned-more : ((x : Ptr BlockKind) → Has (take i (successors_of s p)) x → x ≡ b) → (x : Ptr BlockKind) →
        Has (take (i + 1) (successors_of t p)) x → x ≡ b
    turned-more all x has =
        elim (Has-append_cases (take i (successors_of s p)) (b ∷ []) x
        (subst (λ z. Has z x) (ap (take (i + 1)) successor-turned ∙ take_more_set (successors_of s p) i b less) has)) [
          | inl old ↦ all x old
          | inr new ↦ elim new [ inl same ↦ sym same | inr none ↦ absurd none ]
        ]

-- what is in front is in the list
pub Has-taken : {X : Type 0} (xs : List X) (i : ℕ) (x : X) → Has (take i xs) x → Has xs x
Has-taken xs i x h = subst (λ z. Has z x) (take-append-drop i xs) (Has-append_left (take i xs) (drop i xs) x h)

-- those of the first k that are not reached have let go
abbrev pub CutUpTo : {K A T : Type 0} → Marks → Marks → ℕ → ContextView K A T → Type 0
CutUpTo under reached k t = (q : Ptr OperationKind) → Has (take k (ops_of under)) q →
    is_among (ops_of reached) q ≡ false → UsesNothing t q

-- the loop over all operations
module _ {K A T : Type 0} (under reached : Marks) (r s : ContextView K A T) (i : ℕ) (p : Ptr OperationKind)
    (at : slice_get (ops_of under) i ≡ Some p) where
  pub last-cases : (q : Ptr OperationKind) → Has (take (i + 1) (ops_of under)) q →
      Has (take i (ops_of under)) q ⊎ (q ≡ p)
  last-cases q has =
      elim (Has-append_cases (take i (ops_of under)) (p ∷ []) q
      (subst (λ z. Has z q) (take-one (ops_of under) i p at) has)) [
        | inl old ↦ inl old
        | inr new ↦ elim new [ inl same ↦ inr (sym same) | inr none ↦ absurd none ]
      ]

  -- it is reached, and stays
  pub up-to-kept : is_among (ops_of reached) p ≡ true → CutUpTo under reached i s → CutUpTo under reached (i + 1) s
  up-to-kept is h q has off = elim (last-cases q has) [
    | inl old ↦ h q old off
    | inr same ↦ absurd (not-both (is_among (ops_of reached) q)
        (subst (λ z. is_among (ops_of reached) z ≡ true) (sym same) is) off)
  ]

  -- it is not, and lets go
  module _ (t : ContextView K A T) (cut : IsCut (λ q. q ≡ p) s t) (no : is_among (ops_of reached) p ≡ false) where
    here : IsLoose under reached p
    here = (Has-at (ops_of under) i p at, no)

    pub cut-one-more : IsCut (IsLoose under reached) r s → IsCut (IsLoose under reached) r t
    cut-one-more h =
        cut-both r s t (λ q x. x) (λ q same. subst (IsLoose under reached) (sym same) here) h cut

    pub up-to-cut : ((q : Ptr OperationKind) → IsLoose under reached q → IsLive s (Operation q)) → UsesNothing t p →
        CutUpTo under reached i s → CutUpTo under reached (i + 1) t
    up-to-cut live none h q has off = elim (ptr-tells q p) [
      | inl same ↦ subst (UsesNothing t) (sym same) none
      | inr other ↦ elim (last-cases q has) [
        | inr same ↦ absurd (other same)
        | inl old ↦
            let f = h q old off in
            let kept = cut.ops q (live q (Has-taken (ops_of under) i q old, off)) other in record {
              operands = ap operands_in kept ∙ f.operands;
              successors = λ b k.
                  cut.keeps.parents (Operation q)
                  ∙ f.successors b (subst (λ z. Has z b) (ap successors_in kept) k);
            }
      ]
    ]
