-- What an operation needs is marked, one kind of need after another.
use Rattle.std.proofs.Common.{◌≡◌, ◌↔◌, ◌⊎◌, Bool, true, inl, inr, subst, sym}
use Rattle.plir_store.specs.Members.{Has}
use Rattle.plir_core.specs.declared.ptr.Ptr.{Ptr}
use Rattle.plir_core.specs.declared.ptr.Operation.{Operation as OperationKind}
use Rattle.plir_core.specs.ContextView.{ContextView, kind_of}
use Rattle.plir_passes.specs.Legal.{is_kind}
use Rattle.plir_passes.specs.declared.marks.Marks.{Marks}
use Rattle.plir_passes.specs.Marked.{IsGrown, ops_of}
use Rattle.plir_passes.specs.Reached.{HasOperandFrom, HasSuccessorOf, IsUnder, Needs, StandsIn, StaysItself, acts}
use Rattle.plir_passes.specs.Reached.{ends_block}
use Rattle.plir_passes.proofs.Marking.{grown-both}

module _ {K A T : Type 0} (ends : K → Bool) (s : ContextView K A T) (under : Marks) (p : Ptr OperationKind)
    (inner : (q : Ptr OperationKind) → StandsIn s p q → Has (ops_of under) q) where
  abbrev U : Ptr OperationKind → Type 0
  U q = Has (ops_of under) q

  abbrev Ends : Ptr OperationKind → Type 0
  Ends q = StandsIn s p q × (is_kind (ends_block ends) (kind_of s q) ≡ true)

  pub needed-grown : (r a b c t : Marks) → IsGrown (λ q. HasOperandFrom s p q × U q) r a →
      IsGrown (λ q. HasSuccessorOf s p q × U q) a b → IsGrown (λ q. StandsIn s q p × U q) b c → IsGrown Ends c t →
      IsGrown (λ q. U q × Needs ends s p q) r t
  needed-grown r a b c t h k l m =
      let n : IsGrown (λ q. U q × (StandsIn s q p ⊎ Ends q)) b t =
      grown-both b c t
      (λ q f. elim f.1 [ inl x ↦ inl (x, f.0) | inr x ↦ inr x ])
      (λ q f. (f.1, inl f.0)) (λ q f. (inner q f.0, inr f)) l m in
      let o : IsGrown (λ q. U q × (HasSuccessorOf s p q ⊎ (StandsIn s q p ⊎ Ends q))) a t =
      grown-both a b t
      (λ q f. elim f.1 [ inl x ↦ inl (x, f.0) | inr x ↦ inr (f.0, x) ])
      (λ q f. (f.1, inl f.0)) (λ q f. (f.0, inr f.1)) k n in
      grown-both r a t
      (λ q f. elim f.1 [ inl x ↦ inl (x, f.0) | inr x ↦ inr (f.0, x) ])
      (λ q f. (f.1, inl f.0)) (λ q f. (f.0, inr f.1)) h o

-- what stays by itself: the root, and what does something
pub first-grown : {K A T : Type 0} (effect ends : K → Bool) (s : ContextView K A T) (root : Ptr OperationKind)
    (under r m t : Marks) → ((q : Ptr OperationKind) → Has (ops_of under) q ↔ IsUnder s root q) → IsUnder s root root →
    IsGrown (λ q. q ≡ root) r m → IsGrown (λ q. Has (ops_of under) q × (is_kind (acts effect) (kind_of s q) ≡ true)) m t
    → IsGrown (StaysItself effect ends s root) r t
first-grown effect ends s root under r m t is here h k =
    grown-both r m t
    (λ q f. elim f.1 [ inl x ↦ inl x | inr x ↦ inr ((is q).1 f.0, x) ])
    (λ q same. (subst (IsUnder s root) (sym same) here, inl same))
    (λ q f. ((is q).0 f.0, inr f.1)) h k
