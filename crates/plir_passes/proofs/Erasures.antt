-- Operations are erased one after another, each with all below it.
use Rattle.std.proofs.Common.{◌≡◌, ◌+◌, ℕ, zero, suc, true, false, List, [], ◌∷◌, take, get_or, All, Option, Some, None}
use Rattle.std.proofs.Common.{◌⊎◌, inl, inr}
use Rattle.std.proofs.Common.{refl, sym, ap, subst, ◌∙◌}
use Rattle.std.specs.Prelude.{slice_get}
use Rattle.std.proofs.lemmas.Bool.{false_from_ne_true}
use Rattle.plir_store.specs.FilterLaws.{not-both}
use Rattle.plir_store.specs.Members.{Has}
use Rattle.plir_store.specs.MemberLaws.{Has-append_cases, Has-append_left, Has-append_right}
use Rattle.plir_core.specs.declared.ptr.Ptr.{Ptr}
use Rattle.plir_core.specs.declared.ptr.Operation.{Operation as OperationKind}
use Rattle.plir_core.specs.declared.ptr.IRNode.{IRNode}
use Rattle.plir_core.specs.declared.ptr.IRNode.TheVariants.{Operation, BasicBlock}
use Rattle.plir_core.specs.Above.{climb}
use Rattle.plir_core.specs.ContextView.{ContextView, IsAncestor, IsLive, entity_node, is_live, operands_in, operands_of}
use Rattle.plir_core.specs.ContextView.{parent_of, successors_in, successors_of}
use Rattle.plir_core.specs.Erase.{IsErased}
use Rattle.plir_core.specs.Forest.{look, IsForest}
use Rattle.plir_core.specs.Unused.{IsUnusedOutside}
use Rattle.plir_walk.specs.Thinned.{IsThinned}
use Rattle.plir_walk.specs.ThinnedLaws.{thinned-both, thinned-none}
use Rattle.plir_walk.specs.NodeLaws.{climb-nothing}
use Rattle.plir_passes.specs.declared.marks.Marks.{Marks}
use Rattle.plir_passes.specs.Cutting.{AreErased}
use Rattle.plir_passes.specs.Marked.{is_among, ops_of}
use Rattle.plir_passes.proofs.Marking.{take-one}

all-still : {X : Type 0} (P Q : X → Type 0) → ((x : X) → P x → Q x) → (xs : List X) → All P xs → All Q xs
all-still P Q f xs h = λ k d less. f (get_or xs k d) (h k d less)

-- what stands at or above a live node is live
pub above-live : {K A T : Type 0} (s : ContextView K A T) → IsForest (look s) → (k : ℕ) (n r : IRNode) → IsLive s n →
    climb (parent_of s) k (Some n) ≡ Some r → IsLive s r
above-live s w zero n r l e = subst (IsLive s) (let f = same n r e in f) l
  where
    same : (a b : IRNode) → Some a ≡ Some b → a ≡ b
    same a b e = cc e
above-live s w (suc k) n r l e = up (λ a m g. above-live s w k a r m g) (parent_of s n) refl
  where
    up : ((a : IRNode) → IsLive s a → climb (parent_of s) k (Some a) ≡ Some r → IsLive s r) → (o : Option IRNode) →
        parent_of s n ≡ o → IsLive s r
    up rest None q = absurd (climb-nothing (parent_of s) k r (ap (climb (parent_of s) k) (sym q) ∙ e))
    up rest (Some a) q = rest a (w.parent_live a n q) (ap (climb (parent_of s) k) (sym q) ∙ e)

module _ {K A T : Type 0} (s t : ContextView K A T) (forest : IsForest (look t)) (thin : IsThinned s t) where
  -- what is live in t stands below what it stood below
  pub climb-same : (k : ℕ) (n : IRNode) → IsLive t n →
      climb (parent_of t) k (Some n) ≡ climb (parent_of s) k (Some n)
  climb-same zero n l = refl
  climb-same (suc k) n l =
      up (λ a m. climb-same k a m) (parent_of t n) refl ∙ ap (climb (parent_of s) k) (thin.parents n l)
    where
      none : (k : ℕ) → climb (parent_of t) k None ≡ climb (parent_of s) k None
      none zero = refl
      none (suc k) = refl

      up : ((a : IRNode) → IsLive t a → climb (parent_of t) k (Some a) ≡ climb (parent_of s) k (Some a)) →
          (o : Option IRNode) → parent_of t n ≡ o →
          climb (parent_of t) k (parent_of t n) ≡ climb (parent_of s) k (parent_of t n)
      up rest None q = ap (climb (parent_of t) k) q ∙ none k ∙ ap (climb (parent_of s) k) (sym q)
      up rest (Some a) q =
          ap (climb (parent_of t) k) q ∙ rest a (forest.parent_live a n q) ∙ ap (climb (parent_of s) k) (sym q)

  -- what climbs in t to what is live there is live there
  climb-live : (k : ℕ) (n r : IRNode) → IsLive t r → climb (parent_of t) k (Some n) ≡ Some r → IsLive t n
  climb-live zero n r l e = subst (IsLive t) (let z : r ≡ n = cc e in z) l
  climb-live (suc k) n r l e = up (parent_of t n) refl
    where
      up : (o : Option IRNode) → parent_of t n ≡ o → IsLive t n
      up None q = absurd (climb-nothing (parent_of t) k r (ap (climb (parent_of t) k) (sym q) ∙ e))
      up (Some a) q = forest.child_live a n (forest.parent_child a n q)

  pub ancestor-before : (r n : IRNode) → IsLive t r → IsAncestor t r n → IsAncestor s r n
  ancestor-before r n l h = (h.0, sym (climb-same h.0 n (climb-live h.0 n r l h.1)) ∙ h.1)

  pub ancestor-after : (r n : IRNode) → IsLive t n → IsAncestor s r n → IsAncestor t r n
  ancestor-after r n l h = (h.0, climb-same h.0 n l ∙ h.1)

  -- what nothing outside its tree used is unused still
  pub unused-still : (n : IRNode) → IsLive t n → IsUnusedOutside s n → IsUnusedOutside t n
  unused-still n live h u l out =
      (let same = thin.ops u l in
      let k = h u (thin.old (Operation u) l) (λ a. out (ancestor-after n (Operation u) l a)) in
      record {
        operands = subst (λ z. All (λ v. IsAncestor t n (entity_node v.entity) → ⊥) (operands_in z)) (sym same)
            (all-still (λ v. IsAncestor s n (entity_node v.entity) → ⊥)
            (λ v. IsAncestor t n (entity_node v.entity) → ⊥)
            (λ v f a. f (ancestor-before n (entity_node v.entity) live a))
            (operands_of s u) k.operands);
        successors = subst (λ z. All (λ b. IsAncestor t n (BasicBlock b) → ⊥) (successors_in z)) (sym same)
            (all-still (λ b. IsAncestor s n (BasicBlock b) → ⊥)
            (λ b. IsAncestor t n (BasicBlock b) → ⊥)
            (λ b f a. f (ancestor-before n (BasicBlock b) live a))
            (successors_of s u) k.successors);
      })

module _ {K A T : Type 0} where
  pub erased-none : {D : Ptr OperationKind → Type 0} (s : ContextView K A T) → IsForest (look s) →
      ((q : Ptr OperationKind) → D q → is_live s (Operation q) ≡ false) → AreErased D s s
  erased-none s w away =
      record { gone = away; left = λ n l no. l; thinned = thinned-none s w; forest = w }

  pub erased-one : (s t : ContextView K A T) (p : Ptr OperationKind) → IsErased s.nodes t.nodes (Operation p) →
      IsThinned s t → IsForest (look t) → AreErased (λ q. q ≡ p) s t
  erased-one s t p e thin w = record {
    gone = λ q same. subst (λ z. is_live t (Operation z) ≡ false) (sym same) (e.gone (Operation p) (zero, refl));
    left = λ n l no. e.live n (λ r. no p refl r) ∙ l;
    thinned = thin;
    forest = w;
  }

  pub erased-both : {P Q R : Ptr OperationKind → Type 0} (s m t : ContextView K A T) →
      ((q : Ptr OperationKind) → R q → P q ⊎ Q q) → ((q : Ptr OperationKind) → P q → R q) →
      ((q : Ptr OperationKind) → Q q → R q) → AreErased P s m → AreErased Q m t → AreErased R s t
  erased-both s m t cases f g h k = record {
    gone = λ q r. elim (cases q r) [
      | inl p ↦ false_from_ne_true (is_live t (Operation q))
          (λ l. not-both (is_live m (Operation q)) (k.thinned.old (Operation q) l) (h.gone q p))
      | inr x ↦ k.gone q x
    ];
    left = λ n l no.
        (let lives = h.left n l (λ q p a. no q (f q p) a) in
        k.left n lives (λ q x a. no q (g q x)
        (ancestor-before s m h.forest h.thinned (Operation q) n
        (above-live m h.forest a.0 n (Operation q) lives a.1) a)));
    thinned = thinned-both s m t h.thinned k.thinned;
    forest = k.forest;
  }

  pub erased-as : {P Q : Ptr OperationKind → Type 0} (s t : ContextView K A T) →
      ((q : Ptr OperationKind) → Q q → P q) → ((q : Ptr OperationKind) → P q → Q q) → AreErased P s t →
      AreErased Q s t
  erased-as s t f g h = record {
    gone = λ q x. h.gone q (f q x);
    left = λ n l no. h.left n l (λ q p a. no q (g q p) a);
    thinned = h.thinned;
    forest = h.forest;
  }

-- an operation is one of some, and not among those that are reached
abbrev pub IsLooseIn : List (Ptr OperationKind) → Marks → Ptr OperationKind → Type 0
IsLooseIn ps reached q = Has ps q × (is_among (ops_of reached) q ≡ false)

-- the loop over all operations
module _ {K A T : Type 0} (ops : List (Ptr OperationKind)) (reached : Marks) (r s : ContextView K A T) (i : ℕ)
    (p : Ptr OperationKind) (at : slice_get ops i ≡ Some p) where
  last-in : (q : Ptr OperationKind) → Has (take (i + 1) ops) q → Has (take i ops) q ⊎ (q ≡ p)
  last-in q has = elim (Has-append_cases (take i ops) (p ∷ []) q (subst (λ z. Has z q) (take-one ops i p at) has)) [
    | inl old ↦ inl old
    | inr new ↦ elim new [ inl same ↦ inr (sym same) | inr none ↦ absurd none ]
  ]

  in-last : (q : Ptr OperationKind) → Has (take i ops) q ⊎ (q ≡ p) → Has (take (i + 1) ops) q
  in-last q (inl old) = subst (λ z. Has z q) (sym (take-one ops i p at)) (Has-append_left (take i ops) (p ∷ []) q old)
  in-last q (inr same) =
      subst (λ z. Has z q) (sym (take-one ops i p at)) (Has-append_right (take i ops) (p ∷ []) q (inl (sym same)))

  -- it is not reached, and goes
  pub erase-next : (t : ContextView K A T) → is_among (ops_of reached) p ≡ false →
      AreErased (IsLooseIn (take i ops) reached) r s → AreErased (λ q. q ≡ p) s t →
      AreErased (IsLooseIn (take (i + 1) ops) reached) r t
  erase-next t off h k =
      erased-both r s t
      (λ q f. elim (last-in q f.0) [ inl old ↦ inl (old, f.1) | inr same ↦ inr same ])
      (λ q f. (in-last q (inl f.0), f.1))
      (λ q same. (in-last q (inr same), subst (λ z. is_among (ops_of reached) z ≡ false) (sym same) off)) h k

  -- it is reached, and stays
  pub erase-kept : is_among (ops_of reached) p ≡ true → AreErased (IsLooseIn (take i ops) reached) r s →
      AreErased (IsLooseIn (take (i + 1) ops) reached) r s
  erase-kept on h =
      erased-as r s
      (λ q f. elim (last-in q f.0) [
        | inl old ↦ (old, f.1)
        | inr same ↦ absurd (not-both (is_among (ops_of reached) q)
            (subst (λ z. is_among (ops_of reached) z ≡ true) (sym same) on) f.1)
      ])
      (λ q f. (in-last q (inl f.0), f.1)) h
