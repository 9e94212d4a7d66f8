-- Changes below a node, one after another.
use Rattle.std.proofs.Common.{◌≡◌, ◌<◌, ◌≤◌, ◌+◌, ℕ, zero, suc, arith, Bool, true, false, List, [], ◌∷◌, ◌++◌, length}
use Rattle.std.proofs.Common.{Option, Some, None, ◌⊎◌, inl, inr, refl, sym, ap, subst, ◌∙◌, append_assoc, slice_get}
use Rattle.std.proofs.lemmas.Option.{none-some}
use Rattle.plir_core.specs.declared.ptr.Ptr.{Ptr}
use Rattle.plir_core.specs.declared.ptr.Operation.{Operation as OperationKind}
use Rattle.plir_core.specs.declared.ptr.BasicBlock.{BasicBlock as BasicBlockKind}
use Rattle.plir_core.specs.declared.ptr.IRNode.{IRNode}
use Rattle.plir_core.specs.declared.ptr.IRNode.TheVariants.{Operation, BasicBlock}
use Rattle.plir_core.specs.declared.value.Value.{Value}
use Rattle.plir_core.specs.Above.{climb}
use Rattle.plir_core.specs.Changes.{SameLive}
use Rattle.plir_core.specs.Forest.{look, IsBelow, IsForest}
use Rattle.plir_core.specs.WellFormed.{IsWellFormed}
use Rattle.plir_core.specs.ContextView.{ContextView, IsAncestor, IsLive, parent_of, given_out, operands_of}
use Rattle.plir_walk.specs.LawfulChanges.{LawfulChanges}
use Rattle.plir_walk.specs.NodeLaws.{climb-nothing}
use Rattle.plir_folding.specs.Worth.{Integer, IsUnfolded, IsSettled}
use Rattle.plir_folding.specs.Folded.{ArePaired, IsFlagged, IsFolded}
use Rattle.plir_folding.specs.Folding.{IsFilledBefore, IsFoldedBelow, IsToldBy}
use Rattle.plir_folding.proofs.Folds.{folded-none, folded-refused, folded-then, tells-then, tells-none}

-- paired lists are as long
paired-length : (R : Value → Value → Type 0) (vs ws : List Value) → ArePaired R vs ws → length ws ≡ length vs
paired-length R [] [] h = refl
paired-length R [] (w ∷ ws) h = absurd h
paired-length R (v ∷ vs) [] h = absurd h
paired-length R (v ∷ vs) (w ∷ ws) h = ap suc (paired-length R vs ws h.1)

-- what stands at a place of a list stands within it
within : {X : Type 0} (xs : List X) (i : ℕ) (x : X) → slice_get xs i ≡ Some x → i < length xs
within [] i x e = absurd (none-some x e)
within (y ∷ xs) zero x e = omega arith
within (y ∷ xs) (suc i) x e = (let h = within xs i x e in omega (arith, h))

at-or-before : (j i : ℕ) → j < i + 1 → (j ≡ i) ⊎ (j < i)
at-or-before j i h =
    elim (nat-cases j i) [ inl e ↦ inl e | inr (inl l) ↦ inr l | inr (inr g) ↦ absurd (omega (arith, h, g)) ]
  where
    nat-cases : (a b : ℕ) → (a ≡ b) ⊎ ((a < b) ⊎ (b < a))
    nat-cases zero zero = inl refl
    nat-cases zero (suc b) = inr (inl (omega arith))
    nat-cases (suc a) zero = inr (inr (omega arith))
    nat-cases (suc a) (suc b) =
        elim (nat-cases a b) [
          | inl e ↦ inl (ap suc e)
          | inr (inl l) ↦ inr (inl (omega (arith, l)))
          | inr (inr g) ↦ inr (inr (omega (arith, g)))
        ]

module _ {K A T : Type 0} (fold : K → Integer → Integer → Option Integer) (own : A → List ℕ) where
  -- From the start of the loop in s to s', the operands before the place i do not fold, if nothing was folded.
  pub record IsFoldingOp (s s' : ContextView K A T) (b : Ptr BasicBlockKind) (op : Ptr OperationKind)
      (before changed : Bool) (i : ℕ) : Type 0 where
    pub below : IsFoldedBelow fold own s (BasicBlock b) s'
    pub tells : IsFlagged s before changed s'
    pub settled : changed ≡ false → (j : ℕ) → j < i → IsUnfolded fold s' op j
    pub filled : IsFilledBefore s s' b op

module _ {K A T : Type 0} (fold : K → Integer → Integer → Option Integer) (own : A → List ℕ)
    (laws : LawfulChanges K A T own) where
  pub below-none : (s : ContextView K A T) (n : IRNode) → IsWellFormed own s → IsFoldedBelow fold own s n s
  below-none s n w = record { folded = folded-none fold s (laws.forest s w); lawful = laws.none s n; whole = w }

  pub below-refused : (s t : ContextView K A T) (n : IRNode) → IsWellFormed own s → IsWellFormed own t → SameLive s t
      → ((m : IRNode) → given_out s m ≡ true → given_out t m ≡ true) → IsFoldedBelow fold own s n t
  below-refused s t n w w' same given =
      record {
        folded = folded-refused fold s t (laws.forest s w) same given;
        lawful = laws.refused s t n same given;
        whole = w';
      }

  pub below-then : (s t u : ContextView K A T) (n : IRNode) → IsWellFormed own s → IsFoldedBelow fold own s n t
      → IsFoldedBelow fold own t n u → IsFoldedBelow fold own s n u
  below-then s t u n w f g = record {
    folded = folded-then fold own s t u w f.whole f.folded g.folded;
    lawful = laws.both s t u n (laws.forest s w) f.lawful g.lawful;
    whole = g.whole;
  }

  -- folding below a node is folding below each that it stands under
  pub below-above : (s t : ContextView K A T) (n r : IRNode) → IsWellFormed own s → IsLive s r → IsAncestor s r n
      → IsFoldedBelow fold own s n t → IsFoldedBelow fold own s r t
  below-above s t n r w live over f = record {
    folded = f.folded;
    lawful = laws.above s t n r (laws.forest s w) (laws.forest t f.whole) live over f.lawful;
    whole = f.whole;
  }

  filled-then : (s t u : ContextView K A T) (b : Ptr BasicBlockKind) (op : Ptr OperationKind) → IsFilledBefore s t b op
      → IsFilledBefore t u b op → IsFilledBefore s u b op
  filled-then s t u b op f g xs ys e =
      let r = f xs ys e in
      let q = g (xs ++ r.0) ys (r.1 ∙ sym (append_assoc xs r.0 (Operation op ∷ ys))) in (
        r.0 ++ q.0,
        q.1 ∙ append_assoc xs r.0 (q.0 ++ Operation op ∷ ys)
            ∙ ap (λ z. xs ++ z) (sym (append_assoc r.0 q.0 (Operation op ∷ ys))),
      )

-- what stands below a node is live, and stands in something that is the node or stands below it
module _ {K A T : Type 0} (s : ContextView K A T) (r n : IRNode) (b : IsBelow (look s) r n) where
  pub below-parent : (a : IRNode) × (parent_of s n ≡ Some a)
  below-parent = go (parent_of s n) refl
    where
      go : (o : Option IRNode) → parent_of s n ≡ o → (a : IRNode) × (parent_of s n ≡ Some a)
      go None q = absurd (climb-nothing (parent_of s) b.0 r (ap (climb (parent_of s) b.0) (sym q) ∙ b.1))
      go (Some a) q = (a, q)

  pub below-live : IsForest (look s) → IsLive s n
  below-live w = (let up = below-parent in w.child_live up.0 n (w.parent_child up.0 n up.1))

  pub below-over : (a : IRNode) → parent_of s n ≡ Some a → IsAncestor s r a
  below-over a q = (b.0, ap (climb (parent_of s) b.0) (sym q) ∙ b.1)

module _ {K A T : Type 0} (fold : K → Integer → Integer → Option Integer) (s t : ContextView K A T)
    (w : IsForest (look s)) (f : IsFolded fold s t) where
  climb-same : (k : ℕ) (n : IRNode) → IsLive s n
      → climb (parent_of t) k (Some n) ≡ climb (parent_of s) k (Some n)
  climb-same zero n l = refl
  climb-same (suc k) n l =
      ap (climb (parent_of t) k) (f.parents n l) ∙ up (λ a m. climb-same k a m) (parent_of s n) refl
    where
      none : (k : ℕ) → climb (parent_of t) k None ≡ climb (parent_of s) k None
      none zero = refl
      none (suc k) = refl

      up : ((a : IRNode) → IsLive s a → climb (parent_of t) k (Some a) ≡ climb (parent_of s) k (Some a))
          → (o : Option IRNode) → parent_of s n ≡ o
          → climb (parent_of t) k (parent_of s n) ≡ climb (parent_of s) k (parent_of s n)
      up rest None q = ap (climb (parent_of t) k) q ∙ none k ∙ ap (climb (parent_of s) k) (sym q)
      up rest (Some a) q =
          ap (climb (parent_of t) k) q ∙ rest a (w.parent_live a n q) ∙ ap (climb (parent_of s) k) (sym q)

  -- what stood below a node before operands were folded stands there afterwards
  pub still-below : (r n : IRNode) → IsBelow (look s) r n → IsBelow (look t) r n
  still-below r n b = (b.0, climb-same (suc b.0) n (below-live s r n b w) ∙ b.1)

module _ {K A T : Type 0} {fold : K → Integer → Integer → Option Integer} {own : A → List ℕ}
    (laws : LawfulChanges K A T own) where
  pub folding-start : {s : ContextView K A T} {b : Ptr BasicBlockKind} {op : Ptr OperationKind} {before : Bool}
      → IsWellFormed own s → IsFoldingOp fold own s s b op before before 0
  folding-start {s} {b} {op} {before} w = record {
    below = below-none fold own laws s (BasicBlock b) w;
    tells = tells-none fold s before;
    settled = λ e j l. absurd (omega (arith, l));
    filled = λ xs ys e. ([], e);
  }

  module _ {s s' : ContextView K A T} {b : Ptr BasicBlockKind} {op : Ptr OperationKind} {before changed : Bool} {i : ℕ}
      (w : IsWellFormed own s) (live : IsLive s (Operation op))
      (r : IsFoldingOp fold own s s' b op before changed i) where
    pub folding-live : IsLive s' (Operation op)
    folding-live = r.below.folded.live (Operation op) live

    pub folding-here : parent_of s (Operation op) ≡ Some (BasicBlock b)
        → parent_of s' (Operation op) ≡ Some (BasicBlock b)
    folding-here e = r.below.folded.parents (Operation op) live ∙ e

    pub folding-count : length (operands_of s' op) ≡ length (operands_of s op)
    folding-count = paired-length _ (operands_of s op) (operands_of s' op) (r.below.folded.operands op live)

    module _ {t : ContextView K A T} (f : IsFoldedBelow fold own s' (BasicBlock b) t)
        (g : IsFilledBefore s' t b op) where
      pub folding-below : IsFoldedBelow fold own s (BasicBlock b) t
      folding-below = below-then fold own laws s s' t (BasicBlock b) w r.below f

      pub folding-filled : IsFilledBefore s t b op
      folding-filled = filled-then fold own laws s s' t b op r.filled g

      pub folding-more : {changed' : Bool} → IsToldBy s' changed changed' t (λ c. IsUnfolded fold c op i)
          → IsFoldingOp fold own s t b op before changed' (i + 1)
      folding-more {changed'} told = record {
        below = folding-below;
        tells =
            tells-then fold own s s' t w r.below.whole r.below.folded f.folded before changed changed' r.tells
            told.tells;
        settled = λ e j l. elim (at-or-before j i l) [
          | inl is ↦ subst (IsUnfolded fold t op) (sym is) (told.settled e)
          | inr h ↦ (let k = told.tells.clear e in subst (λ z. IsUnfolded fold z op j) (sym k.1) (r.settled k.0 j h))
        ];
        filled = folding-filled;
      }

    pub folding-end : length (operands_of s op) ≤ i → changed ≡ false → IsSettled fold s' op
    folding-end all e j v at =
        let k = within (operands_of s' op) j v at in
        let c = folding-count in
        r.settled e j (omega (arith, all, k, c)) v at

-- An operation p that stood below a root at the start s, when all that was done up to t was folding below the root.
module _ {K A T : Type 0} {fold : K → Integer → Integer → Option Integer} {own : A → List ℕ}
    (laws : LawfulChanges K A T own) {s t : ContextView K A T} {root : Ptr OperationKind} (w : IsWellFormed own s)
    (f : IsFoldedBelow fold own s (Operation root) t) (p : Ptr OperationKind)
    (b : IsBelow (look s) (Operation root) (Operation p)) where
  pub step-live : IsLive t (Operation p)
  step-live = f.folded.live (Operation p) (below-live s (Operation root) (Operation p) b (laws.forest s w))

  -- folding in its block, which is folding below all that it stands below, is more of the same
  pub step-folded : {u : ContextView K A T} → IsLive s (Operation root)
      → ((n : IRNode) → IsLive t n → IsBelow (look t) n (Operation p) → IsFoldedBelow fold own t n u)
      → IsFoldedBelow fold own s (Operation root) u
  step-folded {u} live h =
      below-then fold own laws s t u (Operation root) w f
      (h (Operation root) (f.folded.live (Operation root) live)
      (still-below fold s t (laws.forest s w) f.folded (Operation root) (Operation p) b))
