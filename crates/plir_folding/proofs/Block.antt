-- The loop over the operations of a block.
use Rattle.std.proofs.Common.{◌≡◌, ◌<◌, ℕ, arith, Bool, false, List, [], ◌∷◌, ◌++◌, length, Option, Some, None}
use Rattle.std.proofs.Common.{option_map, inl, inr, refl, sym, ap, subst, ◌∙◌, append_assoc, length-append}
use Rattle.std.proofs.lemmas.List.{nil_from_length}
use Rattle.plir_store.specs.Members.{Has, head}
use Rattle.plir_store.specs.MemberLaws.{Has-append_cases}
use Rattle.plir_core.specs.declared.ptr.Ptr.{Ptr}
use Rattle.plir_core.specs.declared.ptr.Operation.{Operation as OperationKind}
use Rattle.plir_core.specs.declared.ptr.BasicBlock.{BasicBlock as BasicBlockKind}
use Rattle.plir_core.specs.declared.ptr.IRNode.{IRNode}
use Rattle.plir_core.specs.declared.ptr.IRNode.TheVariants.{Operation, BasicBlock}
use Rattle.plir_core.specs.Forest.{look, IsForest}
use Rattle.plir_core.specs.WellFormed.{IsWellFormed}
use Rattle.plir_core.specs.ContextView.{ContextView, IsLive, children, parent_of}
use Rattle.plir_walk.specs.LawfulChanges.{LawfulChanges}
use Rattle.plir_walk.specs.NodeLaws.{left_from, same-op, ended}
use Rattle.plir_folding.specs.Worth.{Integer, IsSettled}
use Rattle.plir_folding.specs.Folded.{IsFlagged}
use Rattle.plir_folding.specs.Folding.{AreChildrenSettled, IsFilledBefore, IsFoldedBelow, IsToldBy}
use Rattle.plir_folding.proofs.Along.{along-rest, along-cut, along-live, along-parent, left-falls}
use Rattle.plir_folding.proofs.Folds.{tells-then, tells-none}
use Rattle.plir_folding.proofs.Below.{below-none, below-then}

-- nothing has come between two parts of a list that is the same
nothing-between : (xs ks ys : List IRNode) → xs ++ ys ≡ xs ++ (ks ++ ys) → ks ≡ []
nothing-between xs ks ys e =
    let a = ap length e in
    let b = length-append xs ys in
    let c = length-append xs (ks ++ ys) in
    let d = length-append ks ys in
    nil_from_length ks (omega (arith, a, b, c, d))

module _ {K A T : Type 0} (fold : K → Integer → Integer → Option Integer) (own : A → List ℕ) where
  -- From the start of the loop in s to s', no operand of the operations of the block b before `at` folds, if nothing
  -- was folded.
  pub record IsFoldingBlock (s s' : ContextView K A T) (b : Ptr BasicBlockKind) (before changed : Bool)
      (at : Option (Ptr OperationKind)) : Type 0 where
    pub below : IsFoldedBelow fold own s (BasicBlock b) s'
    pub tells : IsFlagged s before changed s'
    pub front : List IRNode
    pub back : List IRNode
    pub split : children s' (BasicBlock b) ≡ front ++ back
    pub here : option_map Operation at ≡ head back
    pub clean : changed ≡ false → (p : Ptr OperationKind) → Has front (Operation p) → IsSettled fold s' p

module _ {K A T : Type 0} {fold : K → Integer → Integer → Option Integer} {own : A → List ℕ}
    (laws : LawfulChanges K A T own) where
  pub block-start : {s : ContextView K A T} {b : Ptr BasicBlockKind} {before : Bool} {at : Option (Ptr OperationKind)}
      → IsWellFormed own s → option_map Operation at ≡ head (children s (BasicBlock b))
      → IsFoldingBlock fold own s s b before before at
  block-start {s} {b} {before} {at} w e = record {
    below = below-none fold own laws s (BasicBlock b) w;
    tells = tells-none fold s before;
    front = [];
    back = children s (BasicBlock b);
    split = refl;
    here = e;
    clean = λ f p h. absurd h;
  }

  module _ {s s' : ContextView K A T} {b : Ptr BasicBlockKind} {before changed : Bool} {at : Option (Ptr OperationKind)}
      (w : IsWellFormed own s) (r : IsFoldingBlock fold own s s' b before changed at) where
    pub block-end : at ≡ None → changed ≡ false → AreChildrenSettled fold s' (BasicBlock b)
    block-end e f p h =
        elim (Has-append_cases r.front r.back (Operation p) (subst (λ z. Has z (Operation p)) r.split h)) [
          | inl x ↦ r.clean f p x
          | inr y ↦
              absurd (subst (λ z. Has z (Operation p)) (ended r.back (ap (option_map Operation) (sym e) ∙ r.here)) y)
        ]

    module _ (op : Ptr OperationKind) (is : at ≡ Some op) where
      forest : IsForest (look s')
      forest = laws.forest s' r.below.whole

      abbrev rest : (ys : List IRNode) × (r.back ≡ Operation op ∷ ys)
      rest = along-rest s' forest b r.front r.back at r.split r.here op is

      block-cut : children s' (BasicBlock b) ≡ r.front ++ Operation op ∷ rest.0
      block-cut = along-cut s' forest b r.front r.back at r.split r.here op is

      pub block-live : IsLive s' (Operation op)
      block-live = along-live s' forest b r.front r.back at r.split r.here op is

      pub block-parent : parent_of s' (Operation op) ≡ Some (BasicBlock b)
      block-parent = along-parent s' forest b r.front r.back at r.split r.here op is

      module _ {t : ContextView K A T} (f : IsFoldedBelow fold own s' (BasicBlock b) t) where
        pub block-below : IsFoldedBelow fold own s (BasicBlock b) t
        block-below = below-then fold own laws s s' t (BasicBlock b) w r.below f

        module _ (next : Option (Ptr OperationKind))
            (behind : (xs ys : List IRNode) → children s' (BasicBlock b) ≡ xs ++ Operation op ∷ ys
            → option_map Operation next ≡ head ys) (g : IsFilledBefore s' t b op) where
          abbrev passed : List IRNode
          passed = r.front ++ ((g r.front rest.0 block-cut).0 ++ Operation op ∷ [])

          recut : children t (BasicBlock b) ≡ passed ++ rest.0
          recut =
              let k = g r.front rest.0 block-cut in
              k.1 ∙ ap (λ z. r.front ++ z) (sym (append_assoc k.0 (Operation op ∷ []) rest.0))
              ∙ sym (append_assoc r.front (k.0 ++ Operation op ∷ []) rest.0)

          pub block-more : {changed' : Bool} → IsToldBy s' changed changed' t (λ c. IsSettled fold c op)
              → IsFoldingBlock fold own s t b before changed' next
          block-more {changed'} told = record {
            below = block-below;
            tells =
                tells-then fold own s s' t w r.below.whole r.below.folded f.folded before changed changed' r.tells
                told.tells;
            front = passed;
            back = rest.0;
            split = recut;
            here = behind r.front rest.0 block-cut;
            clean = λ e p h.
                (let k = told.tells.clear e in
                let q = g r.front rest.0 block-cut in
                let none =
                nothing-between r.front q.0 (Operation op ∷ rest.0)
                (sym block-cut ∙ ap (λ z. children z (BasicBlock b)) (sym k.1) ∙ q.1) in
                elim (Has-append_cases r.front (q.0 ++ Operation op ∷ []) (Operation p) h) [
                  | inl x ↦ subst (λ z. IsSettled fold z p) (sym k.1) (r.clean k.0 p x)
                  | inr y ↦ elim (subst (λ z. Has (z ++ Operation op ∷ []) (Operation p)) none y) [
                    | inl i ↦ subst (IsSettled fold t) (same-op op p i) (told.settled e)
                    | inr nay ↦ absurd nay
                  ]
                ]);
          }

          pub block-falls : left_from (children t (BasicBlock b)) next < left_from (children s' (BasicBlock b)) at
          block-falls =
              left-falls (children s' (BasicBlock b)) (children t (BasicBlock b)) r.front passed rest.0 op at next is
              block-cut (forest.once (BasicBlock b)) recut ((laws.forest t f.whole).once (BasicBlock b))
              (behind r.front rest.0 block-cut)
