-- The loop over the operations of a block that reaches those that may not go.
use Rattle.std.proofs.Common.{◌≡◌, ◌<◌, suc, arith, Bool, List, [], ◌∷◌, ◌++◌, length, Option, Some, None, option_map}
use Rattle.std.proofs.Common.{inl, inr, refl, sym, ap, subst, ◌∙◌}
use Rattle.std.proofs.lemmas.List.{append_assoc, append-nil}
use Rattle.plir_store.specs.Members.{Has, Distinct, head}
use Rattle.plir_store.specs.MemberLaws.{Has-append_cases, Has-append_left, Has-append_right, Has-mid}
use Rattle.plir_core.specs.declared.ptr.Ptr.{Ptr}
use Rattle.plir_core.specs.declared.ptr.Operation.{Operation as OperationKind}
use Rattle.plir_core.specs.declared.ptr.BasicBlock.{BasicBlock as BasicBlockKind}
use Rattle.plir_core.specs.declared.ptr.IRNode.{IRNode}
use Rattle.plir_core.specs.declared.ptr.IRNode.TheVariants.{Operation, BasicBlock}
use Rattle.plir_core.specs.Contents.{OpView}
use Rattle.plir_core.specs.ContextView.{ContextView, IsLive, children}
use Rattle.plir_core.specs.Standing.{IsStanding}
use Rattle.plir_walk.specs.NodeLaws.{left_from, same-op, left-cut, headed, ended}
use Rattle.plir_symbols.specs.declared.reached.Reached.{Reached}
use Rattle.plir_symbols.specs.DeadSymbols.{MayGo}
use Rattle.plir_symbols.specs.Reaching.{IsGrown, IsKept, Tells}
use Rattle.plir_symbols.proofs.Grown.{grown-as, grown-both, grown-none}

module _ {K A T : Type 0} (own : K → Bool) (is_private : OpView K A → Bool) (s : ContextView K A T)
    (b : Ptr BasicBlockKind) where
  abbrev keeps : Ptr OperationKind → Type 0
  keeps q = MayGo own is_private s q → ⊥

  -- those of the block before `at` that may not go are reached
  pub record IsKeeping (r t : Reached) (at : Option (Ptr OperationKind)) : Type 0 where
    pub passed : List IRNode
    pub back : List IRNode
    pub cut : children s (BasicBlock b) ≡ passed ++ back
    pub here : option_map Operation at ≡ head back
    pub grown : IsGrown (λ q. Has passed (Operation q) × keeps q) r t
    pub tells : (q : Ptr OperationKind) → Has passed (Operation q) → Tells (MayGo own is_private s q)

module _ {K A T : Type 0} {own : K → Bool} {is_private : OpView K A → Bool} {s : ContextView K A T}
    {b : Ptr BasicBlockKind} where
  pub keeping-start : {r : Reached} {at : Option (Ptr OperationKind)} →
      option_map Operation at ≡ head (children s (BasicBlock b)) → IsKeeping own is_private s b r r at
  keeping-start {r} {at} first = record {
    passed = [];
    back = children s (BasicBlock b);
    cut = refl;
    here = first;
    grown = grown-none r r refl (λ q h. h.0);
    tells = λ q h. absurd h;
  }

  module _ {r t : Reached} {at : Option (Ptr OperationKind)} (h : IsKeeping own is_private s b r t at) where
    pub keeping-end : at ≡ None → IsGrown (IsKept own is_private s b) r t
    keeping-end none =
        (let all : children s (BasicBlock b) ≡ h.passed =
        h.cut ∙ ap (λ z. h.passed ++ z) (ended h.back (ap (option_map Operation) (sym none) ∙ h.here))
        ∙ append-nil h.passed in
        grown-as r t (λ q k. (subst (λ z. Has z (Operation q)) (sym all) k.0, k.1))
        (λ q k. (subst (λ z. Has z (Operation q)) all k.0, k.1)) h.grown)

    pub keeping-tells : at ≡ None → (q : Ptr OperationKind) → Has (children s (BasicBlock b)) (Operation q) →
        Tells (MayGo own is_private s q)
    keeping-tells none q has =
        h.tells q (subst (λ z. Has z (Operation q))
        (h.cut ∙ ap (λ z. h.passed ++ z) (ended h.back (ap (option_map Operation) (sym none) ∙ h.here))
        ∙ append-nil h.passed) has)

    module _ (op : Ptr OperationKind) (is : at ≡ Some op) where
      pub rest : (ys : List IRNode) × (h.back ≡ Operation op ∷ ys)
      rest = headed h.back op (ap (option_map Operation) (sym is) ∙ h.here)

      pub keeping-cut : children s (BasicBlock b) ≡ h.passed ++ Operation op ∷ rest.0
      keeping-cut = h.cut ∙ ap (λ z. h.passed ++ z) rest.1

      pub keeping-live : IsStanding s → IsLive s (Operation op)
      keeping-live w = w.forest.child_live (BasicBlock b) (Operation op)
          (subst (λ z. Has z (Operation op)) (sym keeping-cut) (Has-mid h.passed rest.0 (Operation op)))

      module _ (w : IsStanding s) (next : Option (Ptr OperationKind))
          (after : option_map Operation next ≡ head rest.0) where
        pub keeping-more : (t' : Reached) → IsGrown (λ q. (q ≡ op) × keeps own is_private s b q) t t' →
            Tells (MayGo own is_private s op) → IsKeeping own is_private s b r t' next
        keeping-more t' k tells = record {
          passed = h.passed ++ Operation op ∷ [];
          back = rest.0;
          cut = keeping-cut ∙ sym (append_assoc h.passed (Operation op ∷ []) rest.0);
          here = after;
          grown = grown-both r t t'
              (λ q k. elim (Has-append_cases h.passed (Operation op ∷ []) (Operation q) k.0) [
                | inl old ↦ inl (old, k.1)
                | inr new ↦ elim new [
                  | inl same ↦ inr (sym (same-op op q same), k.1)
                  | inr none ↦ absurd none
                ]
              ])
              (λ q k. (Has-append_left h.passed (Operation op ∷ []) (Operation q) k.0, k.1))
              (λ q k. (Has-append_right h.passed (Operation op ∷ []) (Operation q) (inl (ap Operation (sym k.0))), k.1))
              h.grown k;
          tells = λ q has. elim (Has-append_cases h.passed (Operation op ∷ []) (Operation q) has) [
            | inl old ↦ h.tells q old
            | inr new ↦ elim new [
              | inl same ↦ subst (λ z. Tells (MayGo own is_private s z)) (same-op op q same) tells
              | inr none ↦ absurd none
            ]
          ];
        }

        pub keeping-falls : left_from (children s (BasicBlock b)) next < left_from (children s (BasicBlock b)) at
        keeping-falls = go next after
          where
            before : left_from (children s (BasicBlock b)) at ≡ suc (length rest.0)
            before =
                ap (left_from (children s (BasicBlock b))) is ∙ ap (λ z. left_from z (Some op)) keeping-cut
                ∙ left-cut h.passed rest.0 op (subst Distinct keeping-cut (w.forest.once (BasicBlock b)))

            go : (o : Option (Ptr OperationKind)) → option_map Operation o ≡ head rest.0
                → left_from (children s (BasicBlock b)) o < left_from (children s (BasicBlock b)) at
            go None e = omega (arith, before)
            go (Some q) e =
                let y = headed rest.0 q e in
                let k = keeping-cut ∙ sym (append_assoc h.passed (Operation op ∷ []) rest.0)
                ∙ ap (λ z. (h.passed ++ Operation op ∷ []) ++ z) y.1 in
                let now =
                ap (λ z. left_from z (Some q)) k
                ∙ left-cut (h.passed ++ Operation op ∷ []) y.0 q (subst Distinct k (w.forest.once (BasicBlock b))) in
                omega (arith, before, now, ap length y.1)
