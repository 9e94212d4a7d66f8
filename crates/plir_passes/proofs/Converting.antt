-- The operations of a block are replaced one after another.
use Rattle.std.proofs.Common.{◌≡◌, ◌≢◌, ◌<◌, suc, arith, Bool, true, false, List, [], ◌∷◌, ◌++◌, length}
use Rattle.std.proofs.Common.{Option, Some, None, Result, Ok, Err, option_map, inl, inr, refl, sym, ap, subst, ◌∙◌}
use Rattle.std.proofs.Common.{append_assoc}
use Rattle.std.proofs.lemmas.Bool.{false_from_ne_true}
use Rattle.plir_data.specs.declared.op_set.OpKind.{OpKind}
use Rattle.plir_store.specs.Members.{Has, Distinct, head}
use Rattle.plir_store.specs.MemberLaws.{Has-append_left, Has-append_right, Has-append_cases, Has-mid, Distinct-cross}
use Rattle.plir_store.specs.MemberLaws.{Distinct-right}
use Rattle.plir_store.specs.FilterLaws.{not-both}
use Rattle.plir_core.specs.declared.ptr.Ptr.{Ptr}
use Rattle.plir_core.specs.declared.ptr.Operation.{Operation as OperationKind}
use Rattle.plir_core.specs.declared.ptr.BasicBlock.{BasicBlock as BasicBlockKind}
use Rattle.plir_core.specs.declared.ptr.IRNode.{IRNode}
use Rattle.plir_core.specs.declared.ptr.IRNode.TheVariants.{Operation, BasicBlock}
use Rattle.plir_core.specs.Forest.{look, IsForest}
use Rattle.plir_core.specs.ContextView.{ContextView, IsLive, is_live, children, parent_of}
use Rattle.plir_walk.specs.Lawful.{Lawful}
use Rattle.plir_walk.specs.NodeLaws.{left_from, left-cut, headed, ended}
use Rattle.plir_passes.specs.Legal.{is_illegal, HasLegalChildren}
use Rattle.plir_passes.specs.Rewritten.{BringsNoIllegal, IsConverted, IsReplaced}
use Rattle.plir_passes.specs.Rewrites.{Rewrites, IsBlockConverted}
use Rattle.plir_passes.specs.Passing.{IsPassed, IsHanded, said}
use Rattle.plir_passes.proofs.Keeping.{converted-none, converted-then}
use Rattle.plir_passes.proofs.Handing.{AreHanded, handed-none, handed-all, handed-more, handed-refused}

module _ {K A T : Type 0} (illegal : OpKind K → Bool) where
  -- one operation of a block is passed: it is legal and stays
  pub passed-legal : (s : ContextView K A T) (b : Ptr BasicBlockKind) (op : Ptr OperationKind)
      (next : Option (Ptr OperationKind))
      → ((xs ys : List IRNode) → children s (BasicBlock b) ≡ xs ++ Operation op ∷ ys
      → option_map Operation next ≡ head ys)
      → is_illegal illegal s (Operation op) ≡ false → IsPassed illegal s s b op next
  passed-legal s b op next behind legal xs ys q = (behind xs ys q, Operation op ∷ [], q, only)
    where
      only : (a : IRNode) → Has (Operation op ∷ []) a → is_illegal illegal s a ≡ false
      only a (inl d) = subst (λ z. is_illegal illegal s z ≡ false) d legal
      only a (inr nay) = absurd nay

  -- or it has been replaced
  module _ (s t : ContextView K A T) (b : Ptr BasicBlockKind) (op : Ptr OperationKind)
      (next : Option (Ptr OperationKind))
      (behind : (xs ys : List IRNode) → children s (BasicBlock b) ≡ xs ++ Operation op ∷ ys
      → option_map Operation next ≡ head ys) where
    pub passed-replaced : IsForest (look s) → IsForest (look t) → IsLive s (BasicBlock b) → BringsNoIllegal illegal s t
        → IsReplaced s t b op → IsPassed illegal s t b op next
    passed-replaced w w' live brings r xs ys q =
        let p = r.place xs ys q in
        (behind xs ys q, p.0, p.1, λ a h. false_from_ne_true (is_illegal illegal t a) (bad p.0 p.1 a h))
      where
        bad : (ks : List IRNode) → children t (BasicBlock b) ≡ xs ++ (ks ++ ys) → (a : IRNode) → Has ks a
            → is_illegal illegal t a ≡ true → ⊥
        bad ks e a h i =
            let here = subst (λ z. Has z a) (sym e) (Has-append_right xs (ks ++ ys) a (Has-append_left ks ys a h)) in
            let once = subst Distinct e (w'.once (BasicBlock b)) in
            let was = brings (BasicBlock b) a (w.live_given (BasicBlock b) live) here i in
            elim (Has-append_cases xs (Operation op ∷ ys) a (subst (λ z. Has z a) q was.0)) [
              | inl x ↦ Distinct-cross xs (ks ++ ys) once a x (Has-append_left ks ys a h)
              | inr (inl o) ↦ not-both (is_live t (Operation op))
                  (subst (IsLive t) (sym o) (w'.child_live (BasicBlock b) a here)) r.gone
              | inr (inr y) ↦ Distinct-cross ks ys (Distinct-right xs (ks ++ ys) once) a h y
            ]

module _ {K A T E : Type 0} (illegal : OpKind K → Bool) (rewrites : Rewrites K A T E) where
  -- From the start of the loop in s to s', the operations of the block b before `at` are legal, and those that were not
  -- were handed to `rewrite`.
  pub record IsConverting (s s' : ContextView K A T) (b : Ptr BasicBlockKind) (at : Option (Ptr OperationKind)) : Type
      0 where
    pub lawful : Lawful (look s) (BasicBlock b) (look s')
    pub converted : IsConverted illegal s s'
    pub forest : IsForest (look s')
    pub live : IsLive s' (BasicBlock b)
    pub front : List IRNode
    pub back : List IRNode
    pub split : children s' (BasicBlock b) ≡ front ++ back
    pub here : option_map Operation at ≡ head back
    pub legal : (a : IRNode) → Has front a → is_illegal illegal s' a ≡ false
    pub handed : AreHanded illegal rewrites s b s' back

module _ {K A T E : Type 0} {illegal : OpKind K → Bool} {rewrites : Rewrites K A T E} where
  pub converting-start : {s : ContextView K A T} {b : Ptr BasicBlockKind} {at : Option (Ptr OperationKind)}
      → Lawful (look s) (BasicBlock b) (look s) → IsForest (look s) → IsLive s (BasicBlock b)
      → option_map Operation at ≡ head (children s (BasicBlock b)) → IsConverting illegal rewrites s s b at
  converting-start {s} {b} {at} l w v e = record {
    lawful = l;
    converted = converted-none illegal s;
    forest = w;
    live = v;
    front = [];
    back = children s (BasicBlock b);
    split = refl;
    here = e;
    legal = λ a h. absurd h;
    handed = handed-none illegal rewrites s b;
  }

  module _ {s s' : ContextView K A T} {b : Ptr BasicBlockKind} {at : Option (Ptr OperationKind)}
      (r : IsConverting illegal rewrites s s' b at) where
    pub converting-end : at ≡ None → HasLegalChildren illegal s' (BasicBlock b)
    converting-end e a h = elim (Has-append_cases r.front r.back a (subst (λ z. Has z a) r.split h)) [
      | inl x ↦ r.legal a x
      | inr y ↦ absurd (subst (λ z. Has z a) (ended r.back (ap (option_map Operation) (sym e) ∙ r.here)) y)
    ]

    pub converting-handed : at ≡ None → IsBlockConverted illegal rewrites s b (Ok tt) s'
    converting-handed e =
        handed-all illegal rewrites s b s' (subst (AreHanded illegal rewrites s b s')
        (ended r.back (ap (option_map Operation) (sym e) ∙ r.here)) r.handed)

    module _ (op : Ptr OperationKind) (is : at ≡ Some op) where
      rest : (ys : List IRNode) × (r.back ≡ Operation op ∷ ys)
      rest = headed r.back op (ap (option_map Operation) (sym is) ∙ r.here)

      cut : children s' (BasicBlock b) ≡ r.front ++ Operation op ∷ rest.0
      cut = r.split ∙ ap (λ z. r.front ++ z) rest.1

      has : Has (children s' (BasicBlock b)) (Operation op)
      has = subst (λ z. Has z (Operation op)) (sym cut) (Has-mid r.front rest.0 (Operation op))

      pub converting-live : IsLive s' (Operation op)
      converting-live = r.forest.child_live (BasicBlock b) (Operation op) has

      pub converting-parent : parent_of s' (Operation op) ≡ Some (BasicBlock b)
      converting-parent = r.forest.child_parent (BasicBlock b) (Operation op) has

      handed-here : AreHanded illegal rewrites s b s' (Operation op ∷ rest.0)
      handed-here = subst (AreHanded illegal rewrites s b s') rest.1 r.handed

      pub converting-refused : {X : Type 0} (t : ContextView K A T) (answer : Result X E) (e : E) → said answer ≡ Err e
          → IsHanded illegal rewrites s' b op answer t → IsBlockConverted illegal rewrites s b (Err e) t
      converting-refused t answer e err h =
          handed-refused illegal rewrites s b s' op rest.0 handed-here t answer h e err

      -- what stands behind the operation is another one
      behind : (a : IRNode) → Has rest.0 a → a ≢ Operation op
      behind a h e =
          (Distinct-right r.front (Operation op ∷ rest.0) (subst Distinct cut (r.forest.once (BasicBlock b)))).0
          (subst (Has rest.0) e h)

      module _ (t : ContextView K A T) (next : Option (Ptr OperationKind)) (w : IsForest (look s))
          (w' : IsForest (look t)) (p : IsPassed illegal s' t b op next) where
        abbrev passed : (option_map Operation next ≡ head rest.0) × (ks : List IRNode) ×
            (children t (BasicBlock b) ≡ r.front ++ (ks ++ rest.0)) ×
            ((a : IRNode) → Has ks a → is_illegal illegal t a ≡ false)
        passed = p r.front rest.0 cut

        recut : children t (BasicBlock b) ≡ (r.front ++ passed.1) ++ rest.0
        recut = passed.2 ∙ sym (append_assoc r.front passed.1 rest.0)

        pub converting-more : {X : Type 0} (answer : Result X E) → said answer ≡ Ok tt
            → IsHanded illegal rewrites s' b op answer t
            → ((a : IRNode) → Has (children s' (BasicBlock b)) a → a ≢ Operation op
            → is_illegal illegal t a ≡ is_illegal illegal s' a)
            → Lawful (look s) (BasicBlock b) (look t) → IsConverted illegal s' t
            → IsLive t (BasicBlock b) → IsConverting illegal rewrites s t b next
        converting-more answer ok h beside l c v = record {
          lawful = l;
          converted = converted-then illegal s s' t w r.converted c;
          forest = w';
          live = v;
          front = r.front ++ passed.1;
          back = rest.0;
          split = recut;
          here = passed.0;
          legal = λ a h. elim (Has-append_cases r.front passed.1 a h) [
            | inl x ↦ false_from_ne_true (is_illegal illegal t a) (λ i.
                not-both (is_illegal illegal s' a) (c.legal (BasicBlock b) a (r.forest.live_given (BasicBlock b) r.live)
                (subst (λ z. Has z a) (sym recut) (Has-append_left (r.front ++ passed.1) rest.0 a h)) i).1
                (r.legal a x))
            | inr y ↦ passed.3 a y
          ];
          handed = handed-more illegal rewrites s b s' op rest.0 handed-here t answer h ok (λ a k. beside a
              (subst (λ z. Has z a) (sym cut) (Has-append_right r.front (Operation op ∷ rest.0) a (inr k)))
              (behind a k));
        }

        pub converting-falls : left_from (children t (BasicBlock b)) next < left_from (children s' (BasicBlock b)) at
        converting-falls = go next passed.0
          where
            before : left_from (children s' (BasicBlock b)) at ≡ suc (length rest.0)
            before =
                ap (left_from (children s' (BasicBlock b))) is ∙ ap (λ z. left_from z (Some op)) cut
                ∙ left-cut r.front rest.0 op (subst Distinct cut (r.forest.once (BasicBlock b)))

            go : (o : Option (Ptr OperationKind)) → option_map Operation o ≡ head rest.0
                → left_from (children t (BasicBlock b)) o < left_from (children s' (BasicBlock b)) at
            go None e = omega (arith, before)
            go (Some q) e =
                let y = headed rest.0 q e in
                let c = recut ∙ ap (λ z. (r.front ++ passed.1) ++ z) y.1 in
                let after =
                ap (λ z. left_from z (Some q)) c
                ∙ left-cut (r.front ++ passed.1) y.0 q (subst Distinct c (w'.once (BasicBlock b))) in
                omega (arith, before, after, ap length y.1)
