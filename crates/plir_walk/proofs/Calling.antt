use Rattle.std.proofs.Common.{◌≡◌, zero, true, List, [], ◌∷◌, ◌++◌, ◌⊎◌, inl, inr, refl, sym, ap, subst, ◌∙◌}
use Rattle.std.proofs.Common.{append_assoc}
use Rattle.std.proofs.lemmas.List.{append-nil}
use Rattle.std.specs.declared.ops.ControlFlow.{ControlFlow}
use Rattle.std.specs.declared.ops.ControlFlow.TheVariants.{Continue}
use Rattle.plir_walk.specs.AsRead.{children_by, tree_read, unless_skip}
use Rattle.plir_walk.specs.Calls.{Call, nodes_of}
use Rattle.plir_walk.specs.Config.{direction_of, order_of}
use Rattle.plir_store.specs.Members.{Distinct, Has}
use Rattle.plir_walk.specs.Tree.{Tree}
use Rattle.plir_walk.specs.declared.config.Direction.{Direction}
use Rattle.plir_walk.specs.declared.config.Direction.TheVariants.{Forward, Reverse}
use Rattle.plir_walk.specs.declared.config.Order.{Order}
use Rattle.plir_walk.specs.declared.config.Order.TheVariants.{PostOrder, PreOrder}
use Rattle.plir_walk.specs.declared.config.WalkConfig.{WalkConfig}
use Rattle.plir_walk.specs.declared.interruptible.WalkContinue.{WalkContinue}
use Rattle.plir_walk.specs.declared.interruptible.WalkContinue.TheVariants.{Skip}
use Rattle.plir_core.specs.declared.ptr.IRNode.{IRNode}
use Rattle.plir_core.specs.Forest.{IsBelow, IsForest, Shape}
use Rattle.plir_store.specs.MemberLaws.{Distinct-append, Distinct-one, Has-append_cases, Has-append_left}
use Rattle.plir_store.specs.MemberLaws.{Has-append_right}
use Rattle.plir_walk.specs.Step.{taken}
use Rattle.plir_walk.specs.Lawful.{Lawful}
use Rattle.plir_walk.proofs.Climbs.{IsBelow-Reaches, not-below-itself}
use Rattle.plir_walk.proofs.Groves.{Reads-same, first, flat, last, leaf, no-both}
use Rattle.plir_walk.proofs.Nodes.{post-at}
use Rattle.plir_walk.proofs.Stages.{Closing, Entering, Leaving, Opening, nodes-append, read-called, read-fresh}
use Rattle.plir_walk.proofs.Stages.{read-new}
use Rattle.plir_walk.proofs.Steps.{Fits, Path, path-keep, so_far}

abbrev pub call_of : {C S B : Type 0} → C → S → IRNode → ControlFlow B WalkContinue → C → S → Call C S B
call_of e st c a e' st' = record { before = e; state = st; node = c; answer = a; after = e'; left = st' }

pub Has-more : {C S B : Type 0} (xs : List (Call C S B)) (x : Call C S B) (n : IRNode) → Has (nodes_of (xs ++ x ∷ [])) n
    → Has (nodes_of xs) n ⊎ (x.node ≡ n)
Has-more xs x n h = elim (Has-append_cases (nodes_of xs) (x.node ∷ []) n
    (subst (λ (v : List IRNode). Has v n) (nodes-append xs (x ∷ [])) h)) [
      | inl a ↦ inl a
      | inr a ↦ elim a [ inl b ↦ inr b | inr b ↦ absurd b ]
    ]

pub taken-nil : (d : Direction) → [] ≡ taken d []
taken-nil Forward = refl
taken-nil Reverse = refl

module _ {C S B : Type 0} (look : C → Shape) (w : WalkConfig) (base : Tree)
    (xs : List (Call C S B)) (e e' : C) (st st' : S) (r c : IRNode) (a : ControlFlow B WalkContinue)
    (f : IsForest (look e)) (f' : IsForest (look e')) (l : Lawful (look e) c (look e')) where
  pub called-fits : (path : Path) → so_far path ++ [] ≡ so_far path → ((m : IRNode) → Has (so_far path) m → Has
      (nodes_of xs) m) → Fits w (look e) base (tree_read look w xs e) r (nodes_of xs) path c
      → Fits w (look e') base (tree_read look w (xs ++ call_of e st c a e' st' ∷ []) e') r
      (nodes_of (xs ++ call_of e st c a e' st' ∷ [])) path c
  called-fits path z called h =
      let x : Call C S B = call_of e st c a e' st' in
      let t' : Tree = tree_read look w (xs ++ x ∷ []) e' in
      let k = path-keep w (look e) (look e') f f' c l base (tree_read look w xs e) t' r (nodes_of xs)
      (λ m b. read-called look w xs (x ∷ []) e e' m b)
      (λ m b ne. read-fresh look w (xs ++ x ∷ []) e' m (λ g. elim (Has-more xs x m g)
      [ inl i ↦ b i | inr i ↦ ne (sym i) ]))
      path c called (zero, refl) h in
      subst (λ (v : List IRNode). Fits w (look e') base t' r v path c) (sym (nodes-append xs (x ∷ []))) k

  pub called-given : (look e).live c ≡ true → ((x : IRNode) → Has (nodes_of xs) x → (look e).given x ≡ true) →
      (x : IRNode) → Has (nodes_of (xs ++ call_of e st c a e' st' ∷ [])) x → (look e').given x ≡ true
  called-given v g x h = elim (Has-more xs (call_of e st c a e' st') x h) [
    | inl k ↦ l.given x (g x k)
    | inr k ↦ subst (λ (z : IRNode). (look e').given z ≡ true) k (l.given c (f.live_given c v))
  ]

  pub called-distinct : (Has (nodes_of xs) c → ⊥) → Distinct (nodes_of xs) → Distinct
      (nodes_of (xs ++ call_of e st c a e' st' ∷ []))
  called-distinct n d =
      subst (λ (v : List IRNode). Distinct v) (sym (nodes-append xs (call_of e st c a e' st' ∷ [])))
      (Distinct-append (nodes_of xs) (c ∷ []) d (Distinct-one c)
      (λ m h k. elim k [ inl g ↦ n (subst (λ (v : IRNode). Has (nodes_of xs) v) (sym g) h) | inr g ↦ g ]))

  -- what a call leaves of the cursor itself
  pub called-kept : (look e).live c ≡ true → ((look e').live c ≡ true) × ((look e').parent c ≡ (look e).parent c)
  called-kept v = let k = l.kept c v (not-below-itself (look e) f c) in (k.0, k.1)

  -- the cursor after a call in PreOrder
  pub called-spot : order_of w c ≡ PreOrder → (Has (nodes_of xs) c → ⊥) → tree_read look w
      (xs ++ call_of e st c a e' st' ∷ []) e' c ≡ unless_skip a ((look e').children c)
  called-spot o n =
      read-new look w xs (call_of e st c a e' st') e' n ∙ ap
      (λ (v : Order). children_by v a ((look e).children c) ((look e').children c)) o

  -- the cursor after a call in PostOrder
  pub called-spot_after : order_of w c ≡ PostOrder → (Has (nodes_of xs) c → ⊥) → tree_read look w
      (xs ++ call_of e st c a e' st' ∷ []) e' c ≡ (look e).children c
  called-spot_after o n =
      read-new look w xs (call_of e st c a e' st') e' n ∙ ap
      (λ (v : Order). children_by v a ((look e).children c) ((look e').children c)) o

  pub call-open : Entering look w base xs e r c → order_of w c ≡ PreOrder → ((ks : List IRNode) → unless_skip a ks ≡ ks)
      → Opening look w base (xs ++ call_of e st c a e' st' ∷ []) e' r c
  call-open h o na =
      let x : Call C S B = call_of e st c a e' st' in
      let un : Has (nodes_of xs) c → ⊥ = h.fresh c (zero, refl) in
      let sp : tree_read look w (xs ++ x ∷ []) e' c ≡ (look e').children c = called-spot o un ∙ na
      ((look e').children c) in
      let kept = called-kept h.live in
      record {
        path = h.path;
        fits = called-fits h.path (append-nil (so_far h.path))
            (λ m k. subst (λ (v : List IRNode). Has v m) h.told k) h.fits;
        o = PreOrder;
        order_is = sym o;
        now = sym sp;
        told = ap (λ v. v ++ c ∷ []) h.told ∙ sym (nodes-append xs (x ∷ []));
        live = kept.0;
        fresh = λ y b k. elim (Has-more xs x y k) [
          | inl g ↦ elim (l.below y b) [
            | inl i ↦ h.fresh y (IsBelow-Reaches (look e) c y i) g
            | inr i ↦ (let p = h.given y g in let z : ⊥ = cc (p, i) in z)
          ]
          | inr g ↦ not-below-itself (look e') f' c (subst (λ (v : IRNode). IsBelow (look e') c v) (sym g) b)
        ];
        post_fresh = λ g. absurd (no-both PreOrder refl g);
        given = called-given h.live h.given;
        distinct = called-distinct un h.distinct;
        base_done = λ all. absurd (no-both (order_of w c) o (post-at w all c));
        base_here = λ all. absurd (no-both (order_of w c) o (post-at w all c));
      }

  pub call-skip : Entering look w base xs e r c → order_of w c ≡ PreOrder → a ≡ Continue Skip → Closing look w base
      (xs ++ call_of e st c a e' st' ∷ []) e' r c
  call-skip h o sk =
      let x : Call C S B = call_of e st c a e' st' in
      let un : Has (nodes_of xs) c → ⊥ = h.fresh c (zero, refl) in
      let p : List IRNode = (look e').children c in
      let sp : tree_read look w (xs ++ x ∷ []) e' c ≡ [] = called-spot o un ∙ ap
      (λ (v : ControlFlow B WalkContinue). unless_skip v p) sk in
      let kept = called-kept h.live in
      record {
        path = h.path;
        fits = called-fits h.path (append-nil (so_far h.path))
            (λ m k. subst (λ (v : List IRNode). Has v m) h.told k) h.fits;
        o = PreOrder;
        b = leaf;
        read = (sym o, rw sp (taken-nil (direction_of w c)), tt, tt);
        told = ap (λ v. v ++ c ∷ []) h.told ∙ sym (nodes-append xs (x ∷ []));
        live = kept.0;
        given = called-given h.live h.given;
        distinct = called-distinct un h.distinct;
        base_done = λ all. absurd (no-both (order_of w c) o (post-at w all c));
      }

  pub call-close : Leaving look w base xs e r c → order_of w c ≡ PostOrder → Closing look w base
      (xs ++ call_of e st c a e' st' ∷ []) e' r c
  call-close h o =
      let x : Call C S B = call_of e st c a e' st' in
      let t : Tree = tree_read look w xs e in
      let t' : Tree = tree_read look w (xs ++ x ∷ []) e' in
      let ho : h.o ≡ PostOrder = h.order_is ∙ o in
      let un : Has (nodes_of xs) c → ⊥ = h.post_fresh ho in
      let sp : t' c ≡ t c = called-spot_after o un ∙ h.now in
      let kept = called-kept h.live in
      let was = λ (m : IRNode) (k : Has (so_far h.path ++ (first h.o c ++ flat h.b)) m). subst
      (λ (v : List IRNode). Has v m) h.told k in
      record {
        path = h.path;
        fits = called-fits h.path (append-nil (so_far h.path))
            (λ m k. was m (Has-append_left (so_far h.path) (first h.o c ++ flat h.b) m k)) h.fits;
        o = h.o;
        b = h.b;
        read = (
          h.order_is,
          rw sp h.children_are,
          Reads-same w t t' h.b (λ m k. read-called look w xs (x ∷ []) e e' m (was m
              (Has-append_right (so_far h.path) (first h.o c ++ flat h.b) m (Has-append_right (first h.o c) (flat h.b) m
              k)))) h.read,
          tt,
        );
        told = post-told (so_far h.path) (first h.o c) (flat h.b) (last h.o c) c (nodes_of xs) h.told
            (ap (λ (v : Order). last v c) ho) ∙ sym (nodes-append xs (x ∷ []));
        live = kept.0;
        given = called-given h.live h.given;
        distinct = called-distinct un h.distinct;
        base_done = λ all m k. elim (Has-more xs x m k) [
          | inl i ↦ read-called look w xs (x ∷ []) e e' m i ∙ h.base_done all m i
          | inr i ↦ subst (λ (v : IRNode). t' v ≡ base v) i (called-spot_after o un ∙ h.base_here all)
        ];
      }
    where
      post-told : (s f b l : List IRNode) (c : IRNode) (ns : List IRNode) → s ++ (f ++ b) ≡ ns → l ≡ c ∷ [] → s ++
          (f ++ (b ++ (l ++ []))) ≡ ns ++ c ∷ []
      post-told s f b l c ns h e = rw (e, ← h) (simp append_assoc)
