use Rattle.std.proofs.Common.{◌≡◌, ◌≢◌, ℕ, zero, ◌+◌, ◌-◌, ◌<◌, Bool, true, false, List, [], ◌∷◌, ◌++◌, Some, None, ◌⊎◌}
use Rattle.std.proofs.Common.{inl, inr, length, refl, sym, ap, subst, arith, ◌∙◌, length-append, Ok, Err}
use Rattle.std.specs.declared.ops.ControlFlow.{ControlFlow}
use Rattle.std.specs.declared.ops.ControlFlow.TheVariants.{Break, Continue}
use Rattle.plir_walk.specs.AsRead.{children_by, tree_read}
use Rattle.plir_walk.specs.Calls.{Call, Chain, NoBreak, Relation, nodes_of}
use Rattle.plir_walk.specs.Config.{AllPost, AllPre, direction_of, order_of}
use Rattle.plir_store.specs.Members.{Distinct, Has, head}
use Rattle.plir_walk.specs.Step.{due_at, enter_or_leave, goes_on, step_of, taken}
use Rattle.plir_walk.specs.Tree.{Tree}
use Rattle.plir_walk.specs.Walked.{IsCallUnder, IsLawful, Walked}
use Rattle.plir_walk.specs.declared.config.Order.{Order}
use Rattle.plir_walk.specs.declared.config.Order.TheVariants.{PostOrder, PreOrder}
use Rattle.plir_walk.specs.declared.config.WalkConfig.{WalkConfig}
use Rattle.plir_walk.specs.declared.interruptible.WalkContinue.{WalkContinue}
use Rattle.plir_walk.specs.declared.interruptible.WalkContinue.TheVariants.{Advance, Skip}
use Rattle.plir_walk.specs.declared.limit.CallLimit.{CallLimit}
use Rattle.plir_core.specs.Above.{Reaches}
use Rattle.plir_core.specs.declared.ptr.IRNode.{IRNode}
use Rattle.plir_core.specs.Forest.{IsForest, Shape}
use Rattle.plir_walk.specs.Lawful.{Lawful, StandsUnder}
use Rattle.plir_walk.proofs.Calling.{Has-more, call-close, call-open, call-skip, call_of, called-spot}
use Rattle.plir_walk.proofs.Climbs.{IsBelow-Reaches, not-below-itself}
use Rattle.plir_walk.proofs.Conclusions.{walked-of}
use Rattle.plir_walk.proofs.Endings.{Told, closing-told, entering-told, finished-told, leaving-told, opening-told}
use Rattle.plir_walk.proofs.Nodes.{Has-or-not, pre-at, same_tells}
use Rattle.plir_walk.proofs.Results.{all-called, due-under, under-base, walk-told}
use Rattle.plir_walk.proofs.Steps.{path-under}
use Rattle.plir_walk.proofs.Stages.{Closing, Entering, Leaving, Opening, bottom, cut, cut-called, cut-fresh, cut-new}
use Rattle.plir_walk.proofs.Stages.{cut-same, down, not-root, pass-enter, pass-leave, read-called, read-fresh, start}

-- one more call
pub Chain-more : {C S B : Type 0} (post : Relation C S B) (c : C) (s : S) (xs : List (Call C S B)) (c' : C) (s' : S)
    (n : IRNode) (r : ControlFlow B WalkContinue) (c'' : C) (s'' : S)
    → Chain post c s xs c' s' → post c' s' n r c'' s''
    → Chain post c s (xs ++ call_of c' s' n r c'' s'' ∷ []) c'' s''
Chain-more post c s [] c' s' n r c'' s'' h p = (h.0, h.1, p, (refl, refl))
Chain-more post c s (x ∷ xs) c' s' n r c'' s'' h p = (
  h.0,
  h.1,
  h.2,
  Chain-more post x.after x.left xs c' s' n r c'' s''
      h.3 p,
)

pub NoBreak-more : {C S B : Type 0} (xs : List (Call C S B)) (x : Call C S B) (k : WalkContinue) → NoBreak xs → x.answer
    ≡ Continue k → NoBreak (xs ++ x ∷ [])
NoBreak-more [] x k h e = (λ b g. (let z = sym e ∙ g in cc z), tt)
NoBreak-more (y ∷ xs) x k h e = (h.0, NoBreak-more xs x k h.1 e)

module _ {C S B : Type 0} (look : C → Shape) (w : WalkConfig)
    (post : Relation C S B) (c0 : C) (s0 : S) (r : IRNode) (limit : ℕ) where
  -- the cursor stands at a node that is entered, or left
  abbrev pub Stage : List (Call C S B) → C → IRNode → Bool → Type 0
  Stage xs e c true = Entering look w (look c0).children xs e r c
  Stage xs e c false = Leaving look w (look c0).children xs e r c

  -- the cursor's node was called if it was due, and what is below it comes next, or what is after it
  abbrev pub Half : List (Call C S B) → C → IRNode → Bool → Type 0
  Half xs e c true = Opening look w (look c0).children xs e r c
  Half xs e c false = Closing look w (look c0).children xs e r c

  -- in PreOrder, a called node stays as it was left
  abbrev pub KeptPre : List (Call C S B) → C → Type 0
  KeptPre xs e = AllPre w → (m : IRNode) → Has (nodes_of xs) m → ((look e).live m ≡ true) ×
      (tree_read look w xs e m ≡ cut w xs (look e).children m)

  pub record Walking (e : C) (st : S) (c : IRNode) (en : Bool) (left : ℕ) : Type 0 where
    pub begun : IsForest (look c0)
    pub calls : List (Call C S B)
    pub chain : Chain (IsCallUnder look r post) c0 s0 calls e st
    pub count : length calls + left ≡ limit
    pub unbroken : NoBreak calls
    pub forest : IsForest (look e)
    pub stage : Stage calls e c en
    pub kept : KeptPre calls e

  pub record Halfway (e : C) (st : S) (c : IRNode) (below : Bool) (left : ℕ) : Type 0 where
    pub begun : IsForest (look c0)
    pub calls : List (Call C S B)
    pub chain : Chain (IsCallUnder look r post) c0 s0 calls e st
    pub count : length calls + left ≡ limit
    pub unbroken : NoBreak calls
    pub forest : IsForest (look e)
    pub half : Half calls e c below
    pub kept : KeptPre calls e

  pub begin : IsForest (look c0) → (look c0).live r ≡ true → Walking c0 s0 r true limit
  begin f v = record {
    calls = [];
    begun = f;
    forest = f;
    chain = (refl, refl);
    count = omega arith;
    unbroken = tt;
    stage = start look w (look c0).children c0 r v (λ x. refl);
    kept = λ all m h. absurd h;
  }

  pub stage-live : (xs : List (Call C S B)) (e : C) (c : IRNode) (en : Bool) → Stage xs e c en → (look e).live c ≡ true
  stage-live xs e c true h = h.live
  stage-live xs e c false h = h.live

  pub half-live : (xs : List (Call C S B)) (e : C) (c : IRNode) (en : Bool) → Half xs e c en → (look e).live c ≡ true
  half-live xs e c true h = h.live
  half-live xs e c false h = h.live

  pub half-distinct : (xs : List (Call C S B)) (e : C) (c : IRNode) (en : Bool) → Half xs e c en → Distinct
      (nodes_of xs)
  half-distinct xs e c true h = h.distinct
  half-distinct xs e c false h = h.distinct

  pub stage-distinct : (xs : List (Call C S B)) (e : C) (c : IRNode) (en : Bool) → Stage xs e c en → Distinct
      (nodes_of xs)
  stage-distinct xs e c true h = h.distinct
  stage-distinct xs e c false h = h.distinct

  pub walking-live : (e : C) (st : S) (c : IRNode) (en : Bool) (left : ℕ) → Walking e st c en left → (look e).live c ≡
      true
  walking-live e st c en left h = stage-live h.calls e c en h.stage

  -- and it stands under the root
  stage-under : (xs : List (Call C S B)) (e : C) (f : IsForest (look e)) (c : IRNode) (en : Bool) → Stage xs e c en →
      Reaches (look e).parent c r
  stage-under xs e f c true h = path-under w (look e) f (look c0).children (tree_read look w xs e) r (nodes_of xs)
      h.path c h.fits
  stage-under xs e f c false h = path-under w (look e) f (look c0).children (tree_read look w xs e) r (nodes_of xs)
      h.path c h.fits

  pub walking-under : (e : C) (st : S) (c : IRNode) (en : Bool) (left : ℕ) → Walking e st c en left → StandsUnder
      (look e) r c
  walking-under e st c en left h = record {
    forest = h.forest;
    live = walking-live e st c en left h;
    under_root =
        stage-under h.calls e h.forest c en h.stage;
  }

  pub halfway-live : (e : C) (st : S) (c : IRNode) (en : Bool) (left : ℕ) → Halfway e st c en left → (look e).live c ≡
      true
  halfway-live e st c en left h = half-live h.calls e c en h.half

  pub order-tells : (o : Order) (en : Bool) → due_at o en ≡ true → ((en ≡ true) × (o ≡ PreOrder)) ⊎
      ((en ≡ false) × (o ≡ PostOrder))
  order-tells PreOrder true h = inl (refl, refl)
  order-tells PreOrder false h = cc
  order-tells PostOrder true h = cc
  order-tells PostOrder false h = inr (refl, refl)

  pub stage-passed : (xs : List (Call C S B)) (e : C) (c : IRNode) (en : Bool) (o : Order) → order_of w c ≡ o → due_at o
      en ≡ false → Stage xs e c en → Half xs e c en
  stage-passed xs e c true PreOrder k h s = cc
  stage-passed xs e c true PostOrder k h s = pass-enter look w (look c0).children xs e r c s k
  stage-passed xs e c false PreOrder k h s = pass-leave look w (look c0).children xs e r c s k
  stage-passed xs e c false PostOrder k h s = cc

  -- the cursor's node isn't due
  pub passed : (e : C) (st : S) (c : IRNode) (en : Bool) (left : ℕ) → Walking e st c en left → due_at (order_of w c) en
      ≡ false → Halfway e st c en left
  passed e st c en left h d = record {
    begun = h.begun;
    calls = h.calls;
    chain = h.chain;
    count = h.count;
    unbroken = h.unbroken;
    forest = h.forest;
    half = stage-passed h.calls e c en (order_of w c) refl d h.stage;
    kept = h.kept;
  }

  pub stage-called : (xs : List (Call C S B)) (e e' : C) (f : IsForest (look e)) (f' : IsForest (look e')) (st st' : S)
      (c : IRNode) (en : Bool) (o : Order) (k : WalkContinue) → order_of w c ≡ o → due_at o en ≡ true
      → Lawful (look e) c (look e') → Stage xs e c en → Half (xs ++ call_of e st c (Continue k) e' st' ∷ []) e' c
      (goes_on en k)
  stage-called xs e e' f f' st st' c true PreOrder Advance d h l s = call-open look w (look c0).children xs e e' st st'
      r c (Continue Advance) f f' l s d (λ p. refl)
  stage-called xs e e' f f' st st' c true PreOrder Skip d h l s = call-skip look w (look c0).children xs e e' st st' r c
      (Continue Skip) f f' l s d refl
  stage-called xs e e' f f' st st' c false PreOrder k d h l s = cc
  stage-called xs e e' f f' st st' c true PostOrder k d h l s = cc
  stage-called xs e e' f f' st st' c false PostOrder Advance d h l s = call-close look w (look c0).children xs e e' st
      st' r c (Continue Advance) f f' l s d
  stage-called xs e e' f f' st st' c false PostOrder Skip d h l s = call-close look w (look c0).children xs e e' st st'
      r c (Continue Skip) f f' l s d

  pub kept-called : (xs : List (Call C S B)) (e e' : C) (f : IsForest (look e)) (f' : IsForest (look e')) (st st' : S)
      (c : IRNode) (en : Bool) (a : ControlFlow B WalkContinue) → due_at (order_of w c) en ≡ true
      → Lawful (look e) c (look e') → Stage xs e c en → KeptPre xs e → KeptPre (xs ++ call_of e st c a e' st' ∷ []) e'
  kept-called xs e e' f f' st st' c false a d l s kept all m h = absurd (not-due (order_of w c) (pre-at w all c) d)
    where
      not-due : (o : Order) → o ≡ PreOrder → due_at o false ≡ true → ⊥
      not-due PreOrder h k = cc
      not-due PostOrder h k = cc
  kept-called xs e e' f f' st st' c true a d l s kept all m h =
      let x : Call C S B = call_of e st c a e' st' in
      let un : Has (nodes_of xs) c → ⊥ = s.fresh c (zero, refl) in
      let u : Tree = (look e).children in
      let u' : Tree = (look e').children in
      elim (Has-more xs x m h) [
        | inl i ↦ (let k = kept all m i in
            let kp = l.kept m k.0 (λ b. s.fresh m (IsBelow-Reaches (look e) c m b) i) in
            let ne : m ≢ c = λ (q : m ≡ c). un (subst (λ (v : IRNode). Has (nodes_of xs) v) q i) in
            let stays : u m ≡ u' m = sym (kp.2 ne) in (
              kp.0,
              read-called look w xs (x ∷ []) e e' m i ∙ (k.1 ∙ (cut-same w xs u u' m stays ∙ sym
                  (cut-called w xs (x ∷ []) u' m i))),
            ))
        | inr i ↦ (let kp = l.kept c s.live (not-below-itself (look e) f c) in
            let o : order_of w c ≡ PreOrder = pre-at w all c in
            let p : tree_read look w (xs ++ x ∷ []) e' c ≡ cut w (xs ++ x ∷ []) u' c =
            called-spot look w (look c0).children xs e e' st st' r c a f f' l o un ∙
            (sym (ap (λ (v : Order). children_by v a (u' c) (u' c)) o) ∙ sym (cut-new w xs x u' un)) in (
              subst (λ (v : IRNode). (look e').live v ≡ true) i kp.0,
              subst (λ (v : IRNode). tree_read look w
                  (xs ++ x ∷ []) e' v ≡ cut w (xs ++ x ∷ []) u' v) i p,
            ))
      ]

  -- so in PreOrder alone the calls read the tree that is there at the exit
  pub pre-read : (xs : List (Call C S B)) (e : C) → KeptPre xs e → AllPre w → (n : IRNode) → tree_read look w xs e n ≡
      cut w xs (look e).children n
  pre-read xs e kept all n = elim (Has-or-not (nodes_of xs) n) [
    | inl h ↦ (kept all n h).1
    | inr un ↦ read-fresh look w xs e n un ∙ sym (cut-fresh w xs (look e).children n un)
  ]

  pub count-more : (xs : List (Call C S B)) (x : Call C S B) (left left' : ℕ) → length xs + left ≡ limit → left ≡ left'
      + 1 → length (xs ++ x ∷ []) + left' ≡ limit
  count-more xs x left left' h e = (let p : length (xs ++ x ∷ []) ≡ length xs + length (x ∷ []) = length-append xs
      (x ∷ []) in let q : length (x ∷ []) ≡ 1 = refl in omega (arith, p, q))

  -- the cursor's node was called
  pub called : (e e' : C) (f' : IsForest (look e')) (st st' : S) (c : IRNode) (en : Bool) (left left' : ℕ)
      (k : WalkContinue) → Walking e st c en left → due_at (order_of w c) en ≡ true
      → post e st c (Continue k) e' st' → Lawful (look e) c (look e') → left ≡ left' + 1 → Halfway e' st' c
      (goes_on en k) left'
  called e e' f' st st' c en left left' k h d p l u = record {
    begun = h.begun;
    calls = h.calls ++ call_of e st c (Continue k) e' st' ∷ [];
    chain = Chain-more (IsCallUnder look r post) c0 s0 h.calls e st c (Continue k) e' st' h.chain
        (record { stands = walking-under e st c en left h; leaves = f'; made = p });
    count = count-more h.calls (call_of e st c (Continue k) e' st') left left' h.count u;
    unbroken = NoBreak-more h.calls (call_of e st c (Continue k) e' st') k h.unbroken refl;
    forest = f';
    half = stage-called h.calls e e' h.forest f' st st' c en (order_of w c) k refl d l h.stage;
    kept = kept-called h.calls e e' h.forest f' st st' c en (Continue k) d l h.stage h.kept;
  }

  pub stage-broken : (xs : List (Call C S B)) (e e' : C) (f : IsForest (look e)) (f' : IsForest (look e')) (st st' : S)
      (c : IRNode) (en : Bool) (o : Order) (b : B) → order_of w c ≡ o → due_at o en ≡ true
      → Lawful (look e) c (look e') → Stage xs e c en → Half (xs ++ call_of e st c (Break b) e' st' ∷ []) e' c en
  stage-broken xs e e' f f' st st' c true PreOrder b d h l s = call-open look w (look c0).children xs e e' st st' r c
      (Break b) f f' l s d (λ p. refl)
  stage-broken xs e e' f f' st st' c false PreOrder b d h l s = cc
  stage-broken xs e e' f f' st st' c true PostOrder b d h l s = cc
  stage-broken xs e e' f f' st st' c false PostOrder b d h l s = call-close look w (look c0).children xs e e' st st' r c
      (Break b) f f' l s d

  pub half-told : (xs : List (Call C S B)) (e : C) (f : IsForest (look e)) (c : IRNode) (en : Bool) → Half xs e c en →
      Told w (tree_read look w xs e) r (nodes_of xs) (AllPost w) (look c0).children
  half-told xs e f c true h = opening-told look w (look c0).children xs e f r c h
  half-told xs e f c false h = closing-told look w (look c0).children xs e f r c h

  -- the cursor's node was called, and broke the walk off
  pub broken : (e e' : C) (f' : IsForest (look e')) (st st' : S) (c : IRNode) (en : Bool) (left : ℕ) (b : B) → Walking e
      st c en left → due_at (order_of w c) en ≡ true
      → post e st c (Break b) e' st' → Lawful (look e) c (look e') → 0 < left → Walked look w post c0 s0 r limit
      (Ok (Break b)) e' st'
  broken e e' f' st st' c en left b h d p l u =
      let x : Call C S B = call_of e st c (Break b) e' st' in
      let xs : List (Call C S B) = h.calls ++ x ∷ [] in
      let half : Half xs e' c en = stage-broken h.calls e e' h.forest f' st st' c en (order_of w c) b refl d l h.stage
      in
      let n : length xs + (left - 1) ≡ limit = count-more h.calls x left (left - 1) h.count (omega arith) in
      walked-of look w post c0 s0 r limit (Ok (Break b)) e' st'
      xs
      h.begun f' (Chain-more (IsCallUnder look r post) c0 s0 h.calls e st c (Break b) e' st' h.chain
      (record { stands = walking-under e st c en left h; leaves = f'; made = p }))
      (omega (arith, n))
      (walk-told w (tree_read look w xs e') r (nodes_of xs) (AllPost w) (look c0).children
      (half-distinct xs e' c en half) (half-told xs e' f' c en half))
      (h.calls, x, refl, refl, h.unbroken)
      (pre-read xs e' (kept-called h.calls e e' h.forest f' st st' c en (Break b) d l h.stage h.kept))
      (under-base w (tree_read look w xs e') r (nodes_of xs) (AllPost w) (look c0).children
      (half-told xs e' f' c en half))

  pub stage-told : (xs : List (Call C S B)) (e : C) (f : IsForest (look e)) (c : IRNode) (en : Bool) (o : Order) →
      order_of w c ≡ o → due_at o en ≡ true → Stage xs e c en
      → (t : Told w (tree_read look w xs e) r (nodes_of xs) (AllPost w) (look c0).children) × Has t.rest c ×
      (Has (nodes_of xs) c → ⊥)
  stage-told xs e f c true PreOrder d h s = (let z = entering-told look w (look c0).children xs e f r c s in
      (z.0, z.1, s.fresh c (zero, refl)))
  stage-told xs e f c false PreOrder d h s = cc
  stage-told xs e f c true PostOrder d h s = cc
  stage-told xs e f c false PostOrder d h s = leaving-told look w (look c0).children xs e f r c s d

  -- a call is due, and no more may be made
  pub limited : (e : C) (st : S) (c : IRNode) (en : Bool) (left : ℕ) (x : CallLimit) → Walking e st c en left → due_at
      (order_of w c) en ≡ true → left ≡ 0
      → Walked look w post c0 s0 r limit (Err x) e st
  limited e st c en left x h d u =
      let t : Tree = tree_read look w h.calls e in
      let ns : List IRNode = nodes_of h.calls in
      let z = stage-told h.calls e h.forest c en (order_of w c) refl d h.stage in
      walked-of look w post c0 s0 r limit (Err x) e st h.calls h.begun h.forest h.chain
      (let n = h.count in omega (arith, n))
      (walk-told w t r ns (AllPost w) (look c0).children (stage-distinct h.calls e c en h.stage) z.0) (
        (let n = h.count in omega (arith, n)),
        h.unbroken,
        (
          c,
          due-under w t r ns (AllPost w) (look c0).children z.0 c
              z.1,
          z.2,
        ),
      )
      (pre-read h.calls e h.kept)
      (under-base w t r ns (AllPost w) (look c0).children z.0)

  pub half-ended : (xs : List (Call C S B)) (e : C) (f : IsForest (look e)) (c : IRNode) (below : Bool) → Half xs e c
      below → step_of w (look e) r c below ≡ None
      → (t : Told w (tree_read look w xs e) r (nodes_of xs) (AllPost w) (look c0).children) × (t.rest ≡ [])
  half-ended xs e f c true h z = cc
  half-ended xs e f c false h z = elim (same_tells c r) [
    | inl k ↦ finished-told look w (look c0).children xs e f r c h k.1
    | inr k ↦ (let g = not-root look w (look c0).children xs e f r c h k.1 in let y = (rw (k.0, g.1) at z) in absurd
        (some-none y))
  ]
    where
      some-none : {A : Type 0} {x : A} → Some x ≡ None → ⊥
      some-none e = cc

  -- the root was left
  pub ended : (e : C) (st : S) (c : IRNode) (below : Bool) (left : ℕ) → Halfway e st c below left → step_of w (look e) r
      c below ≡ None
      → Walked look w post c0 s0 r limit (Ok (Continue Advance)) e st
  ended e st c below left h z =
      let t : Tree = tree_read look w h.calls e in
      let ns : List IRNode = nodes_of h.calls in
      let g = half-ended h.calls e h.forest c below h.half z in
      walked-of look w post c0 s0 r limit (Ok (Continue Advance)) e st h.calls h.begun h.forest h.chain
      (let n = h.count in omega (arith, n))
      (walk-told w t r ns (AllPost w) (look c0).children (half-distinct h.calls e c below h.half) g.0)
      (refl, h.unbroken, all-called w t r ns (AllPost w) (look c0).children g.0 g.1)
      (pre-read h.calls e h.kept)
      (under-base w t r ns (AllPost w) (look c0).children g.0)

  pub half-moved : (xs : List (Call C S B)) (e : C) (f : IsForest (look e)) (c : IRNode) (below : Bool) (n : IRNode)
      (en : Bool) → Half xs e c below → step_of w (look e) r c below ≡ Some (n, en) → Stage xs e n en
  half-moved xs e f c true n en h z = go (taken (direction_of w c) ((look e).children c)) refl z
    where
      go : (ks : List IRNode) → taken (direction_of w c) ((look e).children c) ≡ ks → Some (enter_or_leave (head ks) c)
          ≡ Some (n, en) → Stage xs e n en
      go [] k z = (let p : (c, false) ≡ (n, en) = cc in subst
          (λ (v : IRNode × Bool). Stage xs e v.0 v.1) p (bottom look w (look c0).children xs e r c h k))
      go (y ∷ ys) k z = (let p : (y, true) ≡ (n, en) = cc in subst
          (λ (v : IRNode × Bool). Stage xs e v.0 v.1) p (down look w (look c0).children xs e f r c h y ys k))
  half-moved xs e f c false n en h z = elim (same_tells c r) [
    | inl k ↦ absurd (none-some (rw k.0 at z))
    | inr k ↦ (let g = not-root look w (look c0).children xs e f r c h k.1 in go g.0 g.2 g.4 (rw (k.0, g.1, g.3) at z))
  ]
    where
      none-some : {A : Type 0} {x : A} → None ≡ Some x → ⊥
      none-some e = cc

      go : (a : IRNode) (td : List IRNode) → (((k : IRNode) (rest : List IRNode) → td ≡ k ∷ rest → Entering look w
          (look c0).children xs e r k) × (td ≡ [] → Leaving look w (look c0).children xs e r a)) → Some
          (enter_or_leave (head td) a) ≡ Some (n, en) → Stage xs e n en
      go a [] f z = (let p : (a, false) ≡ (n, en) = cc in subst
          (λ (v : IRNode × Bool). Stage xs e v.0 v.1) p (f.1 refl))
      go a (y ∷ ys) f z = (let p : (y, true) ≡ (n, en) = cc in subst
          (λ (v : IRNode × Bool). Stage xs e v.0 v.1) p (f.0 y ys refl))

  -- the cursor moves on
  pub moved : (e : C) (st : S) (c : IRNode) (below : Bool) (left : ℕ) (n : IRNode) (en : Bool) → Halfway e st c below
      left → step_of w (look e) r c below ≡ Some (n, en) → Walking e st n en left
  moved e st c below left n en h z = record {
    begun = h.begun;
    calls = h.calls;
    chain = h.chain;
    count = h.count;
    unbroken = h.unbroken;
    forest = h.forest;
    stage = half-moved h.calls e h.forest c below n en h.half z;
    kept = h.kept;
  }

-- The same, over the values that a loop has after its branches.
module _ {C S B : Type 0} (look : C → Shape) (w : WalkConfig)
    (post : Relation C S B) (c0 : C) (s0 : S) (r : IRNode) (limit : ℕ)
    (lawful : IsLawful look r post) where
  pub called-as : (e e' e'' : C) (f' : IsForest (look e')) (st st' st'' : S) (c : IRNode) (en below : Bool)
      (left left' : ℕ) (a : ControlFlow B WalkContinue) (k : WalkContinue)
      → Walking look w post c0 s0 r limit e st c en left → due_at (order_of w c) en ≡ true → post e st c a e' st' → a ≡
      Continue k
      → (left ≡ 0 → ⊥) → e'' ≡ e' → st'' ≡ st' → left' ≡ left - 1 → below ≡ goes_on en k → Halfway look w post c0 s0 r
      limit e'' st'' c below left'
  called-as e e' e'' f' st st' st'' c en below left left' a k h d p q z pe ps pl pb =
      let l : Lawful (look e) c (look e') = lawful e st c a e' st' (record {
        stands = walking-under look w post c0 s0 r
            limit e st c en left h;
        leaves = f';
        made = p;
      }) in
      let p' : post e st c (Continue k) e' st' = subst (λ (v : ControlFlow B WalkContinue). post e st c v e' st') q p in
      let g = called look w post c0 s0 r limit e e' f' st st' c en left left' k h d p' l (omega (arith, z, pl)) in
      let g1 = subst (λ (v : C). Halfway look w post c0 s0 r limit v st' c (goes_on en k) left') (sym pe) g in
      let g2 = subst (λ (v : S). Halfway look w post c0 s0 r limit e'' v c (goes_on en k) left') (sym ps) g1 in
      subst (λ (v : Bool). Halfway look w post c0 s0 r limit e'' st'' c v left') (sym pb) g2

  pub passed-as : (e e'' : C) (st st'' : S) (c : IRNode) (en below : Bool) (left left' : ℕ)
      → Walking look w post c0 s0 r limit e st c en left → due_at (order_of w c) en ≡ false
      → e'' ≡ e → st'' ≡ st → left' ≡ left → below ≡ en → Halfway look w post c0 s0 r limit e'' st'' c below left'
  passed-as e e'' st st'' c en below left left' h d pe ps pl pb =
      let g = passed look w post c0 s0 r limit e st c en left h d in
      let g1 = subst (λ (v : C). Halfway look w post c0 s0 r limit v st c en left) (sym pe) g in
      let g2 = subst (λ (v : S). Halfway look w post c0 s0 r limit e'' v c en left) (sym ps) g1 in
      let g3 = subst (λ (v : ℕ). Halfway look w post c0 s0 r limit e'' st'' c en v) (sym pl) g2 in
      subst (λ (v : Bool). Halfway look w post c0 s0 r limit e'' st'' c v left') (sym pb) g3

  pub broken-as : (e e' : C) (f' : IsForest (look e')) (st st' : S) (c : IRNode) (en : Bool) (left : ℕ)
      (a : ControlFlow B WalkContinue) (b : B)
      → Walking look w post c0 s0 r limit e st c en left → due_at (order_of w c) en ≡ true → post e st c a e' st' → a ≡
      Break b
      → (left ≡ 0 → ⊥) → Walked look w post c0 s0 r limit (Ok (Break b)) e' st'
  broken-as e e' f' st st' c en left a b h d p q z =
      let l : Lawful (look e) c (look e') = lawful e st c a e' st' (record {
        stands = walking-under look w post c0 s0 r
            limit e st c en left h;
        leaves = f';
        made = p;
      }) in
      broken look w post c0 s0 r limit e e' f' st st' c en left b h d
      (subst (λ (v : ControlFlow B WalkContinue). post e st c v e' st') q p) l (omega (arith, z))

  -- one more call may be made
  pub relimit : (left : ℕ) (e : C) (st : S) (c : IRNode) (en : Bool) → Walking look w post c0 s0 r limit e st c en left
      → Walking look w post c0 s0 r (limit + 1) e st c en (left + 1)
  relimit left e st c en h = record {
    begun = h.begun;
    calls = h.calls;
    chain = h.chain;
    count =
        (let n = h.count in omega (arith, n));
    unbroken = h.unbroken;
    forest = h.forest;
    stage = h.stage;
    kept = h.kept;
  }
