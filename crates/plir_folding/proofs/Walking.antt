-- A walk that folds the operands in each block.
use Rattle.std.proofs.Common.{◌≡◌, ◌≢◌, ℕ, Bool, true, false, cond, List, [], ◌∷◌, map, Option, Some, None, Result, Ok}
use Rattle.std.proofs.Common.{refl, sym, ap, subst, ◌∙◌}
use Rattle.std.specs.declared.ops.ControlFlow.{ControlFlow}
use Rattle.std.specs.declared.ops.ControlFlow.TheVariants.{Continue, Break}
use Rattle.plir_store.specs.Members.{Has}
use Rattle.plir_store.specs.MemberLaws.{Has-map}
use Rattle.plir_store.specs.Lists.{children_at}
use Rattle.plir_core.specs.declared.ptr.Ptr.{Ptr}
use Rattle.plir_core.specs.declared.ptr.Operation.{Operation as OperationKind}
use Rattle.plir_core.specs.declared.ptr.Region.{Region as RegionKind}
use Rattle.plir_core.specs.declared.ptr.BasicBlock.{BasicBlock as BasicBlockKind}
use Rattle.plir_core.specs.declared.ptr.IRNode.{IRNode}
use Rattle.plir_core.specs.declared.ptr.IRNode.TheVariants.{Operation, Region, BasicBlock}
use Rattle.plir_core.specs.declared.arena.making.NodeErr.{NodeErr}
use Rattle.plir_core.specs.declared.arena.making.NodeErr.TheVariants.{TooManyNodes}
use Rattle.plir_core.specs.Above.{climb}
use Rattle.plir_core.specs.Forest.{look, IsForest}
use Rattle.plir_core.specs.Nodes.{region_node, block_node}
use Rattle.plir_core.specs.Room.{IsFullForOp}
use Rattle.plir_core.specs.WellFormed.{IsWellFormed}
use Rattle.plir_core.specs.ContextView.{ContextView, IsLive, is_live, children, parent_of}
use Rattle.plir_walk.specs.declared.interruptible.WalkContinue.{WalkContinue}
use Rattle.plir_walk.specs.declared.interruptible.WalkContinue.TheVariants.{Advance, Skip}
use Rattle.plir_walk.specs.declared.limit.CallLimit.{CallLimit}
use Rattle.plir_walk.specs.declared.config.WalkConfig.{WalkConfig}
use Rattle.plir_walk.specs.Config.{AllPre}
use Rattle.plir_walk.specs.Calls.{Call, Relation, Chain, NoBreak}
use Rattle.plir_walk.specs.TreeLaws.{reached-under}
use Rattle.plir_walk.specs.Walked.{Walked, IsCallUnder}
use Rattle.plir_walk.specs.LawfulChanges.{LawfulChanges}
use Rattle.plir_walk.specs.CallLaws.{chain-each, kept_from_entry_to_exit, holds_under_root, left_by_the_break}
use Rattle.plir_walk.specs.NodeLaws.{climb-nothing}
use Rattle.plir_walk.specs.WalkLaws.{walk-lasts}
use Rattle.plir_folding.specs.Worth.{Integer, IsUnfolded, AreSettled}
use Rattle.plir_folding.specs.Folded.{IsFolded, IsFlagged}
use Rattle.plir_folding.specs.Folding.{AreChildrenSettled, IsFoldedBelow, IsToldBy, IsAnswered, IsFoldedAt}
use Rattle.plir_folding.proofs.Folds.{folded-none, folded-then, tells-then, tells-none}
use Rattle.plir_folding.proofs.Below.{below-none}

-- among images that are no operations there is no operation
pub no-op-image : (b : Bool) (is : List ℕ) (f : ℕ → IRNode) → ((i : ℕ) (p : Ptr OperationKind) → f i ≡ Operation p → ⊥)
    → (p : Ptr OperationKind) → Has (cond b (map f is) []) (Operation p) → ⊥
no-op-image true is f each p h = (let r = Has-map f is (Operation p) h in each r.0 p r.1.1)
no-op-image false is f each p h = h

module _ {C S B : Type 0} (post : Relation C S B) where
  -- a call that did not break
  abbrev pub Unbroken : Relation C S B
  Unbroken c s n a c' s' = post c s n a c' s' × ((b : B) → a ≢ Break b)

  pub unbroken-chain : (c : C) (s : S) (calls : List (Call C S B)) (c' : C) (s' : S) → Chain post c s calls c' s'
      → NoBreak calls → Chain Unbroken c s calls c' s'
  unbroken-chain c s [] c' s' h k = h
  unbroken-chain c s (x ∷ xs) c' s' h k = (h.0, h.1, (h.2, k.0), unbroken-chain x.after x.left xs c' s' h.3 k.1)

module _ {K A T : Type 0} (fold : K → Integer → Integer → Option Integer) (own : A → List ℕ) where
  -- regions and blocks are no operations
  pub settled-under-op : (s : ContextView K A T) (p : Ptr OperationKind) → AreChildrenSettled fold s (Operation p)
  settled-under-op s p q h =
      absurd (no-op-image (is_live s (Operation p)) (children_at s.nodes.regions_in_op p.slot) (region_node s.nodes)
      (λ i q e. cc e) q h)

  pub settled-under-region : (s : ContextView K A T) (p : Ptr RegionKind) → AreChildrenSettled fold s (Region p)
  settled-under-region s p q h =
      absurd (no-op-image (is_live s (Region p)) (children_at s.nodes.blocks_in_region p.slot) (block_node s.nodes)
      (λ i q e. cc e) q h)

  -- nothing is done at operations and regions
  pub at-none : (laws : LawfulChanges K A T own) (s : ContextView K A T) (flag : Bool) (n m : IRNode)
      (a : ControlFlow NodeErr WalkContinue) → n ≡ m → a ≡ Continue Advance → IsWellFormed own s
      → AreChildrenSettled fold s m → IsFoldedAt fold own s flag n a s flag
  at-none laws s flag n m a e f w h = record {
    below = below-none fold own laws s n w;
    answered =
        subst (λ z. IsAnswered fold s flag n z s flag) (sym f)
        (record { tells = tells-none fold s flag; settled = λ k. subst (AreChildrenSettled fold s) (sym e) h });
  }

  -- what was done at a block
  pub at-block : (s t : ContextView K A T) (flag flag' : Bool) (n : IRNode) (b : Ptr BasicBlockKind)
      (a : ControlFlow NodeErr WalkContinue) → n ≡ BasicBlock b → IsFoldedBelow fold own s (BasicBlock b) t
      → IsAnswered fold s flag (BasicBlock b) a t flag' → IsFoldedAt fold own s flag n a t flag'
  at-block s t flag flag' n b a e l f = record {
    below = subst (λ z. IsFoldedBelow fold own s z t) (sym e) l;
    answered = subst (λ z. IsAnswered fold s flag z a t flag') (sym e) f;
  }

  -- what is promised of equal values
  pub folded-at : {c d c' d' : ContextView K A T} {s t s' t' : Bool} {n : IRNode}
      {a : ControlFlow NodeErr WalkContinue} → c ≡ d → s ≡ t → c' ≡ d' → s' ≡ t' → IsFoldedAt fold own c s n a c' s'
      → IsFoldedAt fold own d t n a d' t'
  folded-at {c} {d} {c'} {d'} {s} {t} {s'} {t'} {n} {a} e f e' f' h =
      subst (λ z. IsFoldedAt fold own d t n a d' z) f'
      (subst (λ z. IsFoldedAt fold own d t n a z s') e'
      (subst (λ z. IsFoldedAt fold own d z n a c' s') f (subst (λ z. IsFoldedAt fold own z s n a c' s') e h)))

  module _ (post : Relation (ContextView K A T) Bool NodeErr) (r : IRNode) (laws : LawfulChanges K A T own)
      (each : (c : ContextView K A T) (s : Bool) (n : IRNode) (a : ControlFlow NodeErr WalkContinue)
      (c' : ContextView K A T) (s' : Bool) → post c s n a c' s' → IsFoldedAt fold own c s n a c' s') where
    abbrev call : Relation (ContextView K A T) Bool NodeErr
    call = IsCallUnder look r post

    abbrev Steady : ContextView K A T → Bool → ContextView K A T → Bool → Type 0
    Steady c s c' s' = IsWellFormed own c → IsWellFormed own c' × IsFolded fold c c'

    pub walk-folded : (c c' : ContextView K A T) (s s' : Bool) (calls : List (Call (ContextView K A T) Bool NodeErr))
        → IsWellFormed own c → Chain call c s calls c' s' → IsWellFormed own c' × IsFolded fold c c'
    walk-folded c c' s s' calls w h =
        kept_from_entry_to_exit call Steady
        (record {
          itself = λ d t w. (w, folded-none fold d (laws.forest d w));
          on = λ d e f t u v g k w. (let a = g w in let b = k a.0 in (b.0, folded-then fold own d e f w a.0 a.1 b.1));
        })
        (λ d d' t t' n a p w. (let b = (each d t n a d' t' p.made).below in (b.whole, b.folded))) c c' s s' calls h w

    -- what a walk leaves of all below its root
    pub walk-below : (c c' : ContextView K A T) (s s' : Bool) (calls : List (Call (ContextView K A T) Bool NodeErr))
        → IsWellFormed own c → IsLive c r → Chain call c s calls c' s' → IsFoldedBelow fold own c r c'
    walk-below c c' s s' calls w l h =
        let after = walk-folded c c' s s' calls w h in
        let lasts =
        walk-lasts own laws post r (λ d t n a d' t' p. (each d t n a d' t' p).below.lawful) c c' s s' calls
        (laws.forest c w) l h in
        record { folded = after.1; lawful = lasts.2; whole = after.0 }

    told : (c c' : ContextView K A T) (s s' : Bool) (n : IRNode) (a : ControlFlow NodeErr WalkContinue)
        → Unbroken call c s n a c' s' → IsToldBy c s s' c' (λ z. AreChildrenSettled fold z n)
    told c c' s s' n a p = go a (each c s n a c' s' p.0.made).answered p.1
      where
        go : (a : ControlFlow NodeErr WalkContinue) → IsAnswered fold c s n a c' s' → ((b : NodeErr) → a ≢ Break b)
            → IsToldBy c s s' c' (λ z. AreChildrenSettled fold z n)
        go (Continue Advance) f k = f
        go (Continue Skip) f k = absurd f
        go (Break b) f k = absurd (k b refl)

    abbrev Telling : ContextView K A T → Bool → ContextView K A T → Bool → Type 0
    Telling c s c' s' = IsWellFormed own c → IsWellFormed own c' × IsFolded fold c c' × IsFlagged c s s' c'

    pub walk-tells : (c c' : ContextView K A T) (s s' : Bool) (calls : List (Call (ContextView K A T) Bool NodeErr))
        → IsWellFormed own c → Chain (Unbroken call) c s calls c' s' → IsFlagged c s s' c'
    walk-tells c c' s s' calls w h =
        (kept_from_entry_to_exit (Unbroken call) Telling
        (record {
          itself = λ d t w. (w, folded-none fold d (laws.forest d w), tells-none fold d t);
          on =
              λ d e f t u v g k w. (let a = g w in let b = k a.0 in
              (b.0, folded-then fold own d e f w a.0 a.1 b.1, tells-then fold own d e f w a.0 a.1 b.1 t u v a.2 b.2));
        })
        (λ d d' t t' n a p w.
        (let b = (each d t n a d' t' p.0.made).below in (b.whole, b.folded, (told d d' t t' n a p).tells))) c c' s
        s' calls h w).2

    -- a call that folded nothing
    abbrev Idle : Relation (ContextView K A T) Bool NodeErr
    Idle c s n a c' s' = Unbroken call c s n a c' s' × (s' ≡ false)

    abbrev Clear : ContextView K A T → Bool → ContextView K A T → Bool → Type 0
    Clear c s c' s' = s' ≡ false → (s ≡ false) × (c' ≡ c)

    clear-chain : (c c' : ContextView K A T) (s s' : Bool) (calls : List (Call (ContextView K A T) Bool NodeErr))
        → Chain (Unbroken call) c s calls c' s' → Clear c s c' s'
    clear-chain c c' s s' calls h =
        kept_from_entry_to_exit (Unbroken call) Clear
        (record {
          itself = λ d t e. (e, refl);
          on = λ d e f t u v g k i. (let b = k i in let a = g b.0 in (a.0, b.1 ∙ a.1));
        })
        (λ d d' t t' n a p. (told d d' t t' n a p).tells.clear) c c' s s' calls h

    -- where nothing was folded in the end, no call has folded anything
    idle-chain : (c c' : ContextView K A T) (s s' : Bool) (calls : List (Call (ContextView K A T) Bool NodeErr))
        → Chain (Unbroken call) c s calls c' s' → s' ≡ false → Chain Idle c s calls c' s'
    idle-chain c c' s s' [] h f = h
    idle-chain c c' s s' (x ∷ xs) h f =
        (h.0, h.1, (h.2, (clear-chain x.after c' x.left s' xs h.3 f).0), idle-chain x.after c' x.left s' xs h.3 f)

    same-after : (c c' : ContextView K A T) (s s' : Bool) (n : IRNode) (a : ControlFlow NodeErr WalkContinue)
        → Idle c s n a c' s' → c' ≡ c
    same-after c c' s s' n a p = ((told c c' s s' n a p.0).tells.clear p.1).1

    never-skips : (a : ControlFlow NodeErr WalkContinue) (c c' : ContextView K A T) (s s' : Bool) (n : IRNode)
        → IsAnswered fold c s n a c' s' → a ≢ Continue Skip
    never-skips (Continue Advance) c c' s s' n f e = cc e
    never-skips (Continue Skip) c c' s s' n f e = f
    never-skips (Break b) c c' s s' n f e = cc e

    module _ (w : WalkConfig) (c c' : ContextView K A T) (s s' : Bool) (limit : ℕ)
        (answer : Result (ControlFlow NodeErr WalkContinue) CallLimit) (k : WalkContinue) (e : answer ≡ Ok (Continue k))
        (pre : AllPre w)
        (whole : IsWellFormed own c) (walked : Walked look w post c s r limit answer c' s') where
      walk : Walked look w post c s r limit (Ok (Continue k)) c' s'
      walk = subst (λ z. Walked look w post c s r limit z c' s') e walked

      unbroken : Chain (Unbroken call) c s walk.calls c' s'
      unbroken = unbroken-chain call c s walk.calls c' s' walk.chain (walk.at_exit pre).answers.1

      pub tells-at-end : IsFlagged c s s' c'
      tells-at-end = walk-tells c c' s s' walk.calls whole unbroken

      pub settled-at-end : IsForest (look c') → s' ≡ false → AreSettled fold c' r
      settled-at-end forest f p below = up (parent_of c' (Operation p)) refl
        where
          up : (o : Option IRNode) → parent_of c' (Operation p) ≡ o → (i : ℕ) → IsUnfolded fold c' p i
          up None q =
              absurd (climb-nothing (parent_of c') below.0 r (ap (climb (parent_of c') below.0) (sym q) ∙ below.1))
          up (Some a) q =
              let exit = walk.at_exit pre in
              let under =
              reached-under (look c') forest below.0 a r (ap (climb (parent_of c') below.0) (sym q) ∙ below.1) in
              let h = holds_under_root Idle (AreChildrenSettled fold)
              (λ d d' t t' n b m p g. subst (λ z. AreChildrenSettled fold z m) (sym (same-after d d' t t' n b p)) g)
              (λ d d' t t' n b p. (told d d' t t' n b p.0).settled p.1)
              w (children c') r c c' s s' walk.calls k (idle-chain c c' s s' walk.calls unbroken f) exit.answers
              (λ x i. (let p = chain-each call c s walk.calls c' s' walk.chain x i in
              never-skips x.answer x.before x.after x.state x.left x.node
              (each x.before x.state x.node x.answer x.after x.left p.made).answered)) a under in
              h p (forest.parent_child a (Operation p) q)

    -- where a walk was broken off for too many nodes, there is no room for one more constant
    pub crowded-at-end : (w : WalkConfig) (c c' : ContextView K A T) (s s' : Bool) (limit : ℕ)
        (answer : Result (ControlFlow NodeErr WalkContinue) CallLimit) (e : NodeErr) → answer ≡ Ok (Break e) → AllPre w
        → Walked look w post c s r limit answer c' s' → e ≡ TooManyNodes → IsFullForOp c'.nodes 0
    crowded-at-end w c c' s s' limit answer e is pre walked =
        let walk = subst (λ z. Walked look w post c s r limit z c' s') is walked in
        let last = left_by_the_break call c c' s s' walk.calls e walk.chain (walk.at_exit pre).answers.0 in
        (each last.0 last.1 last.2 (Break e) c' s' last.3.made).answered
