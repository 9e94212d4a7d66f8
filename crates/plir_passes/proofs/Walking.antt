-- A walk that replaces the illegal operations of each block.
use Rattle.std.proofs.Common.{◌≡◌, ◌≢◌, ℕ, Bool, true, false, cond, List, [], ◌∷◌, map, Option, Some, None, Result, Ok}
use Rattle.std.proofs.Common.{refl, sym, ap, subst, ◌∙◌}
use Rattle.std.specs.declared.ops.ControlFlow.{ControlFlow}
use Rattle.std.specs.declared.ops.ControlFlow.TheVariants.{Continue, Break}
use Rattle.std.proofs.lemmas.Bool.{false_from_ne_true}
use Rattle.plir_data.specs.declared.op_set.OpKind.{OpKind}
use Rattle.plir_store.specs.Members.{Has}
use Rattle.plir_store.specs.MemberLaws.{Has-map}
use Rattle.plir_store.specs.Lists.{children_at}
use Rattle.plir_store.specs.FilterLaws.{not-both}
use Rattle.plir_core.specs.declared.ptr.Ptr.{Ptr}
use Rattle.plir_core.specs.declared.ptr.Operation.{Operation as OperationKind}
use Rattle.plir_core.specs.declared.ptr.Region.{Region as RegionKind}
use Rattle.plir_core.specs.declared.ptr.BasicBlock.{BasicBlock as BasicBlockKind}
use Rattle.plir_core.specs.declared.ptr.IRNode.{IRNode}
use Rattle.plir_core.specs.declared.ptr.IRNode.TheVariants.{Operation, Region, BasicBlock}
use Rattle.plir_core.specs.Above.{climb}
use Rattle.plir_core.specs.Forest.{look, IsForest, IsBelow}
use Rattle.plir_core.specs.Nodes.{region_node, block_node}
use Rattle.plir_core.specs.ContextView.{ContextView, is_live, children, parent_of, given_out}
use Rattle.plir_walk.specs.declared.interruptible.WalkContinue.{WalkContinue}
use Rattle.plir_walk.specs.declared.interruptible.WalkContinue.TheVariants.{Advance, Skip}
use Rattle.plir_walk.specs.declared.limit.CallLimit.{CallLimit}
use Rattle.plir_walk.specs.declared.config.WalkConfig.{WalkConfig}
use Rattle.plir_walk.specs.Config.{AllPre}
use Rattle.plir_walk.specs.Calls.{Call, Relation, Chain, NoBreak}
use Rattle.plir_walk.specs.TreeLaws.{reached-under}
use Rattle.plir_walk.specs.Walked.{Walked, IsCallUnder}
use Rattle.plir_walk.specs.Lawful.{Lawful}
use Rattle.plir_walk.specs.CallLaws.{chain-each, kept_from_entry_to_exit, holds_under_root}
use Rattle.plir_walk.specs.NodeLaws.{climb-nothing}
use Rattle.plir_passes.specs.Legal.{is_illegal, HasLegalChildren}
use Rattle.plir_passes.specs.Rewritten.{IsConverted}
use Rattle.plir_passes.specs.Rewrites.{Rewrites, IsNodeConverted}
use Rattle.plir_passes.specs.Converted.{IsConvertedAt, IsSettled}
use Rattle.plir_passes.proofs.Keeping.{converted-none, converted-then}

module _ {C S B : Type 0} (post : Relation C S B) where
  -- a call that did not break
  abbrev Unbroken : Relation C S B
  Unbroken c s n a c' s' = post c s n a c' s' × ((b : B) → a ≢ Break b)

  unbroken-chain : (c : C) (s : S) (calls : List (Call C S B)) (c' : C) (s' : S) → Chain post c s calls c' s'
      → NoBreak calls → Chain Unbroken c s calls c' s'
  unbroken-chain c s [] c' s' h k = h
  unbroken-chain c s (x ∷ xs) c' s' h k = (h.0, h.1, (h.2, k.0), unbroken-chain x.after x.left xs c' s' h.3 k.1)

module _ {K A T : Type 0} (illegal : OpKind K → Bool) where
  legal-images : (s : ContextView K A T) (b : Bool) (is : List ℕ) (f : ℕ → IRNode)
      → ((i : ℕ) → is_illegal illegal s (f i) ≡ false) → (a : IRNode) → Has (cond b (map f is) []) a
      → is_illegal illegal s a ≡ false
  legal-images s true is f each a h =
      (let r = Has-map f is a h in subst (λ z. is_illegal illegal s z ≡ false) r.1.1 (each r.0))
  legal-images s false is f each a h = absurd h

  -- regions and blocks are no operations
  pub legal-under-op : (s : ContextView K A T) (p : Ptr OperationKind) → HasLegalChildren illegal s (Operation p)
  legal-under-op s p a h =
      legal-images s (is_live s (Operation p)) (children_at s.nodes.regions_in_op p.slot) (region_node s.nodes)
      (λ i. refl) a h

  pub legal-under-region : (s : ContextView K A T) (p : Ptr RegionKind) → HasLegalChildren illegal s (Region p)
  legal-under-region s p a h =
      legal-images s (is_live s (Region p)) (children_at s.nodes.blocks_in_region p.slot) (block_node s.nodes)
      (λ i. refl) a h

module _ {K A T B : Type 0} (illegal : OpKind K → Bool) (rewrites : Rewrites K A T B) where
  -- what was done at a block
  pub at-block : (s t : ContextView K A T) (n : IRNode) (b : Ptr BasicBlockKind)
      (a : ControlFlow B WalkContinue) → n ≡ BasicBlock b → Lawful (look s) (BasicBlock b) (look t)
      → IsConverted illegal s t
      → IsSettled illegal t (BasicBlock b) a → IsNodeConverted illegal rewrites s (BasicBlock b) a t
      → IsConvertedAt illegal rewrites s n a t
  at-block s t n b a e l c f h = record {
    lawful = subst (λ z. Lawful (look s) z (look t)) (sym e) l;
    converted = c;
    settled = subst (λ z. IsSettled illegal t z a) (sym e) f;
    node = subst (λ z. IsNodeConverted illegal rewrites s z a t) (sym e) h;
  }

  -- what is promised of equal contexts
  pub converted-by : {c d c' d' : ContextView K A T} {n : IRNode} {a : ControlFlow B WalkContinue}
      → c ≡ d → c' ≡ d' → IsConvertedAt illegal rewrites c n a c' → IsConvertedAt illegal rewrites d n a d'
  converted-by {c} {d} {c'} {d'} {n} {a} e f h =
      subst (λ z. IsConvertedAt illegal rewrites d n a z) f
      (subst (λ z. IsConvertedAt illegal rewrites z n a c') e h)

  module _ {S : Type 0} (post : Relation (ContextView K A T) S B) (r : IRNode)
      (each : (c : ContextView K A T) (s : S) (n : IRNode) (a : ControlFlow B WalkContinue) (c' : ContextView K A T)
      (s' : S) → post c s n a c' s' → IsConvertedAt illegal rewrites c n a c') where
    abbrev call : Relation (ContextView K A T) S B
    call = IsCallUnder look r post

    abbrev Steady : ContextView K A T → S → ContextView K A T → S → Type 0
    Steady c s c' s' = IsForest (look c) → IsForest (look c') × IsConverted illegal c c'

    pub walk-converted : (c c' : ContextView K A T) (s s' : S) (calls : List (Call (ContextView K A T) S B))
        → IsForest (look c) → Chain call c s calls c' s' → IsConverted illegal c c'
    walk-converted c c' s s' calls w h =
        (kept_from_entry_to_exit call Steady
        (record {
          itself = λ d t w. (w, converted-none illegal d);
          on = λ d e f t u v g k w. (let a = g w in let b = k a.0 in (b.0, converted-then illegal d e f w a.1 b.1));
        })
        (λ d d' t t' n a p w. (p.leaves, (each d t n a d' t' p.made).converted)) c c' s s' calls h w).1

    abbrev Holds : ContextView K A T → IRNode → Type 0
    Holds c n = (given_out c n ≡ true) × HasLegalChildren illegal c n

    left : (c c' : ContextView K A T) (s s' : S) (n : IRNode) (a : ControlFlow B WalkContinue) (m : IRNode)
        → Unbroken call c s n a c' s' → Holds c m → Holds c' m
    left c c' s s' n a m p h =
        let f = (each c s n a c' s' p.0.made).converted in (
          f.given m h.0,
          λ x i. false_from_ne_true (is_illegal illegal c' x)
              (λ e. (let k = f.legal m x h.0 i e in not-both (is_illegal illegal c x) k.1 (h.1 x k.0))),
        )

    established : (c c' : ContextView K A T) (s s' : S) (n : IRNode) (a : ControlFlow B WalkContinue)
        → Unbroken call c s n a c' s' → Holds c' n
    established c c' s s' n a p =
        let f = each c s n a c' s' p.0.made in
        (f.converted.given n (p.0.stands.forest.live_given n p.0.stands.live), go a f.settled p.1)
      where
        go : (a : ControlFlow B WalkContinue) → IsSettled illegal c' n a → ((b : B) → a ≢ Break b)
            → HasLegalChildren illegal c' n
        go (Continue Advance) f k = f
        go (Continue Skip) f k = absurd f
        go (Break b) f k = absurd (k b refl)

    never-skips : (a : ControlFlow B WalkContinue) (c : ContextView K A T) (n : IRNode) → IsSettled illegal c n a
        → a ≢ Continue Skip
    never-skips (Continue Advance) c n f e = cc e
    never-skips (Continue Skip) c n f e = f
    never-skips (Break b) c n f e = cc e

    pub walk-legal : (w : WalkConfig) (c c' : ContextView K A T) (s s' : S) (limit : ℕ) (k : WalkContinue) → AllPre w
        → IsForest (look c') → Walked look w post c s r limit (Ok (Continue k)) c' s'
        → (n : IRNode) → IsBelow (look c') r n → is_illegal illegal c' n ≡ false
    walk-legal w c c' s s' limit k pre forest walked n below = up (parent_of c' n) refl
      where
        up : (o : Option IRNode) → parent_of c' n ≡ o → is_illegal illegal c' n ≡ false
        up None q =
            absurd (climb-nothing (parent_of c') below.0 r (ap (climb (parent_of c') below.0) (sym q) ∙ below.1))
        up (Some a) q =
            let walk = walked.at_exit pre in
            let under =
            reached-under (look c') forest below.0 a r (ap (climb (parent_of c') below.0) (sym q) ∙ below.1) in
            let h = holds_under_root (Unbroken call) Holds left established w (children c') r c c' s s' walked.calls k
            (unbroken-chain call c s walked.calls c' s' walked.chain walk.answers.1) walk.answers
            (λ x i. (let p = chain-each call c s walked.calls c' s' walked.chain x i in
            never-skips x.answer x.after x.node
            (each x.before x.state x.node x.answer x.after x.left p.made).settled)) a under in
            h.1 n (forest.parent_child a n q)

    -- the same of a walk whose answer is told by an equation
    pub legal-at-end : (w : WalkConfig) (c c' : ContextView K A T) (s s' : S) (limit : ℕ)
        (answer : Result (ControlFlow B WalkContinue) CallLimit) (k : WalkContinue) → answer ≡ Ok (Continue k)
        → AllPre w → IsForest (look c')
        → Walked look w post c s r limit answer c' s' → (n : IRNode) → IsBelow (look c') r n
        → is_illegal illegal c' n ≡ false
    legal-at-end w c c' s s' limit answer k e pre forest walked =
        walk-legal w c c' s s' limit k pre forest (subst (λ z. Walked look w post c s r limit z c' s') e walked)
