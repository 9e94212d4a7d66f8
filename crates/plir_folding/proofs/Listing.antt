-- What is to be merged is listed: the loop over the operations of a block, and the walk over blocks.
use Rattle.std.proofs.Common.{◌≡◌, ◌≢◌, ◌<◌, ℕ, zero, suc, List, [], ◌∷◌, ◌++◌, Option, Some, None, option_map, ◌⊎◌, inl, inr}
use Rattle.std.proofs.Common.{refl, sym, ap, subst, ◌∙◌, append_assoc}
use Rattle.std.specs.HashMap.{HashMap}
use Rattle.std.proofs.lemmas.List.{append-nil}
use Rattle.std.proofs.lemmas.Option.{same_Some}
use Rattle.std.specs.declared.ops.ControlFlow.{ControlFlow}
use Rattle.std.specs.declared.ops.ControlFlow.TheVariants.{Continue, Break}
use Rattle.plir_store.specs.Members.{Has, head}
use Rattle.plir_data.specs.declared.plain_attrs.IntegerAttr.{IntegerAttr}
use Rattle.plir_core.specs.declared.ptr.Ptr.{Ptr}
use Rattle.plir_core.specs.declared.ptr.Operation.{Operation as OperationKind}
use Rattle.plir_core.specs.declared.ptr.BasicBlock.{BasicBlock as BasicBlockKind}
use Rattle.plir_core.specs.declared.ptr.IRNode.{IRNode}
use Rattle.plir_core.specs.declared.ptr.IRNode.TheVariants.{Operation, Region, BasicBlock}
use Rattle.plir_core.specs.declared.value.Value.{Value}
use Rattle.plir_core.specs.Above.{climb}
use Rattle.plir_core.specs.ContextView.{ContextView, IsLive, children, parent_of}
use Rattle.plir_core.specs.Forest.{look, IsBelow, IsForest}
use Rattle.plir_walk.specs.declared.config.TheConstants.{WALKCONFIG_PREORDER_FORWARD as pre_forward}
use Rattle.plir_walk.specs.declared.interruptible.WalkContinue.{WalkContinue}
use Rattle.plir_walk.specs.declared.interruptible.WalkContinue.TheVariants.{Advance, Skip}
use Rattle.plir_walk.specs.Calls.{Call, Relation, Chain, nodes_of, NoBreak}
use Rattle.plir_walk.specs.NodeLaws.{ended, left_from}
use Rattle.plir_walk.specs.TreeLaws.{reached-under, under-reached}
use Rattle.plir_walk.specs.Walk.{AnswersBy, IsDue}
use Rattle.plir_walk.specs.Walked.{IsCallUnder, WalkedOver}
use Rattle.plir_folding.specs.declared.merging.Merge.{Merge}
use Rattle.plir_folding.specs.Merging.{AreFirsts, AreListed, AreListedIn, AreMergesBelow, IsMerge, IsNoted, IsScanned}
use Rattle.plir_folding.proofs.Along.{along-rest, along-cut, along-live, along-fresh, left-falls}
use Rattle.plir_folding.proofs.Firsts.{firsts-empty, listed-none}

-- ---- the operations of a block

module _ {K A T S : Type 0} where
  -- What is to be merged among the operations before `at` is listed, and their first constants are in a map.
  pub record IsListing (s : ContextView K A T) (b : Ptr BasicBlockKind) (ms₀ ms : List Merge)
      (fs : HashMap IntegerAttr Value S) (at : Option (Ptr OperationKind)) : Type 0 where
    pub front : List IRNode
    pub back : List IRNode
    pub split : children s (BasicBlock b) ≡ front ++ back
    pub here : option_map Operation at ≡ head back
    pub firsts : AreFirsts s front fs
    pub listed : AreListed s front ms₀ ms

  module _ (s : ContextView K A T) (b : Ptr BasicBlockKind) where
    pub listing-start : (ms : List Merge) (fs : HashMap IntegerAttr Value S) (at : Option (Ptr OperationKind))
        → fs.entries ≡ [] → option_map Operation at ≡ head (children s (BasicBlock b)) → IsListing s b ms ms fs at
    listing-start ms fs at empty e = record {
      front = [];
      back = children s (BasicBlock b);
      split = refl;
      here = e;
      firsts = firsts-empty s fs empty;
      listed = listed-none s ms;
    }

    module _ (forest : IsForest (look s)) (ms₀ ms : List Merge) (fs : HashMap IntegerAttr Value S)
        (at : Option (Ptr OperationKind)) (l : IsListing s b ms₀ ms fs at) where
      pub listing-end : at ≡ None → AreListed s (children s (BasicBlock b)) ms₀ ms
      listing-end e =
          let none = ended l.back (ap (option_map Operation) (sym e) ∙ l.here) in
          subst (λ ns. AreListed s ns ms₀ ms)
          (sym (append-nil l.front) ∙ ap (λ z. l.front ++ z) (sym none) ∙ sym l.split) l.listed

      module _ (op : Ptr OperationKind) (is : at ≡ Some op) where
        pub listing-live : IsLive s (Operation op)
        listing-live = along-live s forest b l.front l.back at l.split l.here op is

        abbrev ys : List IRNode
        ys = (along-rest s forest b l.front l.back at l.split l.here op is).0

        cut : children s (BasicBlock b) ≡ l.front ++ Operation op ∷ ys
        cut = along-cut s forest b l.front l.back at l.split l.here op is

        recut : children s (BasicBlock b) ≡ (l.front ++ Operation op ∷ []) ++ ys
        recut = cut ∙ sym (append_assoc l.front (Operation op ∷ []) ys)

        module _ (next : Option (Ptr OperationKind)) (behind : (xs zs : List IRNode)
            → children s (BasicBlock b) ≡ xs ++ Operation op ∷ zs → option_map Operation next ≡ head zs) where
          pub listing-more : (ms' : List Merge) (fs' : HashMap IntegerAttr Value S) → IsNoted s op fs ms fs' ms'
              → IsListing s b ms₀ ms' fs' next
          listing-more ms' fs' noted = record {
            front = l.front ++ Operation op ∷ [];
            back = ys;
            split = recut;
            here = behind l.front ys cut;
            firsts = noted.firsts l.front l.firsts;
            listed =
                noted.merges l.front ms₀ (along-fresh s forest b l.front l.back at l.split l.here op is) l.firsts
                l.listed;
          }

          pub listing-falls : left_from (children s (BasicBlock b)) next < left_from (children s (BasicBlock b)) at
          listing-falls =
              let ns = children s (BasicBlock b) in
              let once = forest.once (BasicBlock b) in
              left-falls ns ns l.front (l.front ++ Operation op ∷ []) ys op at next is cut once recut once
              (behind l.front ys cut)

-- ---- the blocks below a root

module _ {K A T : Type 0} (s : ContextView K A T) where
  -- something is to be merged in a block among nodes
  abbrev IsMergeIn : List IRNode → Merge → Type 0
  IsMergeIn ns m = (b : Ptr BasicBlockKind) × (Has ns (BasicBlock b) × IsMerge s (children s (BasicBlock b)) m)

  record AreListedAmong (ns : List IRNode) (ms ms' : List Merge) : Type 0 where
    kept : (m : Merge) → Has ms m → Has ms' m
    only : (m : Merge) → Has ms' m → Has ms m ⊎ IsMergeIn ns m
    all : (m : Merge) → IsMergeIn ns m → Has ms' m

  -- a node that is no block changes nothing
  among-more : (n : IRNode) (ns : List IRNode) (ms ms' : List Merge) → ((b : Ptr BasicBlockKind) → n ≢ BasicBlock b)
      → AreListedAmong ns ms ms' → AreListedAmong (n ∷ ns) ms ms'
  among-more n ns ms ms' not l = record {
    kept = l.kept;
    only = λ m h. elim (l.only m h) [ inl i ↦ inl i | inr k ↦ inr (k.0, (inr k.1.0, k.1.1)) ];
    all = λ m k. elim k.1.0 [ inl same ↦ absurd (not k.0 same) | inr i ↦ l.all m (k.0, (i, k.1.1)) ];
  }

  among-then : (n : IRNode) (ns : List IRNode) (ms ms' ms'' : List Merge) → AreListedIn s n ms ms'
      → AreListedAmong ns ms' ms'' → AreListedAmong (n ∷ ns) ms ms''
  among-then (Operation p) ns ms ms' ms'' e l =
      among-more (Operation p) ns ms ms'' (λ b q. cc q) (subst (λ z. AreListedAmong ns z ms'') e l)
  among-then (Region p) ns ms ms' ms'' e l =
      among-more (Region p) ns ms ms'' (λ b q. cc q) (subst (λ z. AreListedAmong ns z ms'') e l)
  among-then (BasicBlock b) ns ms ms' ms'' h l = record {
    kept = λ m i. l.kept m (h.kept m i);
    only = λ m i. elim (l.only m i) [
      | inl j ↦ elim (h.only m j) [ inl k ↦ inl k | inr k ↦ inr (b, (inl refl, k)) ]
      | inr k ↦ inr (k.0, (inr k.1.0, k.1.1))
    ];
    all = λ m k. elim k.1.0 [
      | inl same ↦ l.kept m (h.all m (subst (λ z. IsMerge s (children s z) m) (sym same) k.1.1))
      | inr i ↦ l.all m (k.0, (i, k.1.1))
    ];
  }

module _ {K A T S B : Type 0} (s : ContextView K A T) (forest : IsForest (look s)) (root : Ptr OperationKind)
    (items : S → List Merge) (post : Relation (ContextView K A T) S B)
    (each : (d : ContextView K A T) (u : S) (n : IRNode) (a : ControlFlow B WalkContinue) (d' : ContextView K A T)
    (u' : S) → post d u n a d' u' → (d' ≡ d) × IsScanned d (items u) n a (items u')) where
  abbrev OneCall : Type 0
  OneCall = Call (ContextView K A T) S B

  abbrev call : Relation (ContextView K A T) S B
  call = IsCallUnder look (Operation root) post

  goes-on : (d : ContextView K A T) (ms : List Merge) (n : IRNode) (a : ControlFlow B WalkContinue) (ms' : List Merge)
      → ((b : B) → a ≢ Break b) → IsScanned d ms n a ms' → (a ≡ Continue Advance) × AreListedIn d n ms ms'
  goes-on d ms n (Continue Advance) ms' k h = (refl, h)
  goes-on d ms n (Continue Skip) ms' k h = absurd h
  goes-on d ms n (Break b) ms' k h = absurd (k b refl)

  all-listed : (calls : List OneCall) (d : ContextView K A T) (u : S) (d' : ContextView K A T) (u' : S) → d ≡ s
      → Chain call d u calls d' u' → NoBreak calls
      → ((x : OneCall) → Has calls x → x.answer ≡ Continue Skip → ⊥)
      × AreListedAmong s (nodes_of calls) (items u) (items u')
  all-listed [] d u d' u' e h k = (
    λ x i. absurd i,
    record {
      kept = λ m i. subst (λ z. Has (items z) m) (sym h.1) i;
      only = λ m i. inl (subst (λ z. Has (items z) m) h.1 i);
      all = λ m i. absurd i.1.0;
    },
  )
  all-listed (y ∷ ys) d u d' u' e h k =
      let made = each y.before y.state y.node y.answer y.after y.left h.2.made in
      let first = goes-on y.before (items y.state) y.node y.answer (items y.left) k.0 made.1 in
      let here =
      subst (λ z. AreListedIn s y.node (items z) (items y.left)) h.1
      (subst (λ z. AreListedIn z y.node (items y.state) (items y.left)) (h.0 ∙ e) first.1) in
      let rest = all-listed ys y.after y.left d' u' (made.0 ∙ h.0 ∙ e) h.3 k.1 in (
        λ x i f. elim i [
          | inl same ↦ (let z : ⊥ = cc (first.0, ap (λ (c : OneCall). c.answer) same, f) in z)
          | inr more ↦ rest.0 x more f
        ],
        among-then s y.node (nodes_of ys) (items u) (items y.left) (items u') here rest.1,
      )

  -- a block that stands under an operation stands below it
  below : (b : Ptr BasicBlockKind) (k : ℕ) → climb (parent_of s) k (Some (BasicBlock b)) ≡ Some (Operation root)
      → IsBelow (look s) (Operation root) (BasicBlock b)
  below b zero e =
      absurd (let h = same_Some (BasicBlock b) (Operation root) e in let z : ⊥ = cc h in z)
  below b (suc k) e = (k, e)

  -- a walk that began with none and went to its end has listed exactly what is to be merged
  pub walked-merges : (answer : ControlFlow B WalkContinue) (k : WalkContinue) → answer ≡ Continue k → (u u' : S)
      → items u ≡ [] → WalkedOver look pre_forward post s u (Operation root) answer u'
      → AreMergesBelow s (Operation root) (items u')
  walked-merges answer k is u u' none walked =
      let t = (look s).children in
      let r = Operation root in
      let answers =
      subst (λ z. AnswersBy pre_forward t r (IsDue pre_forward t r) walked.calls z) is walked.walk.answers in
      let all = all-listed walked.calls s u s u' refl walked.chain answers.1 in
      record {
        only = λ m h. elim (all.1.only m h) [
          | inl i ↦ absurd (subst (λ z. Has z m) none i)
          | inr c ↦
              (let under = ((answers.2 (BasicBlock c.0)).0 c.1.0).0 in
              let up = under-reached (look s) forest (BasicBlock c.0) r under in
              (c.0, (below c.0 up.0 up.1, c.1.1)))
        ];
        all = λ b over m h. all.1.all m (
          b,
          (
            (answers.2 (BasicBlock b)).1 (
              reached-under (look s) forest (suc over.0) (BasicBlock b) r over.1,
              λ out. all.0 out.skipped.0 out.skipped.1 out.skipped.3,
            ),
            h,
          ),
        );
      }

-- what is said of equal contexts and lists
pub scanned-again : {K A T B : Type 0} {c d : ContextView K A T} {ms ns ms' ns' : List Merge} (n : IRNode)
    (a : ControlFlow B WalkContinue) → c ≡ d → ms ≡ ns → ms' ≡ ns' → IsScanned c ms n a ms' → IsScanned d ns n a ns'
scanned-again {c} {d} {ms} {ns} {ms'} {ns'} n a same before after h =
    subst (λ z. IsScanned d ns n a z) after
    (subst (λ z. IsScanned d z n a ms') before (subst (λ z. IsScanned z ms n a ms') same h))
