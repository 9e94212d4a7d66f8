-- What a walk adds to a list of blocks, where each call at a block adds it.
use Rattle.std.proofs.Common.{◌≡◌, ◌≢◌, List, [], ◌∷◌, ◌++◌, inl, inr, refl, sym, ap, subst, ◌∙◌}
use Rattle.std.proofs.lemmas.List.{append_assoc, append-nil}
use Rattle.std.specs.declared.ops.ControlFlow.{ControlFlow}
use Rattle.std.specs.declared.ops.ControlFlow.TheVariants.{Continue, Break}
use Rattle.plir_store.specs.Members.{Has, Distinct}
use Rattle.plir_core.specs.declared.ptr.Ptr.{Ptr}
use Rattle.plir_core.specs.declared.ptr.Operation.{Operation as OperationKind}
use Rattle.plir_core.specs.declared.ptr.BasicBlock.{BasicBlock as BlockKind}
use Rattle.plir_core.specs.declared.ptr.IRNode.{IRNode}
use Rattle.plir_core.specs.declared.ptr.IRNode.TheVariants.{Operation, Region, BasicBlock}
use Rattle.plir_core.specs.ContextView.{ContextView}
use Rattle.plir_core.specs.Forest.{look}
use Rattle.plir_walk.specs.declared.config.TheConstants.{WALKCONFIG_PREORDER_FORWARD as pre_forward}
use Rattle.plir_walk.specs.declared.interruptible.WalkContinue.{WalkContinue}
use Rattle.plir_walk.specs.declared.interruptible.WalkContinue.TheVariants.{Advance, Skip}
use Rattle.plir_walk.specs.Calls.{Call, Relation, Chain, nodes_of, NoBreak}
use Rattle.plir_walk.specs.Laws.{BeforeOrders}
use Rattle.plir_walk.specs.Lists.{Pairs}
use Rattle.plir_walk.specs.Tree.{NodeBefore}
use Rattle.plir_walk.specs.Walk.{AnswersBy, IsDue}
use Rattle.plir_walk.specs.Walked.{IsCallUnder, WalkedOver}
use Rattle.plir_arguments.specs.Listed.{AreBlocksBelow, IsNodePut, block_in}
use Rattle.plir_arguments.proofs.PutSteps.{block-same}

-- the blocks among some nodes
abbrev blocks_in : List IRNode → List (Ptr BlockKind)
blocks_in [] = []
blocks_in (n ∷ ns) = block_in n ++ blocks_in ns

has-blocks : (ns : List IRNode) (b : Ptr BlockKind) → Has (blocks_in ns) b → Has ns (BasicBlock b)
has-blocks [] b h = absurd h
has-blocks (Operation q ∷ ns) b h = inr (has-blocks ns b h)
has-blocks (Region q ∷ ns) b h = inr (has-blocks ns b h)
has-blocks (BasicBlock q ∷ ns) b (inl e) = inl (ap BasicBlock e)
has-blocks (BasicBlock q ∷ ns) b (inr h) = inr (has-blocks ns b h)

blocks-has : (ns : List IRNode) (b : Ptr BlockKind) → Has ns (BasicBlock b) → Has (blocks_in ns) b
blocks-has [] b h = absurd h
blocks-has (Operation q ∷ ns) b (inl e) = absurd (let z : ⊥ = cc e in z)
blocks-has (Operation q ∷ ns) b (inr h) = blocks-has ns b h
blocks-has (Region q ∷ ns) b (inl e) = absurd (let z : ⊥ = cc e in z)
blocks-has (Region q ∷ ns) b (inr h) = blocks-has ns b h
blocks-has (BasicBlock q ∷ ns) b (inl e) = inl (block-same q b e)
blocks-has (BasicBlock q ∷ ns) b (inr h) = inr (blocks-has ns b h)

blocks-once : (R : IRNode → IRNode → Type 0) (ns : List IRNode) → ((n : IRNode) → R n n → ⊥) → Pairs R ns →
    Distinct (blocks_in ns)
blocks-once R [] off h = tt
blocks-once R (Operation q ∷ ns) off h = blocks-once R ns off h.1
blocks-once R (Region q ∷ ns) off h = blocks-once R ns off h.1
blocks-once R (BasicBlock q ∷ ns) off h =
    (λ k. off (BasicBlock q) (h.0 (BasicBlock q) (has-blocks ns q k)), blocks-once R ns off h.1)

module _ {K A T : Type 0} (s : ContextView K A T) {S B : Type 0} (items : S → List (Ptr BlockKind))
    (root : Ptr OperationKind) (post : Relation (ContextView K A T) S B)
    (each : (d : ContextView K A T) (u : S) (n : IRNode) (a : ControlFlow B WalkContinue) (d' : ContextView K A T)
    (u' : S) → post d u n a d' u' → IsNodePut (items u) n a (items u')) where
  abbrev OneCall : Type 0
  OneCall = Call (ContextView K A T) S B

  abbrev call : Relation (ContextView K A T) S B
  call = IsCallUnder look (Operation root) post

  goes-on : (bs : List (Ptr BlockKind)) (n : IRNode) (a : ControlFlow B WalkContinue) (bs' : List (Ptr BlockKind)) →
      ((b : B) → a ≢ Break b) → IsNodePut bs n a bs' → (a ≡ Continue Advance) × (bs' ≡ bs ++ block_in n)
  goes-on bs n (Continue Advance) bs' k h = (refl, h)
  goes-on bs n (Continue Skip) bs' k h = absurd h
  goes-on bs n (Break b) bs' k h = absurd (k b refl)

  all-put : (calls : List OneCall) (d : ContextView K A T) (u : S) (d' : ContextView K A T) (u' : S) →
      Chain call d u calls d' u' → NoBreak calls →
      ((x : OneCall) → Has calls x → x.answer ≡ Continue Skip → ⊥) × (items u' ≡ items u ++ blocks_in (nodes_of calls))
  all-put [] d u d' u' h k = (λ x i. absurd i, ap items h.1 ∙ sym (append-nil (items u)))
  all-put (y ∷ ys) d u d' u' h k =
      let first = goes-on (items y.state) y.node y.answer (items y.left) k.0
      (each y.before y.state y.node y.answer y.after y.left h.2.made) in
      let rest = all-put ys y.after y.left d' u' h.3 k.1 in (
        λ x i f. elim i [
          | inl same ↦ (let z : ⊥ = cc (first.0, ap (λ (c : OneCall). c.answer) same, f) in z)
          | inr more ↦ rest.0 x more f
        ],
        rest.1
            ∙ ap (λ z. z ++ blocks_in (nodes_of ys)) (first.1 ∙ ap (λ z. items z ++ block_in y.node) h.1)
            ∙ append_assoc (items u) (block_in y.node) (blocks_in (nodes_of ys)),
      )

  -- a walk that began with none and went to its end has added exactly the blocks, each once
  pub walked-blocks : BeforeOrders → (answer : ControlFlow B WalkContinue) (k : WalkContinue) → answer ≡ Continue k →
      (u u' : S) → items u ≡ [] → WalkedOver look pre_forward post s u (Operation root) answer u' →
      AreBlocksBelow s root (items u')
  walked-blocks orders answer k is u u' none walked =
      let t = (look s).children in
      let r = Operation root in
      let answers = subst (λ z. AnswersBy pre_forward t r (IsDue pre_forward t r) walked.calls z) is
      walked.walk.answers in
      let nodes = nodes_of walked.calls in
      let all = all-put walked.calls s u s u' walked.chain answers.1 in
      let put : items u' ≡ blocks_in nodes = all.1 ∙ ap (λ z. z ++ blocks_in nodes) none in
      subst (AreBlocksBelow s root) (sym put) (record {
        only = λ b h. ((answers.2 (BasicBlock b)).0 (has-blocks nodes b h)).0;
        all = λ b under. blocks-has nodes b ((answers.2 (BasicBlock b)).1 (
          under,
          λ out. all.0 out.skipped.0 out.skipped.1 out.skipped.3,
        ));
        once = blocks-once (NodeBefore pre_forward t r) nodes
            (orders pre_forward t r walked.walk.in_order.one_place).irreflexive walked.walk.in_order.increasing;
      })

-- what is said of equal lists
pub put-again : {B : Type 0} {bs cs bs' cs' : List (Ptr BlockKind)} (n : IRNode) (a : ControlFlow B WalkContinue) →
    bs ≡ cs → bs' ≡ cs' → IsNodePut bs n a bs' → IsNodePut cs n a cs'
put-again {bs} {cs} {bs'} {cs'} n a before after h =
    subst (λ z. IsNodePut cs n a z) after (subst (λ z. IsNodePut z n a bs') before h)
