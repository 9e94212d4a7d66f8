-- Laws of what is thinned, for the proofs of passes.
use Rattle.std.proofs.Common.{◌≡◌, ℕ, arith, Bool, true, List, [], ◌∷◌, ◌++◌, Option, Result, refl, sym}
use Rattle.std.proofs.Common.{ap, subst, ◌∙◌}
use Rattle.std.specs.Borrow.{MutBor}
use Rattle.std.specs.Fn.{Shared}
use Rattle.std.specs.declared.ops.ControlFlow.{ControlFlow}
use Rattle.std.specs.List.{filter}
use Rattle.std.proofs.lemmas.List.{length-append}
use Rattle.plir_store.specs.FilterLaws.{filter-all, filter-twice}
use Rattle.plir_data.specs.declared.op_set.OpKind.{OpKind}
use Rattle.plir_core.specs.Contents.{OpView, BlockView}
use Rattle.plir_core.specs.Erase.{without_node, without_nodes}
use Rattle.plir_core.specs.Nodes.{Nodes}
use Rattle.plir_core.specs.Forest.{look, IsForest}
use Rattle.plir_core.specs.ContextView.{ContextView, IsLive, is_live, children, kind_in}
use Rattle.plir_core.specs.declared.ptr.IRNode.{IRNode}
use Rattle.plir_core.specs.declared.ptr.IRNode.TheVariants.{Operation, BasicBlock}
use Rattle.plir_walk.specs.declared.interruptible.WalkContinue.{WalkContinue}
use Rattle.plir_walk.specs.declared.limit.CallLimit.{CallLimit}
use Rattle.plir_walk.specs.declared.config.WalkConfig.{WalkConfig}
use Rattle.plir_walk.specs.Calls.{Advancing, CallsBack}
use Rattle.plir_walk.specs.Lawful.{Lawful}
use Rattle.plir_walk.specs.LawfulChanges.{LawfulChanges}
use Rattle.plir_walk.specs.Thinned.{IsThinned, IsOfKinds, IsThinnedOf, IsThinnedBelow}
use Rattle.plir_walk.specs.Walked.{Walked}
use Rattle.plir_walk.specs.WalkLaws.{holds_over_walk, walk-lasts}

-- nodes are freed, and then others
freed-append : {O B : Type 0} (s : Nodes O B) (ns ms : List IRNode)
    → without_nodes s (ns ++ ms) ≡ without_nodes (without_nodes s ns) ms
freed-append s [] ms = refl
freed-append s (n ∷ ns) ms = freed-append (without_node s n) ns ms

module _ {K A T : Type 0} where
  -- nothing is gone
  pub thinned-none : (s : ContextView K A T) → IsForest (look s) → IsThinned s s
  thinned-none s w = record {
    gone = [];
    after = refl;
    count = omega arith;
    old = λ n l. l;
    children = λ n l. sym (filter-all (is_live s) (children s n) (λ x h. w.child_live n x h));
    parents = λ n l. refl;
    ops = λ p l. refl;
    blocks = λ p l. refl;
    types = refl;
    limit = refl;
    given = λ n. refl;
  }

  -- without nodes that were freed one after another
  abbrev without : ContextView K A T → List IRNode → ContextView K A T
  without s ns = record s { nodes = without_nodes s.nodes ns }

  after-both : (s t u : ContextView K A T) (ns ms : List IRNode) → t ≡ without s ns → u ≡ without t ms
      → u ≡ without s (ns ++ ms)
  after-both s t u ns ms e f =
      f ∙ ap (λ (z : ContextView K A T). without z ms) e
      ∙ ap (λ (z : Nodes (OpView K A) (BlockView A)). record s { nodes = z }) (sym (freed-append s.nodes ns ms))

  -- some are, and then others
  pub thinned-both : (s t u : ContextView K A T) → IsThinned s t → IsThinned t u → IsThinned s u
  thinned-both s t u f g = record {
    gone = f.gone ++ g.gone;
    after = after-both s t u f.gone g.gone f.after g.after;
    count = omega (arith, f.count, g.count, length-append f.gone g.gone);
    old = λ n l. f.old n (g.old n l);
    children = λ n l. g.children n l ∙ ap (filter (is_live u)) (f.children n (g.old n l)) ∙ filter-twice (is_live t)
        (is_live u) (λ x k. g.old x k) (children s n);
    parents = λ n l. g.parents n l ∙ f.parents n (g.old n l);
    ops = λ p l. g.ops p l ∙ f.ops p (g.old (Operation p) l);
    blocks = λ p l. g.blocks p l ∙ f.blocks p (g.old (BasicBlock p) l);
    types = g.types ∙ f.types;
    limit = g.limit ∙ f.limit;
    given = λ n. g.given n ∙ f.given n;
  }

  -- The same, where operations of some kinds are gone.
  module _ (kinds : Option (OpKind K) → Bool) where
    -- an operation that stays holds what it held, and so is of the kind that it was of
    of-kinds-before : (s t : ContextView K A T) → IsThinned s t → (n : IRNode) → IsLive t n → IsOfKinds kinds t n →
        IsOfKinds kinds s n
    of-kinds-before s t f n l k = (
      k.0,
      k.1,
      subst (λ o. kinds (kind_in o) ≡ true) (f.ops k.0 (subst (IsLive t) k.1 l))
          k.2,
    )

    pub kinds-both : (s t u : ContextView K A T) → IsThinnedOf kinds s t → IsThinnedOf kinds t u → IsThinnedOf kinds s u
    kinds-both s t u f g = record {
      thinned = thinned-both s t u f.thinned g.thinned;
      stays = λ n l no. (let m = f.stays n l no in g.stays n m (λ k. no (of-kinds-before s t f.thinned n m k)));
    }

    -- A walk whose calls thin what stands below their nodes has thinned what stands below its root.
    pub thinned_over_walk : {F S : Type 0} {w : WalkConfig} {c c' : ContextView K A T} {s s' : S} {r : IRNode}
        {limit : ℕ} {answer : Result (ControlFlow (Unit {0}) WalkContinue) CallLimit} {f : F}
        {g : Shared F (MutBor (ContextView K A T) × (MutBor S × (IRNode × Unit {0})))
        (Unit {0} × (MutBor (ContextView K A T) × (MutBor S × Unit {0})))}
        {own : A → List ℕ} → LawfulChanges K A T own → IsForest (look c) → IsLive c r
        → Walked look w (Advancing (CallsBack g f)) c s r limit answer c' s'
        → ((d d' : MutBor (ContextView K A T)) (t t' : MutBor S) (n : IRNode)
        → g.post f (d, (t, (n, tt))) (tt, (d', (t', tt))) → IsThinnedBelow kinds n d.now d'.now)
        → IsThinnedBelow kinds r c c'
    thinned_over_walk {S} {c} {c'} {s} {s'} {r} {f} {g} {own} laws forest live walked each = record {
      thinned =
          holds_over_walk (IsThinnedOf kinds c) walked
          (λ d d' t t' n m h. kinds-both c d.now d'.now h (each d d' t t' n m).thinned)
          (record { thinned = thinned-none c forest; stays = λ m l no. l });
      lawful = (walk-lasts own laws (Advancing (CallsBack g f)) r lawful c c' s s' walked.calls forest live
          walked.chain).2;
      forest = forest;
    }
      where
        lawful : (d : ContextView K A T) (t : S) (n : IRNode) (a : ControlFlow (Unit {0}) WalkContinue)
            (d' : ContextView K A T) (t' : S) → Advancing (CallsBack g f) d t n a d' t' → Lawful (look d) n (look d')
        lawful d t n a d' t' p =
            let b = p.1 in
            subst (λ z. Lawful (look z) n (look d')) b.shows.0
            (subst (λ z. Lawful (look b.context.now) n (look z)) b.leaves.0
            (each b.context b.context_left b.state b.state_left n b.met).lawful)
