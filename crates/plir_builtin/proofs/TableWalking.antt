-- From a walk at all nodes to the operations that were called.
use Rattle.std.proofs.Common.{◌≡◌, suc, Bool, Some, true, false, List, [], ◌∷◌, ◌++◌, inl, inr, refl, sym, ap, subst}
use Rattle.std.proofs.Common.{◌∙◌}
use Rattle.std.specs.declared.ops.ControlFlow.{ControlFlow}
use Rattle.std.specs.declared.ops.ControlFlow.TheVariants.{Continue, Break}
use Rattle.plir_core.specs.declared.ptr.Ptr.{Ptr}
use Rattle.plir_core.specs.declared.ptr.Operation.{Operation as OperationKind}
use Rattle.plir_core.specs.declared.ptr.Region.{Region as RegionKind}
use Rattle.plir_core.specs.declared.ptr.IRNode.{IRNode}
use Rattle.plir_core.specs.declared.ptr.IRNode.TheVariants.{Operation, Region}
use Rattle.plir_core.specs.Forest.{Shape}
use Rattle.plir_walk.specs.Lawful.{StandsUnder}
use Rattle.plir_store.specs.Members.{Has}
use Rattle.plir_walk.specs.declared.config.TheConstants.{WALKCONFIG_PREORDER_FORWARD as pre_forward}
use Rattle.plir_walk.specs.declared.interruptible.WalkContinue.{WalkContinue}
use Rattle.plir_walk.specs.Config.{AllPre}
use Rattle.plir_walk.specs.Tree.{Tree, IsUnder, IsProperlyUnder, NodeBefore}
use Rattle.plir_walk.specs.TreeLaws.{pre-order, properly-trans, properly-under, under-cases}
use Rattle.plir_walk.specs.TreeLaws.{node-before-more, node-before-own}
use Rattle.plir_walk.specs.Calls.{Call, Relation, nodes_of, NoBreak}
use Rattle.plir_walk.specs.ShutOut.{IsSkipped}
use Rattle.plir_walk.specs.Walk.{InOrder, IsDue, IsDueUpTo, CallsAllDue, CallsUpToLast, Answers}
use Rattle.plir_walk.specs.Walked.{WalkedOver}
use Rattle.plir_builtin.specs.TableWalks.{OpRelation, PassesOn, IsDueInTable, CallsAllInTable, CallsTableUpToBreak}
use Rattle.plir_builtin.specs.TableWalks.{IsTableWalk, IsTableWalked}
use Rattle.plir_builtin.proofs.Bodies.{not_region_op}
use Rattle.plir_builtin.proofs.Seeking.{one-more}
use Rattle.plir_builtin.proofs.OperationCalls.{Kept, node-called, none-breaks, last-breaks, kept-has, has-kept}
use Rattle.plir_builtin.proofs.OperationCalls.{kept-pairs, kept-no_break, kept-last, skipped-below, skipped-above}
use Rattle.plir_builtin.proofs.OperationCalls.{table-called, filtered}

-- what stands under the one region of an operation stands under the operation
pub under-region : (s : Shape) (op : Ptr OperationKind) (r : Ptr RegionKind) (n : IRNode)
    → s.children (Operation op) ≡ Region r ∷ [] → StandsUnder s (Region r) n → StandsUnder s (Operation op) n
under-region s op r n e u = record {
  forest = u.forest;
  live = u.live;
  under_root = (
    suc u.under_root.0,
    one-more s.parent u.under_root.0 (Some n) (Region r) u.under_root.1
        ∙ u.forest.child_parent (Operation op) (Region r) (subst (λ z. Has z (Region r)) (sym e) (inl refl)),
  );
}

all-pre : AllPre pre_forward
all-pre = (refl, refl, refl)

true_not_false : true ≡ false → ⊥
true_not_false e = cc

not_true : (b : Bool) → (b ≡ true → ⊥) → b ≡ false
not_true true h = absurd (h refl)
not_true false h = refl

module _ {C S B : Type 0} (is_table : Ptr OperationKind → Bool) (t : Tree) (reg : Ptr RegionKind)
    (xs hs : List (Call C S B)) (k : Kept is_table xs hs) (order : InOrder pre_forward t (Region reg) xs) where
  op-under : (p : Ptr OperationKind) → IsUnder t (Region reg) (Operation p)
      → IsProperlyUnder t (Region reg) (Operation p)
  op-under p u =
      elim (under-cases t (Region reg) (Operation p) u) [ inl e ↦ absurd (not_region_op p reg (sym e)) | inr h ↦ h ]

  -- what is due was due
  due-from : (p : Ptr OperationKind) → IsDueInTable is_table t (Region reg) hs p
      → IsDue pre_forward t (Region reg) xs (Operation p)
  due-from p h = (
    properly-under t (Region reg) (Operation p) h.below,
    λ o. elim (skipped-above is_table xs hs k o.ancestor o.skipped) [
      | inl q ↦ true_not_false (sym q.2 ∙ h.no_table q.0
          (op-under q.0 (subst (λ z. IsUnder t (Region reg) z) q.1 o.under_root))
          (subst (λ z. IsProperlyUnder t z (Operation p)) q.1 o.above))
      | inr s ↦ h.no_skip o.ancestor s o.above
    ],
  )

  -- an operation that was due is due, where each table above it was skipped
  hand-from : (p : Ptr OperationKind) → IsDue pre_forward t (Region reg) xs (Operation p)
      → ((q : Ptr OperationKind) → IsUnder t (Region reg) (Operation q) → IsProperlyUnder t (Operation q) (Operation p)
      → is_table q ≡ true → IsSkipped xs (Operation q))
      → IsDueInTable is_table t (Region reg) hs p
  hand-from p d tables = record {
    below = op-under p d.0;
    no_table = λ q u v. not_true (is_table q) (λ e. d.1 (record {
      ancestor = Operation q;
      under_root = properly-under t (Region reg) (Operation q) u;
      above = v;
      order = pre-order pre_forward all-pre (Operation q);
      skipped = tables q (properly-under t (Region reg) (Operation q) u) v e;
    }));
    no_skip = λ a s v. let z = skipped-below is_table xs hs k a s in d.1 (record {
      ancestor = a;
      under_root = order.under_root a (subst (λ m. Has (nodes_of xs) m) z.2 (node-called xs z.0 z.1));
      above = v;
      order = pre-order pre_forward all-pre a;
      skipped = z;
    });
  }

  -- what is above a due node is due
  due-above : (a n : IRNode) → IsDue pre_forward t (Region reg) xs n → IsUnder t (Region reg) a → IsProperlyUnder t a n
      → IsDue pre_forward t (Region reg) xs a
  due-above a n d u v = (
    u,
    λ o. d.1 (record {
      ancestor = o.ancestor;
      under_root = o.under_root;
      above = properly-trans t o.ancestor a n o.above v;
      order = o.order;
      skipped = o.skipped;
    }),
  )

  hands-all : NoBreak xs → CallsAllDue pre_forward t (Region reg) (IsDue pre_forward t (Region reg)) xs → CallsAllInTable is_table t (Region reg) hs
  hands-all none all p = (
    λ i. let d = (all (Operation p)).0 (kept-has is_table xs hs k (Operation p) i) in
        hand-from p d (λ q u v e. elim (table-called is_table xs hs k q
        ((all (Operation q)).1 (due-above (Operation q) (Operation p) d u v)) e) [
          | inl s ↦ s
          | inr x ↦ absurd (none-breaks xs none x.0 x.1 x.3.0 x.3.1)
        ]),
    λ h. has-kept is_table xs hs k p ((all (Operation p)).1 (due-from p h)),
  )

  module _ (front : List (Call C S B)) (x : Call C S B) (b : B) (are : xs ≡ front ++ x ∷ [])
      (broke : x.answer ≡ Break b) (none : NoBreak front) (upto : CallsUpToLast pre_forward t (Region reg)
      (IsDue pre_forward t (Region reg)) xs xs) where
    tables-skipped : (p : Ptr OperationKind) → IsDueUpTo pre_forward t (Region reg)
        (IsDue pre_forward t (Region reg)) xs x.node (Operation p)
        → (q : Ptr OperationKind) → IsUnder t (Region reg) (Operation q) → IsProperlyUnder t (Operation q) (Operation p)
        → is_table q ≡ true → IsSkipped xs (Operation q)
    tables-skipped p d q u v e =
        elim (table-called is_table xs hs k q ((upto front x are (Operation q)).1 (
          due-above (Operation q) (Operation p) d.0 u v,
          λ y. d.1 (node-before-more pre_forward all-pre t (Region reg) x.node (Operation q) (Operation p) y v),
        )) e) [
          | inl s ↦ s
          | inr y ↦ absurd (d.1 (subst (λ z. NodeBefore pre_forward t (Region reg) z (Operation p))
              (sym (ap (λ z. z.node) (last-breaks front x none y.0 (subst (λ z. Has z y.0) are y.1) y.3.0 y.3.1) ∙ y.2))
              (node-before-own pre_forward all-pre t (Region reg) (Operation q) (Operation p) u v)))
        ]

    hands-to : CallsTableUpToBreak is_table t (Region reg) hs b
    hands-to =
        let l = kept-last is_table front x b hs (subst (λ z. Kept is_table z hs) are k) broke none in
        record {
          front = l.front;
          end = l.end;
          are = l.are;
          broke = l.broke;
          none_before = l.none_before;
          exactly = λ p. (
            λ i. let d = (upto front x are (Operation p)).0 (kept-has is_table xs hs k (Operation p) i) in (
              hand-from p d.0 (tables-skipped p d),
              λ y. d.1 (subst (λ z. NodeBefore pre_forward t (Region reg) z (Operation p)) l.node y),
            ),
            λ h. has-kept is_table xs hs k p ((upto front x are (Operation p)).1 (
              due-from p h.0,
              λ y. h.1 (subst (λ z. NodeBefore pre_forward t (Region reg) z (Operation p)) (sym l.node) y),
            )),
          );
        }

  pub handing : (a : ControlFlow B WalkContinue) → Answers pre_forward t (Region reg) xs a
      → IsTableWalk is_table t (Region reg) hs a
  handing (Continue m) h = record {
    one_place = order.one_place;
    increasing = kept-pairs is_table (NodeBefore pre_forward t (Region reg)) xs hs k order.increasing;
    answers = (h.0, kept-no_break is_table xs hs k h.1, hands-all h.1 h.2);
  }
  handing (Break b) h = record {
    one_place = order.one_place;
    increasing = kept-pairs is_table (NodeBefore pre_forward t (Region reg)) xs hs k order.increasing;
    answers = hands-to h.0.0 h.0.1 b h.0.2 h.0.3 h.0.4 h.1;
  }

-- a call of the closure, as one of the walk
pub passes-again : {C S B : Type 0} (is_table : C → Ptr OperationKind → Bool) (post : OpRelation C S B) (n : IRNode)
    (a : ControlFlow B WalkContinue) {d d' e : C} {s s' u u' : S}
    → d' ≡ d → (e ≡ d) × (u ≡ s) → u' ≡ s' → PassesOn is_table post e u n a e u'
    → (d' ≡ d) × PassesOn is_table post d s n a d' s'
passes-again is_table post n a {d} {d'} {e} {s} {s'} {u} {u'} stays shows leaves q = (
  stays,
  subst (λ z. PassesOn is_table post d s n a z s') (sym stays)
      (subst (λ z. PassesOn is_table post z s n a z s') shows.0
      (subst (λ z. PassesOn is_table post e z n a e s') shows.1
      (subst (λ z. PassesOn is_table post e u n a e z) leaves q))),
)

pub handed-over : {C S B : Type 0} (look : C → Shape) (is_table : C → Ptr OperationKind → Bool)
    (post : OpRelation C S B) (from : Relation C S B)
    → ((c : C) (s : S) (n : IRNode) (a : ControlFlow B WalkContinue) (c' : C) (s' : S) → from c s n a c' s'
    → (c' ≡ c) × PassesOn is_table post c s n a c' s')
    → (c : C) (s : S) (op : Ptr OperationKind) (reg : Ptr RegionKind) (a : ControlFlow B WalkContinue) (s' : S)
    → (look c).children (Operation op) ≡ Region reg ∷ [] → WalkedOver look pre_forward from c s (Region reg) a s'
    → IsTableWalked look is_table post c s op a s'
handed-over look is_table post from passes c s op reg a s' e w =
    let f = filtered look (Region reg) is_table post from passes c w.calls c s c s' refl w.chain in
    record {
      region = reg;
      one_region = e;
      calls = f.calls;
      chain = f.chain;
      handing = handing (is_table c) (look c).children reg w.calls f.calls f.kept w.walk.in_order a w.walk.answers;
    }
