-- The loop over the symbols of a body, and the loop of rounds.
use Rattle.std.proofs.Common.{◌≡◌, ◌<◌, ◌≤◌, suc, arith, Bool, true, false, List, [], ◌∷◌, ◌++◌, length, Option}
use Rattle.std.proofs.Common.{Some, None, option_map, inl, inr, refl, sym, ap, subst, ◌∙◌}
use Rattle.std.proofs.lemmas.List.{append_assoc, append-nil}
use Rattle.plir_store.specs.Members.{Has, Distinct, head}
use Rattle.plir_store.specs.MemberLaws.{Has-append_cases, Has-mid}
use Rattle.plir_store.specs.FilterLaws.{not-both}
use Rattle.plir_core.specs.declared.ptr.Ptr.{Ptr}
use Rattle.plir_core.specs.declared.ptr.Operation.{Operation as OperationKind}
use Rattle.plir_core.specs.declared.ptr.BasicBlock.{BasicBlock as BasicBlockKind}
use Rattle.plir_core.specs.declared.ptr.IRNode.{IRNode}
use Rattle.plir_core.specs.declared.ptr.IRNode.TheVariants.{Operation, BasicBlock}
use Rattle.plir_core.specs.Contents.{OpView}
use Rattle.plir_core.specs.ContextView.{ContextView, IsLive, children, num_live, parent_of}
use Rattle.plir_core.specs.Standing.{IsStanding}
use Rattle.plir_walk.specs.Thinned.{IsThinned, ErasuresThin}
use Rattle.plir_walk.specs.NodeLaws.{left_from, same-op, left-cut, headed, ended, fewer-erased}
use Rattle.plir_builtin.specs.Table.{Table}
use Rattle.plir_builtin.specs.Symbols.{body}
use Rattle.plir_symbols.specs.DeadSymbols.{MayGo}
use Rattle.plir_symbols.specs.SweptSymbols.{AreSwept, ops_that, without_each}
use Rattle.plir_symbols.specs.Sweeping.{IsTableKept, IsSweptAt, IsRound}
use Rattle.plir_symbols.proofs.Bodies.{live-still, body-still}
use Rattle.plir_symbols.proofs.Erasing.{swept-none, swept-one, kept-none, kept-both, next-erased, next-kept}
use Rattle.plir_symbols.proofs.Thinning.{goes-still}

module _ {K A T : Type 0} (own own_table : K → Bool) (is_private : OpView K A → Bool)
    (goes : Ptr OperationKind → Bool) where
  -- From the start of the loop in s to s', those symbols of the body b before `at` were erased that go.
  pub record IsSweeping (s : ContextView K A T) (c : Table) (b : Ptr BasicBlockKind) (s' : ContextView K A T)
      (c' : Table) (erased : Bool) (at : Option (Ptr OperationKind)) : Type 0 where
    pub swept : AreSwept own is_private s s'
    pub kept : IsTableKept own own_table s c s' c'
    pub standing : IsStanding s'
    pub live : IsLive s' (Operation c.op)
    pub at_body : body s' c.op ≡ Some (BasicBlock b)
    pub passed : List IRNode
    pub front : List IRNode
    pub back : List IRNode
    pub cut : children s (BasicBlock b) ≡ passed ++ back
    pub split : children s' (BasicBlock b) ≡ front ++ back
    pub here : option_map Operation at ≡ head back
    pub after : s' ≡ without_each s (ops_that goes passed)
    pub clear : erased ≡ false → (s' ≡ s) × (c' ≡ c) ×
        ((p : Ptr OperationKind) → Has passed (Operation p) → goes p ≡ false)
    pub fewer : num_live s' ≤ num_live s
    pub set : erased ≡ true → num_live s' < num_live s

module _ {K A T : Type 0} {own own_table : K → Bool} {is_private : OpView K A → Bool}
    {goes : Ptr OperationKind → Bool} where
  pub sweeping-start : {s : ContextView K A T} {c : Table} {b : Ptr BasicBlockKind}
      {at : Option (Ptr OperationKind)} → IsThinned s s → IsStanding s → IsLive s (Operation c.op)
      → body s c.op ≡ Some (BasicBlock b)
      → option_map Operation at ≡ head (children s (BasicBlock b))
      → IsSweeping own own_table is_private goes s c b s c false at
  sweeping-start {s} {c} {b} {at} thin w l e first = record {
    swept = swept-none own is_private s thin;
    kept = kept-none own own_table s c;
    standing = w;
    live = l;
    at_body = e;
    passed = [];
    front = [];
    back = children s (BasicBlock b);
    cut = refl;
    split = refl;
    here = first;
    after = refl;
    clear = λ f. (refl, refl, λ p h. absurd h);
    fewer = omega arith;
    set = λ f. (let z : ⊥ = cc f in absurd z);
  }

  module _ {s : ContextView K A T} {c : Table} {b : Ptr BasicBlockKind} {s' : ContextView K A T}
      {c' : Table} {erased : Bool} {at : Option (Ptr OperationKind)}
      (r : IsSweeping own own_table is_private goes s c b s' c' erased at) where
    pub sweeping-table : IsLive s' (Operation c'.op)
    sweeping-table = subst (λ q. IsLive s' (Operation q)) (sym r.kept.op) r.live

    pub sweeping-body : body s' c'.op ≡ Some (BasicBlock b)
    sweeping-body = ap (λ q. body s' q) r.kept.op ∙ r.at_body

    pub sweeping-end : at ≡ None → IsRound own own_table is_private s c b goes erased s' c'
    sweeping-end none =
        let all : children s (BasicBlock b) ≡ r.passed =
        r.cut ∙ ap (λ z. r.passed ++ z) (ended r.back (ap (option_map Operation) (sym none) ∙ r.here))
        ∙ append-nil r.passed in
        record {
          swept = r.swept;
          after = r.after ∙ ap (λ z. without_each s (ops_that goes z)) (sym all);
          kept = r.kept;
          standing = r.standing;
          live = r.live;
          body = r.at_body;
          clear = λ f.
              (let k = r.clear f in
              (k.0, k.1, λ p h. k.2 p (subst (λ z. Has z (Operation p)) all h)));
          set = r.set;
        }

    module _ (op : Ptr OperationKind) (is : at ≡ Some op) where
      pub rest : (ys : List IRNode) × (r.back ≡ Operation op ∷ ys)
      rest = headed r.back op (ap (option_map Operation) (sym is) ∙ r.here)

      pub sweeping-cut : children s' (BasicBlock b) ≡ r.front ++ Operation op ∷ rest.0
      sweeping-cut = r.split ∙ ap (λ z. r.front ++ z) rest.1

      has : Has (children s' (BasicBlock b)) (Operation op)
      has = subst (λ z. Has z (Operation op)) (sym sweeping-cut) (Has-mid r.front rest.0 (Operation op))

      had : Has (children s (BasicBlock b)) (Operation op)
      had = subst (λ z. Has z (Operation op)) (sym (r.cut ∙ ap (λ z. r.passed ++ z) rest.1))
          (Has-mid r.passed rest.0 (Operation op))

      pub sweeping-live : IsLive s' (Operation op)
      sweeping-live = r.standing.forest.child_live (BasicBlock b) (Operation op) has

      parent : parent_of s' (Operation op) ≡ Some (BasicBlock b)
      parent = r.standing.forest.child_parent (BasicBlock b) (Operation op) has

      pub sweeping-here : parent_of s' (Operation op) ≡ body s' c'.op
      sweeping-here = parent ∙ sym sweeping-body

      -- what could go at the start can
      pub sweeping-goes : MayGo own is_private s op → MayGo own is_private s' op
      sweeping-goes m =
          goes-still s s' r.standing.forest r.swept.thinned op sweeping-live own is_private m

      pub sweeping-had : Has (children s (BasicBlock b)) (Operation op)
      sweeping-had = had

      module _ (may_go : goes op ≡ true → MayGo own is_private s op) (laws : ErasuresThin s) (t : ContextView K A T)
          (d : Table) (erased' : Bool) (next : Option (Ptr OperationKind)) (wt : IsStanding t)
          (after : option_map Operation next ≡ head rest.0)
          (f : IsSweptAt own own_table s' c' (goes op) erased op erased' t d) where
        cut-on : children s (BasicBlock b) ≡ (r.passed ++ Operation op ∷ []) ++ rest.0
        cut-on = r.cut ∙ ap (λ z. r.passed ++ z) rest.1 ∙ sym (append_assoc r.passed (Operation op ∷ []) rest.0)

        pub sweeping-more : IsSweeping own own_table is_private goes s c b t d erased' next
        sweeping-more = elim f as (λ z. IsSweeping own own_table is_private goes s c b t d erased' next) [
          | inl g ↦
              let less = fewer-erased s' t (Operation op) g.2.tree in
              record {
                swept =
                    swept-one own is_private s s' t op r.swept (sweeping-goes (may_go g.0)) g.2.after
                    (laws.both s s' t r.swept.thinned g.2.thinned);
                kept = kept-both own own_table s s' t c c' d r.kept g.2.kept;
                standing = wt;
                live = live-still s' t r.standing c.op op b r.at_body parent g.2.tree r.live;
                at_body = body-still s' t r.standing c.op op b r.at_body parent g.2.tree;
                passed = r.passed ++ Operation op ∷ [];
                front = r.front;
                back = rest.0;
                cut = cut-on;
                split = g.2.tree.children_over (BasicBlock b) r.front rest.0 sweeping-cut;
                here = after;
                after = next-erased s s' t goes r.passed op r.after g.0 g.2.after;
                clear = λ f. absurd (not-both erased' g.1 f);
                fewer = (let had = r.fewer in omega (arith, less, had));
                set = λ f. (let had = r.fewer in omega (arith, less, had));
              }
          | inr g ↦
              subst (λ z. IsSweeping own own_table is_private goes s c b z d erased' next) (sym g.2)
              (subst (λ z. IsSweeping own own_table is_private goes s c b s' z erased' next) (sym g.3)
              (subst (λ z. IsSweeping own own_table is_private goes s c b s' c' z next) (sym g.1) (record {
                swept = r.swept;
                kept = r.kept;
                standing = r.standing;
                live = r.live;
                at_body = r.at_body;
                passed = r.passed ++ Operation op ∷ [];
                front = r.front ++ Operation op ∷ [];
                back = rest.0;
                cut = cut-on;
                split = sweeping-cut ∙ sym (append_assoc r.front (Operation op ∷ []) rest.0);
                here = after;
                after = next-kept s s' s' goes r.passed op r.after g.0 refl;
                clear = λ f.
                    (let k = r.clear f in (
                      k.0,
                      k.1,
                      λ p h. elim (Has-append_cases r.passed (Operation op ∷ []) (Operation p) h) [
                        | inl i ↦ k.2 p i
                        | inr i ↦ elim i [
                          | inl same ↦ subst (λ z. goes z ≡ false) (same-op op p same) g.0
                          | inr none ↦ absurd none
                        ]
                      ],
                    ));
                fewer = r.fewer;
                set = r.set;
              })))
        ]

        recut : (xs : List IRNode) × (children t (BasicBlock b) ≡ xs ++ rest.0)
        recut = elim f as (λ z. (xs : List IRNode) × (children t (BasicBlock b) ≡ xs ++ rest.0)) [
          | inl g ↦ (r.front, g.2.tree.children_over (BasicBlock b) r.front rest.0 sweeping-cut)
          | inr g ↦ (
            r.front ++ Operation op ∷ [],
            ap (λ z. children z (BasicBlock b)) g.2 ∙ sweeping-cut
                ∙ sym (append_assoc r.front (Operation op ∷ []) rest.0),
          )
        ]

        pub sweeping-falls : left_from (children t (BasicBlock b)) next < left_from (children s' (BasicBlock b)) at
        sweeping-falls = go next after
          where
            before : left_from (children s' (BasicBlock b)) at ≡ suc (length rest.0)
            before =
                ap (left_from (children s' (BasicBlock b))) is ∙ ap (λ z. left_from z (Some op)) sweeping-cut
                ∙ left-cut r.front rest.0 op (subst Distinct sweeping-cut (r.standing.forest.once (BasicBlock b)))

            go : (o : Option (Ptr OperationKind)) → option_map Operation o ≡ head rest.0
                → left_from (children t (BasicBlock b)) o < left_from (children s' (BasicBlock b)) at
            go None e = omega (arith, before)
            go (Some q) e =
                let y = headed rest.0 q e in
                let k = recut.1 ∙ ap (λ z. recut.0 ++ z) y.1 in
                let now =
                ap (λ z. left_from z (Some q)) k
                ∙ left-cut recut.0 y.0 q (subst Distinct k (wt.forest.once (BasicBlock b))) in
                omega (arith, before, now, ap length y.1)
