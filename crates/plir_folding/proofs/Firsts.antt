-- The first constants among nodes, and what is to be merged among them: where one node more is looked at.
use Rattle.std.proofs.Common.{◌≡◌, true, false, cond, List, [], ◌∷◌, ◌++◌, length, Option, Some, None, ◌⊎◌}
use Rattle.std.proofs.Common.{inl, inr, refl, sym, ap, subst, ◌∙◌, append_assoc, arith}
use Rattle.std.specs.Prelude.{◌≢◌}
use Rattle.std.specs.HashMap.{HashMap, get}
use Rattle.std.specs.Map.{lookup}
use Rattle.std.proofs.lemmas.Bool.Decides.{eqb_tells}
use Rattle.std.proofs.lemmas.Option.{none-some, same_Some}
use Rattle.std.proofs.lemmas.List.{length-append}
use Rattle.plir_store.specs.Members.{Has}
use Rattle.plir_store.specs.MemberLaws.{Has-append_cases, Has-append_left, Has-append_right, Has-mid}
use Rattle.plir_data.specs.declared.plain_attrs.IntegerAttr.{IntegerAttr}
use Rattle.plir_core.specs.declared.ptr.Ptr.{Ptr}
use Rattle.plir_core.specs.declared.ptr.Operation.{Operation as OperationKind}
use Rattle.plir_core.specs.declared.ptr.IRNode.{IRNode}
use Rattle.plir_core.specs.declared.ptr.IRNode.TheVariants.{Operation, BasicBlock}
use Rattle.plir_core.specs.declared.value.Value.{Value}
use Rattle.plir_core.specs.declared.value.DefiningEntity.TheVariants.{Op}
use Rattle.plir_core.specs.Contents.{OpView}
use Rattle.plir_core.specs.Forest.{look, IsForest}
use Rattle.plir_core.specs.ContextView.{ContextView, children, parent_of, results_in}
use Rattle.plir_core.specs.ValueUses.{HasUses}
use Rattle.plir_walk.specs.NodeLaws.{same-op}
use Rattle.plir_folding.specs.declared.merging.Merge.{Merge}
use Rattle.plir_folding.specs.Worth.{Integer, constant_by, constant_in, integer_of}
use Rattle.plir_folding.specs.Folded.{result_of}
use Rattle.plir_folding.specs.Merged.{integer_at, typed_constant, IsFirstAmong, IsOfFirst, IsOfFirstBelow}
use Rattle.plir_folding.specs.Merging.{attr_eq, AreFirsts, AreListed, IsFirstOrNone, IsMerge}
use Rattle.plir_folding.proofs.Worths.{of-type-is, of-type-known}

-- attributes are the same where their integers are
pub attr-tells : (a b : IntegerAttr) → ((attr_eq a b ≡ true) × (integer_of a ≡ integer_of b)) ⊎
    ((attr_eq a b ≡ false) × (integer_of a ≢ integer_of b))
attr-tells a b = elim (eqb_tells a.ty b.ty) [
  | inl t ↦ elim (eqb_tells a.value.width b.value.width) [
    | inl w ↦ elim (eqb_tells a.value.bits b.value.bits) [
      | inl d ↦ inl (
        (let x = t.0 in let y = w.0 in let z = d.0 in rw (x, y, z) refl),
        λ i. record { type = t.1 i; width = w.1 i; bits = d.1 i },
      )
      | inr d ↦ inr (
        (let x = t.0 in let y = w.0 in let z = d.0 in rw (x, y, z) refl),
        λ e. d.1 (ap (λ n. n.bits) e),
      )
    ]
    | inr w ↦ inr ((let x = t.0 in let y = w.0 in rw (x, y) refl), λ e. w.1 (ap (λ n. n.width) e))
  ]
  | inr t ↦ inr ((let x = t.0 in rw x refl), λ e. t.1 (ap (λ n. n.type) e))
]

-- what counts as a constant is one, and has one result, of its integer's type
pub constant-apart : {K A : Type 0} (o : Option (OpView K A)) (n : Integer) → typed_constant o ≡ Some n
    → (constant_in o ≡ Some n) × (results_in o ≡ n.type ∷ [])
constant-apart None n e = absurd (none-some n e)
constant-apart (Some o) n e =
    let c = constant_by o.kind o.attributes in
    (of-type-known o.result_types c n e, of-type-is o.result_types c n e)

-- an operation is told by its first result
pub same-result : (p q : Ptr OperationKind) → result_of p ≡ result_of q → p ≡ q
same-result p q e = (let f : Op p ≡ Op q = ap (λ v. v.entity) e in cc f)

-- where two operations part a list, and neither stands in front of the other one, they are the same
parted : (xs ys xs' ys' : List IRNode) (p q : Ptr OperationKind) → xs ++ Operation p ∷ ys ≡ xs' ++ Operation q ∷ ys'
    → (Has xs (Operation q) → ⊥) → (Has xs' (Operation p) → ⊥) → p ≡ q
parted [] ys [] ys' p q e n m = (let h : Operation p ≡ Operation q = cc e in same-op p q h)
parted [] ys (x' ∷ xs') ys' p q e n m = absurd (m (inl (let h : x' ≡ Operation p = cc e in h)))
parted (x ∷ xs) ys [] ys' p q e n m = absurd (n (inl (let h : x ≡ Operation q = cc e in h)))
parted (x ∷ xs) ys (x' ∷ xs') ys' p q e n m =
    parted xs ys xs' ys' p q (let h : xs ++ Operation p ∷ ys ≡ xs' ++ Operation q ∷ ys' = cc e in h)
    (λ h. n (inr h)) (λ h. m (inr h))

-- what parts a list with one element more at its end is that, or parts the list
cut-short : (xs ys zs : List IRNode) (a b : IRNode) → xs ++ a ∷ [] ≡ ys ++ b ∷ zs
    → ((ws : List IRNode) × (xs ≡ ys ++ b ∷ ws)) ⊎ (ys ≡ xs)
cut-short [] [] zs a b e = inr refl
cut-short [] (y ∷ ys) zs a b e =
    (let h = ap length e in let k = length-append ys (b ∷ zs) in absurd (omega (arith, h, k)))
cut-short (x ∷ xs) [] zs a b e = inl (xs, (let h : x ≡ b = cc e in ap (λ z. z ∷ xs) h))
cut-short (x ∷ xs) (y ∷ ys) zs a b e =
    let same : x ≡ y = cc e in
    let rest : xs ++ a ∷ [] ≡ ys ++ b ∷ zs = cc e in
    elim (cut-short xs ys zs a b rest) [
      | inl c ↦ (let g = c.1 in inl (c.0, let z : x ∷ xs ≡ y ∷ (ys ++ b ∷ c.0) = cc (same, g) in z))
      | inr f ↦ inr (let z : y ∷ ys ≡ x ∷ xs = cc (same, f) in z)
    ]

module _ {K A T : Type 0} (s : ContextView K A T) where
  -- a node is a constant of one integer at most
  same-worth : (x : IRNode) (m n : Integer) → integer_at s x ≡ Some m → integer_at s x ≡ Some n → m ≡ n
  same-worth x m n e f = same_Some m n (sym e ∙ f)

  -- there is one first constant of an integer
  pub one-first : (ns : List IRNode) (n : Integer) (p q : Ptr OperationKind) → IsFirstAmong s ns n p
      → IsFirstAmong s ns n q → p ≡ q
  one-first ns n p q f g =
      parted f.before f.behind g.before g.behind p q (sym f.stands ∙ g.stands)
      (λ h. f.none (Operation q) h g.worth) (λ h. g.none (Operation p) h f.worth)

  pub first-has : (ns : List IRNode) (n : Integer) (p : Ptr OperationKind) → IsFirstAmong s ns n p → Has ns (Operation p)
  first-has ns n p f = subst (λ z. Has z (Operation p)) (sym f.stands) (Has-mid f.before f.behind (Operation p))

  -- it is the first one among more nodes
  first-more : (ns ms : List IRNode) (n : Integer) (p : Ptr OperationKind) → IsFirstAmong s ns n p
      → IsFirstAmong s (ns ++ ms) n p
  first-more ns ms n p f = record {
    before = f.before;
    behind = f.behind ++ ms;
    stands = ap (λ z. z ++ ms) f.stands ∙ append_assoc f.before (Operation p ∷ f.behind) ms;
    worth = f.worth;
    none = f.none;
  }

  -- the last node is the first one where no other is
  first-last : (ns : List IRNode) (n : Integer) (p : Ptr OperationKind)
      → ((x : IRNode) → Has ns x → integer_at s x ≡ Some n → ⊥)
      → integer_at s (Operation p) ≡ Some n → IsFirstAmong s (ns ++ Operation p ∷ []) n p
  first-last ns n p none worth = record {
    before = ns;
    behind = [];
    stands = refl;
    worth = worth;
    none = none;
  }

  -- and it is not where another one is
  first-short : (ns : List IRNode) (n : Integer) (p q : Ptr OperationKind) (x : IRNode) → Has ns x
      → integer_at s x ≡ Some n → IsFirstAmong s (ns ++ Operation p ∷ []) n q → IsFirstAmong s ns n q
  first-short ns n p q x has worth f =
      elim (cut-short ns f.before f.behind (Operation p) (Operation q) f.stands) [
        | inl c ↦ record { before = f.before; behind = c.0; stands = c.1; worth = f.worth; none = f.none }
        | inr e ↦ absurd (f.none x (subst (λ z. Has z x) (sym e) has) worth)
      ]

  -- the results of first constants are told by those of the others
  pub one-into : (ns : List IRNode) (v w x : Value) → IsOfFirst s ns v w → IsOfFirst s ns v x → w ≡ x
  one-into ns v w x f g =
      let c = same-result f.constant g.constant (sym f.value ∙ g.value) in
      let n =
      same-worth (Operation f.constant) f.integer g.integer f.worth
      (subst (λ p. integer_at s (Operation p) ≡ Some g.integer) (sym c) g.worth) in
      let q =
      one-first ns f.integer f.first g.first f.begins
      (subst (λ m. IsFirstAmong s ns m g.first) (sym n) g.begins) in
      f.result ∙ ap result_of q ∙ sym g.result

  -- and the first one of a first one is that itself
  pub first-itself : (ns : List IRNode) (v w : Value) → IsOfFirst s ns v w → IsOfFirst s ns w w
  first-itself ns v w f = record {
    constant = f.first;
    first = f.first;
    integer = f.integer;
    value = f.result;
    result = f.result;
    among = first-has ns f.integer f.first f.begins;
    worth = f.begins.worth;
    begins = f.begins;
  }

  -- the same of the blocks below a node
  pub one-into-below : IsForest (look s) → (r : IRNode) (v w x : Value) → IsOfFirstBelow s r v w → IsOfFirstBelow s r v x
      → w ≡ x
  one-into-below forest r v w x f g =
      let p = f.1.1.constant in
      let q = g.1.1.constant in
      let same = same-result p q (sym f.1.1.value ∙ g.1.1.value) in
      let here = forest.child_parent (BasicBlock f.0) (Operation p) f.1.1.among in
      let there = forest.child_parent (BasicBlock g.0) (Operation q) g.1.1.among in
      let over : BasicBlock g.0 ≡ BasicBlock f.0 =
      same_Some (BasicBlock g.0) (BasicBlock f.0)
      (sym there ∙ ap (λ z. parent_of s (Operation z)) (sym same) ∙ here) in
      let block : g.0 ≡ f.0 = cc over in
      one-into (children s (BasicBlock f.0)) v w x f.1.1
      (subst (λ b. IsOfFirst s (children s (BasicBlock b)) v x) block g.1.1)

  -- ---- the map of first constants

  module _ (ns : List IRNode) (p : Ptr OperationKind) where
    abbrev more : List IRNode
    more = ns ++ Operation p ∷ []

    -- a node more, which is no constant of the integer
    firsts-step : (n : Integer) (o : Option Value) → (integer_at s (Operation p) ≡ Some n → ⊥)
        → IsFirstOrNone s ns n o → IsFirstOrNone s more n o
    firsts-step n None not h = λ x has e. elim (Has-append_cases ns (Operation p ∷ []) x has) [
      | inl i ↦ h x i e
      | inr (inl same) ↦ not (subst (λ z. integer_at s z ≡ Some n) (sym same) e)
      | inr (inr nay) ↦ nay
    ]
    firsts-step n (Some v) not h = (h.0, (h.1.0, first-more ns (Operation p ∷ []) n h.0 h.1.1))

    pub firsts-other : {S : Type 0} (m : HashMap IntegerAttr Value S) → None ≡ integer_at s (Operation p) → AreFirsts s ns m
        → AreFirsts s more m
    firsts-other m none h a =
        firsts-step (integer_of a) (get attr_eq m a) (λ e. none-some (integer_of a) (none ∙ e)) (h a)

    module _ (a : IntegerAttr) (worth : Some (integer_of a) ≡ integer_at s (Operation p)) where
      abbrev n : Integer
      n = integer_of a

      pub firsts-seen : {S : Type 0} (m : HashMap IntegerAttr Value S) (v : Value) → Some v ≡ get attr_eq m a → AreFirsts s ns m
          → AreFirsts s more m
      firsts-seen m v seen h b = go (get attr_eq m b) (h b)
        where
          first : IsFirstOrNone s ns n (Some v)
          first = subst (IsFirstOrNone s ns n) (sym seen) (h a)

          go : (o : Option Value) → IsFirstOrNone s ns (integer_of b) o → IsFirstOrNone s more (integer_of b) o
          go None k =
              firsts-step (integer_of b) None
              (λ e. k (Operation first.0) (first-has ns n first.0 first.1.1)
              (first.1.1.worth ∙ worth ∙ e)) k
          go (Some w) k = (k.0, (k.1.0, first-more ns (Operation p ∷ []) (integer_of b) k.0 k.1.1))

      pub firsts-put : {S : Type 0} (m m' : HashMap IntegerAttr Value S) (v : Value) → v ≡ result_of p → None ≡ get attr_eq m a
          → ((b : IntegerAttr) → get attr_eq m' b ≡ cond (attr_eq a b) (Some v) (get attr_eq m b)) → AreFirsts s ns m
          → AreFirsts s more m'
      firsts-put m m' v is none put h b = subst (IsFirstOrNone s more (integer_of b)) (sym (put b)) (
          elim (attr-tells a b) [
            | inl same ↦ subst (λ c. IsFirstOrNone s more (integer_of b) (cond c (Some v) (get attr_eq m b))) (sym same.0) (
              p,
              (
                is,
                subst (λ k. IsFirstAmong s more k p) same.1
                    (first-last ns n p (subst (IsFirstOrNone s ns n) (sym none) (h a)) (sym worth)),
              ),
            )
            | inr other ↦
                subst (λ c. IsFirstOrNone s more (integer_of b) (cond c (Some v) (get attr_eq m b))) (sym other.0)
                (firsts-step (integer_of b) (get attr_eq m b)
                (λ e. other.1 (same-worth (Operation p) n (integer_of b) (sym worth) e)) (h b))
          ]
          )

  pub firsts-empty : {S : Type 0} (m : HashMap IntegerAttr Value S) → m.entries ≡ [] → AreFirsts s [] m
  firsts-empty m e a =
      subst (IsFirstOrNone s [] (integer_of a)) (sym (ap (lookup (attr_eq a)) e)) (λ x h k. h)

  -- ---- what is to be merged

  pub listed-none : (ms : List Merge) → AreListed s [] ms ms
  listed-none ms = record { kept = λ m h. h; only = λ m h. inl h; all = λ m h. absurd h.of.among }

  module _ (ns : List IRNode) (p : Ptr OperationKind) (ms₀ ms : List Merge) (l : AreListed s ns ms₀ ms) where
    abbrev behind : List IRNode
    behind = ns ++ Operation p ∷ []

    merge-more : (m : Merge) → IsMerge s ns m → IsMerge s behind m
    merge-more m h = record {
      of = record {
        constant = h.of.constant;
        first = h.of.first;
        integer = h.of.integer;
        value = h.of.value;
        result = h.of.result;
        among = Has-append_left ns (Operation p ∷ []) (Operation h.of.constant) h.of.among;
        worth = h.of.worth;
        begins = first-more ns (Operation p ∷ []) h.of.integer h.of.first h.of.begins;
      };
      other = h.other;
      used = h.used;
    }

    -- what is to be merged is among the nodes before, or is the last one
    merge-cases : (m : Merge) → IsMerge s behind m → IsMerge s ns m ⊎ (m.from ≡ result_of p)
    merge-cases m h = elim (Has-append_cases ns (Operation p ∷ []) (Operation h.of.constant) h.of.among) [
      | inl i ↦ inl (record {
        of = record {
          constant = h.of.constant;
          first = h.of.first;
          integer = h.of.integer;
          value = h.of.value;
          result = h.of.result;
          among = i;
          worth = h.of.worth;
          begins =
              first-short ns h.of.integer p h.of.first (Operation h.of.constant) i h.of.worth h.of.begins;
        };
        other = h.other;
        used = h.used;
      })
      | inr (inl same) ↦ inr (h.of.value ∙ ap result_of (sym (same-op p h.of.constant same)))
      | inr (inr nay) ↦ absurd nay
    ]

    pub listed-same : ((m : Merge) → IsMerge s behind m → m.from ≡ result_of p → ⊥) → AreListed s behind ms₀ ms
    listed-same not = record {
      kept = l.kept;
      only = λ m h. elim (l.only m h) [ inl i ↦ inl i | inr k ↦ inr (merge-more m k) ];
      all = λ m h. elim (merge-cases m h) [ inl k ↦ l.all m k | inr e ↦ absurd (not m h e) ];
    }

    pub listed-put : (m : Merge) → IsMerge s behind m → m.from ≡ result_of p → AreListed s behind ms₀ (ms ++ m ∷ [])
    listed-put m is of = record {
      kept = λ x h. Has-append_left ms (m ∷ []) x (l.kept x h);
      only = λ x h. elim (Has-append_cases ms (m ∷ []) x h) [
        | inl i ↦ elim (l.only x i) [ inl j ↦ inl j | inr k ↦ inr (merge-more x k) ]
        | inr (inl e) ↦ inr (subst (IsMerge s behind) e is)
        | inr (inr nay) ↦ absurd nay
      ];
      all = λ x h. elim (merge-cases x h) [
        | inl k ↦ Has-append_left ms (m ∷ []) x (l.all x k)
        | inr e ↦ Has-append_right ms (m ∷ []) x (inl (same x h e))
      ];
    }
      where
        same : (x : Merge) → IsMerge s behind x → x.from ≡ result_of p → m ≡ x
        same x h e =
            let from = of ∙ sym e in
            let into =
            one-into behind m.from m.into x.into is.of (subst (λ v. IsOfFirst s behind v x.into) (sym from) h.of) in
            λ i. record { from = from i; into = into i }

    -- nothing is to be merged into itself, so nothing is of an operation that is no constant, that is the first one of
    -- its integer, or that nothing uses
    pub listed-other : None ≡ integer_at s (Operation p) → AreListed s behind ms₀ ms
    listed-other none = listed-same (λ m h e.
        let c = same-result h.of.constant p (sym h.of.value ∙ e) in
        none-some h.of.integer (none ∙ subst (λ q. integer_at s (Operation q) ≡ Some h.of.integer) c h.of.worth))

    module _ {S : Type 0} (fs : HashMap IntegerAttr Value S) (firsts : AreFirsts s ns fs) (a : IntegerAttr)
        (worth : Some (integer_of a) ≡ integer_at s (Operation p)) where
      among : IsFirstOrNone s ns (integer_of a) (get attr_eq fs a)
      among = firsts a

      here : Has behind (Operation p)
      here = Has-append_right ns (Operation p ∷ []) (Operation p) (inl refl)

      pub listed-first : None ≡ get attr_eq fs a → AreListed s behind ms₀ ms
      listed-first none = listed-same (λ m h e.
          h.other (e ∙ one-into behind (result_of p) (result_of p) m.into (record {
            constant = p;
            first = p;
            integer = integer_of a;
            value = refl;
            result = refl;
            among = here;
            worth = sym worth;
            begins =
                first-last ns (integer_of a) p (subst (IsFirstOrNone s ns (integer_of a)) (sym none) among) (sym worth);
          }) (subst (λ v. IsOfFirst s behind v m.into) e h.of)))

      module _ (v : Value) (is : v ≡ result_of p) where
        pub listed-unused : (HasUses s v → ⊥) → AreListed s behind ms₀ ms
        listed-unused not = listed-same (λ m h e. not (subst (HasUses s) (e ∙ sym is) h.used))

        pub listed-later : (Has ns (Operation p) → ⊥) → HasUses s v → (w : Value) → Some w ≡ get attr_eq fs a
            → (ms' : List Merge) → ms' ≡ ms ++ record { from = v; into = w } ∷ [] → AreListed s behind ms₀ ms'
        listed-later fresh used w seen ms' put =
            subst (AreListed s behind ms₀) (sym put) (listed-put (record { from = v; into = w }) (record {
              of = record {
                constant = p;
                first = f.0;
                integer = integer_of a;
                value = is;
                result = f.1.0;
                among = here;
                worth = sym worth;
                begins = first-more ns (Operation p ∷ []) (integer_of a) f.0 f.1.1;
              };
              other = λ e. fresh (subst (λ q. Has ns (Operation q)) (same-result f.0 p (sym f.1.0 ∙ sym e ∙ is))
                  (first-has ns (integer_of a) f.0 f.1.1));
              used = used;
            }) is)
          where
            f : IsFirstOrNone s ns (integer_of a) (Some w)
            f = subst (IsFirstOrNone s ns (integer_of a)) (sym seen) among
