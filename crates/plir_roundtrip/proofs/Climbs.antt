-- What a climb from a node tells of the isolated operations around it, and which values and blocks an operation can name.
use Rattle.std.proofs.Common.{◌≡◌, ◌↔◌, ◌<◌, ◌&&◌, ℕ, zero, suc, Bool, true, false, List, [], inl, inr, Option}
use Rattle.std.proofs.Common.{Some, None, IsTrue, refl, sym, ap, subst, ◌∙◌, arith}
use Rattle.std.proofs.Common.{eqb, ◌+◌, ◌≤◌, All, get_or, length}
use Rattle.std.specs.Prelude.{IfSome, if◌then◌else◌, slice_get}
use Rattle.std.proofs.lemmas.Option.{get_or_from_slice_get, none-some, same_Some, slice_get-get_or, slice_get_within}
use Rattle.plir_store.specs.MemberLaws.{Has-at}
use Rattle.plir_store.specs.Members.{Has}
use Rattle.plir_core.specs.Above.{climb}
use Rattle.plir_core.specs.ContextView.{ContextView, IsLive, children, kind_of, parent_of, region_above}
use Rattle.plir_core.specs.Forest.{look}
use Rattle.plir_core.specs.Measures.{depth}
use Rattle.plir_core.specs.Standing.{IsStanding}
use Rattle.plir_core.specs.declared.ptr.Ptr.{Ptr}
use Rattle.plir_core.specs.declared.ptr.Operation.{Operation as OperationKind}
use Rattle.plir_core.specs.declared.ptr.BasicBlock.{BasicBlock as BlockKind}
use Rattle.plir_core.specs.declared.ptr.IRNode.{IRNode}
use Rattle.plir_core.specs.declared.ptr.IRNode.TheVariants.{Operation, Region, BasicBlock}
use Rattle.plir_walk.specs.Tree.{IsProperlyUnder, IsUnder}
use Rattle.plir_walk.specs.TreeLaws.{properly-trans, properly-under, under-cases, under-child}
use Rattle.plir_walk.specs.TreeLaws.{under-reached, under-trans}
use Rattle.plir_roundtrip.specs.Obstacles.{IsBodyTold, IsFirstAround, IsSameBody, as_isolated}
use Rattle.plir_roundtrip.specs.UsesWithin.{AreInOneBody, IsBeside, StandsAround, is_kind_isolated}
use Rattle.plir_roundtrip.specs.declared.reach.Body.{Body}
use Rattle.plir_roundtrip.specs.declared.reach.Body.TheVariants.{Whole, Of, Outside}
use Rattle.plir_roundtrip.proofs.Bodies.{IsInnermost, child_below, not_below, same_body, up_one}
use Rattle.plir_roundtrip.proofs.Children.{child_of_op}
use Rattle.plir_roundtrip.proofs.OnePlace.{goes}
use Rattle.plir_roundtrip.proofs.ValuesAsked.{one_more}

-- how many steps a climb has left at most
abbrev pub steps_left : (IRNode → ℕ) → Option IRNode → ℕ
steps_left deep None = 0
steps_left deep (Some m) = suc (deep m)

module _ {K A T : Type 0} (isolated : K → Bool) (s : ContextView K A T) (root : IRNode) where
  -- where a climb from n has come to
  abbrev pub IsClimbing : IRNode → Option IRNode → Type 0
  IsClimbing n None = IsUnder (children s) root n → ⊥
  IsClimbing n (Some m) = IsUnder (children s) m n ×
      ((b : Ptr OperationKind) → is_kind_isolated isolated (kind_of s b) ≡ true →
      IsProperlyUnder (children s) (Operation b) n → IsProperlyUnder (children s) (Operation b) m) ×
      (IsUnder (children s) root n → IsUnder (children s) root m)

module _ {K A T : Type 0} (s : ContextView K A T) (st : IsStanding s) where
  under_below : (a b n : IRNode) → IsUnder (children s) a b → IsProperlyUnder (children s) b n
      → IsProperlyUnder (children s) a n
  under_below a b n h k = elim (under-cases (children s) a b h) [
    | inl e ↦ subst (λ z. IsProperlyUnder (children s) z n) (sym e) k
    | inr p ↦ properly-trans (children s) a b n p k
  ]

  below_under : (a b n : IRNode) → IsProperlyUnder (children s) a b → IsUnder (children s) b n
      → IsProperlyUnder (children s) a n
  below_under a b n h k = elim (under-cases (children s) b n k) [
    | inl e ↦ subst (IsProperlyUnder (children s) a) e h
    | inr p ↦ properly-trans (children s) a b n h p
  ]

  -- what stands below a node has a parent
  has_parent : (a c : IRNode) → IsProperlyUnder (children s) a c → parent_of s c ≡ None → ⊥
  has_parent a c k none =
      let g = goes s st k.0 k.1 a c k.2 in
      let climbs = under-reached (look s) st.forest c g.child (k.1, g.below) in
      by climbs.0 g.child (Has-at (children s a) k.0 g.child g.there) climbs.1
    where
      at_none : (n : ℕ) (d : IRNode) → climb (parent_of s) n None ≡ Some d → ⊥
      at_none zero d e = none-some d e
      at_none (suc n) d e = none-some d e

      by : (n : ℕ) (d : IRNode) → Has (children s a) d → climb (parent_of s) n (Some c) ≡ Some d → ⊥
      by zero d m e =
          none-some a (sym none ∙ ap (parent_of s) (same_Some c d e) ∙ st.forest.child_parent a d m)
      by (suc n) d m e = at_none n d (ap (climb (parent_of s) n) (sym none) ∙ e)

  pub fewer_left : (m : IRNode) (over : Option IRNode) → parent_of s m ≡ over
      → steps_left (depth s) over < steps_left (depth s) (Some m)
  fewer_left m None e = omega arith
  fewer_left m (Some x) e = let d = st.measured.deeper x m e in omega (arith, d)

  module _ (isolated : K → Bool) (root : IRNode) where
    abbrev Around : Ptr OperationKind → IRNode → Type 0
    Around a n = StandsAround isolated s root a n

    abbrev Climbing : IRNode → Option IRNode → Type 0
    Climbing n over = IsClimbing isolated s root n over

    pub climb_starts : (n : IRNode) → Climbing n (Some n)
    climb_starts n = (([], refl), λ b e k. k, λ u. u)

    pub climb_whole : (n m : IRNode) → Climbing n (Some m) → m ≡ root → IsBodyTold isolated s root n Whole
    climb_whole n m c e = (
      subst (λ z. IsUnder (children s) z n) e c.0,
      λ a r. not_below s st root (Operation a) r.within
          (subst (IsProperlyUnder (children s) (Operation a)) e (c.1 a r.alone r.below)),
    )

    -- of a node that is not the root, the root is above its parent too
    root_over : (m x : IRNode) → (m ≡ root → ⊥) → Has (children s x) m → IsUnder (children s) root m
        → IsUnder (children s) root x
    root_over m x other h u = elim (under-cases (children s) root m u) [
      | inl e ↦ absurd (other (sym e))
      | inr k ↦ up_one s st root m x h k
    ]

    isolated_is : (over : Option IRNode) (a : Ptr OperationKind) → as_isolated isolated s over ≡ Some a
        → (over ≡ Some (Operation a)) × (is_kind_isolated isolated (kind_of s a) ≡ true)
    isolated_is None a e = absurd (none-some a e)
    isolated_is (Some (Region r)) a e = absurd (none-some a e)
    isolated_is (Some (BasicBlock b)) a e = absurd (none-some a e)
    isolated_is (Some (Operation p)) a e = by (is_kind_isolated isolated (kind_of s p)) refl e
      where
        by : (t : Bool) → is_kind_isolated isolated (kind_of s p) ≡ t → (if t then Some p else None) ≡ Some a
            → (Some (Operation p) ≡ Some (Operation a)) × (is_kind_isolated isolated (kind_of s a) ≡ true)
        by true is f =
            let same : p ≡ a = same_Some p a f in
            (ap (λ z. Some (Operation z)) same, subst (λ z. is_kind_isolated isolated (kind_of s z) ≡ true) same is)
        by false is f = absurd (none-some a f)

    pub climb_ends : (n m : IRNode) (over : Option IRNode) (a : Ptr OperationKind) → Climbing n (Some m)
        → (m ≡ root → ⊥) → parent_of s m ≡ over → as_isolated isolated s over ≡ Some a
        → IsBodyTold isolated s root n (Of a)
    climb_ends n m over a c other up is =
        let found = isolated_is over a is in
        let h : Has (children s (Operation a)) m = st.forest.parent_child (Operation a) m (up ∙ found.0) in
        record {
          alone = found.1;
          below = below_under (Operation a) m n (child_below s st (Operation a) m h) c.0;
          innermost = λ b e k. up_one s st (Operation b) m (Operation a) h (c.1 b e k);
          within = λ u. root_over m (Operation a) other h (c.2 u);
        }

    pub climb_more : (n m : IRNode) (over : Option IRNode) → Climbing n (Some m) → (m ≡ root → ⊥)
        → parent_of s m ≡ over → as_isolated isolated s over ≡ None → Climbing n over
    climb_more n m None c other up is =
        λ u. elim (under-cases (children s) root m (c.2 u)) [
          | inl e ↦ other (sym e)
          | inr k ↦ has_parent root m k up
        ]
    climb_more n m (Some x) c other up is =
        let h : Has (children s x) m = st.forest.parent_child x m up in (
          under-child (children s) x m n h c.0,
          λ b e k. elim (under-cases (children s) (Operation b) x (up_one s st (Operation b) m x h (c.1 b e k))) [
            | inl f ↦ absurd (not_isolated b e f)
            | inr p ↦ p
          ],
          λ u. root_over m x other h (c.2 u),
        )
      where
        not_isolated : (b : Ptr OperationKind) → is_kind_isolated isolated (kind_of s b) ≡ true → Operation b ≡ x → ⊥
        not_isolated b e f =
            let here : as_isolated isolated s (Some (Operation b)) ≡ None =
            subst (λ z. as_isolated isolated s (Some z) ≡ None) (sym f) is in
            let on : (if is_kind_isolated isolated (kind_of s b) then Some b else None) ≡ Some b =
            ap (λ t. if t then Some b else None) e in
            none-some b (sym here ∙ on)

    -- ---- the innermost isolated operation

    first_around : (a : Ptr OperationKind) (n : IRNode) → IsFirstAround isolated s root a n
        → IsUnder (children s) root n → Around a n
    first_around a n r u = record { alone = r.alone; within = r.within u; below = r.below }

    first_innermost : (a : Ptr OperationKind) (n : IRNode) → IsFirstAround isolated s root a n
        → IsUnder (children s) root n → IsInnermost s st isolated root (Some a) n
    first_innermost a n r u = (first_around a n r u, λ b h. r.innermost b h.alone h.below)

    -- what stands around one of two nodes with one innermost operation stands around the other
    around_too : (a b : Ptr OperationKind) (n m : IRNode) → IsFirstAround isolated s root a n
        → IsFirstAround isolated s root b m → a ≡ b → Around b m → (c : Ptr OperationKind) → Around c n → Around c m
    around_too a b n m r q e h c k = record {
      alone = k.alone;
      within = k.within;
      below =
          under_below (Operation c) (Operation a) m (r.innermost c k.alone k.below)
          (subst (λ z. IsProperlyUnder (children s) (Operation z) m) (sym e) q.below);
    }

    -- a node can be named from another of the tree exactly where the two climbs tell the same
    pub reach_is : (n m : IRNode) (a b : Body) → IsUnder (children s) root n → IsBodyTold isolated s root n a
        → IsBodyTold isolated s root m b
        → IsSameBody a b ↔ (IsUnder (children s) root m × AreInOneBody isolated s root n m)
    reach_is n m Whole Whole u h k = (
      λ same. (k.0, λ c. (λ r. absurd (h.1 c r), λ r. absurd (k.1 c r))),
      λ one. tt,
    )
    reach_is n m Whole (Of b) u h k = (
      λ same. absurd same,
      λ one. h.1 b ((one.1 b).1 (first_around b m k one.0)),
    )
    reach_is n m Whole Outside u h k = (λ same. absurd same, λ one. k one.0)
    reach_is n m (Of a) Whole u h k = (
      λ same. absurd same,
      λ one. k.1 a ((one.1 a).0 (first_around a n h u)),
    )
    reach_is n m (Of a) (Of b) u h k = (
      λ same.
          let within : IsUnder (children s) root (Operation b) =
          subst (λ z. IsUnder (children s) root (Operation z)) same (h.within u) in
          let under : IsUnder (children s) root m =
          under-trans (children s) root (Operation b) m within (properly-under (children s) (Operation b) m k.below) in (
            under,
            λ c. (
              around_too a b n m h k same (first_around b m k under) c,
              around_too b a m n k h (sym same) (first_around a n h u) c,
            ),
          ),
      λ one.
          same_Some a b (same_body s st isolated root (Some a) (Some b) n m (first_innermost a n h u)
          (first_innermost b m k one.0) one.1),
    )
    reach_is n m (Of a) Outside u h k = (λ same. absurd same, λ one. k one.0)
    reach_is n m Outside b u h k = absurd (h u)

  -- ---- blocks

  -- an operation that stands in a region stands below it
  region_over : (p : Ptr OperationKind) (r : IRNode) → region_above s p ≡ Some r
      → (c : IRNode) × Has (children s r) c × Has (children s c) (Operation p)
  region_over p r e = by (parent_of s (Operation p)) refl e
    where
      by : (c : Option IRNode) → parent_of s (Operation p) ≡ c → climb (parent_of s) 1 c ≡ Some r
          → (d : IRNode) × Has (children s r) d × Has (children s d) (Operation p)
      by None f up = absurd (none-some r up)
      by (Some c) f up = (c, st.forest.parent_child r c up, st.forest.parent_child c (Operation p) f)

  -- the root stands in no region of its tree
  pub none_beside_root : (p : Ptr OperationKind) (b : Ptr BlockKind) → IsBeside s (Operation p) p b → ⊥
  none_beside_root p b beside =
      let c = region_over p (Region beside.region) beside.op in
      not_below s st (Operation p) (Region beside.region) beside.within
      (properly-trans (children s) (Region beside.region) c.0 (Operation p)
      (child_below s st (Region beside.region) c.0 c.1) (child_below s st c.0 (Operation p) c.2))

  -- another operation of the tree stands in a region of the tree
  pub region_within : (root p : Ptr OperationKind) (r : IRNode) → (p ≡ root → ⊥)
      → IsUnder (children s) (Operation root) (Operation p) → region_above s p ≡ Some r
      → IsUnder (children s) (Operation root) r
  region_within root p r other u e =
      let c = region_over p r e in
      let below : IsProperlyUnder (children s) (Operation root) (Operation p) =
      elim (under-cases (children s) (Operation root) (Operation p) u) [
        | inl f ↦ let same : root ≡ p = cc in absurd (other (sym same))
        | inr k ↦ k
      ] in
      let over = up_one s st (Operation root) (Operation p) c.0 c.2 below in
      elim (under-cases (children s) (Operation root) c.0 over) [
        | inl f ↦
            let q = child_of_op s root (Operation p) (subst (λ z. Has (children s z) (Operation p)) (sym f) c.2) in
            let same : Operation p ≡ Region q.0 = q.1 in
            absurd (let g : ⊥ = cc in g)
        | inr k ↦ up_one s st (Operation root) c.0 r c.1 k
      ]

-- the test whether two pointers are the same
pub same-ptr : {X : Type 0} (p q : Ptr X) (b : Bool) → b ≡ (eqb p.slot q.slot && (eqb p.version q.version && true))
    → IsTrue b ↔ (p ≡ q)
same-ptr {X} p q b e = (
  λ h.
      let slots : p.slot ≡ q.slot = grind arith in
      let versions : p.version ≡ q.version = grind arith in
      λ i. record { slot = slots i; version = versions i; kind = record {} },
  λ h.
      let slots : p.slot ≡ q.slot = ap (λ z. z.slot) h in
      let versions : p.version ≡ q.version = ap (λ z. z.version) h in
      grind arith,
)

-- ---- what is said of the things of a list, one after another

module _ {X : Type 0} (P : X → Type 0) (xs : List X) (n : ℕ) where
  pub one_more_at : (x : X) → slice_get xs n ≡ Some x → P x
      → ((j : ℕ) (y : X) → j < n → slice_get xs j ≡ Some y → P y)
      → (j : ℕ) (y : X) → j < n + 1 → slice_get xs j ≡ Some y → P y
  one_more_at x at p each j y lt there =
      one_more (λ i. (z : X) → slice_get xs i ≡ Some z → P z) n (λ i less z e. each i z less e)
      (λ z e. subst P (same_Some x z (sym at ∙ e)) p) j lt y there

  pub all_from_each : length xs ≤ n → ((j : ℕ) (y : X) → j < n → slice_get xs j ≡ Some y → P y) → All P xs
  all_from_each le each k d lt = each k (get_or xs k d) (omega (arith, le, lt)) (slice_get-get_or xs k d lt)

pub live_over : {K A T : Type 0} (s : ContextView K A T) (over : Option IRNode) → IfSome over (IsLive s) → (m : IRNode)
    → over ≡ Some m → IsLive s m
live_over s None h m e = absurd (none-some m e)
live_over s (Some x) h m e = subst (IsLive s) (same_Some x m e) h

pub each_from_all : {X : Type 0} (P : X → Type 0) (xs : List X) (i : ℕ) (x : X) → slice_get xs i ≡ Some x → All P xs → P x
each_from_all P xs i x at all =
    subst P (get_or_from_slice_get xs i x x at) (all i x (slice_get_within xs i x at))
