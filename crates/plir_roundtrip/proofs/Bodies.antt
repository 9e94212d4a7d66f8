-- The scope of what stands at a place of a tree: its body is the innermost isolated operation that stands around.
use Rattle.std.proofs.Common.{◌≡◌, ℕ, zero, suc, Bool, true, false, List, [], ◌∷◌, ◌++◌, inl, inr, Option, Some, None}
use Rattle.std.proofs.Common.{option_map, unwrap_or, refl, sym, ap, subst, ◌∙◌, ◌⊎◌}
use Rattle.std.specs.Prelude.{slice_get, option_and_then, if◌then◌else◌}
use Rattle.std.proofs.lemmas.Option.{same_Some}
use Rattle.plir_data.specs.declared.op_set.OpKind.{OpKind}
use Rattle.plir_data.specs.declared.op_set.OpKind.TheVariants.{Module, Func, Constant, ForwardRef, Own}
use Rattle.plir_data.specs.declared.op_set.OpSet as op_set
use Rattle.plir_store.specs.MemberLaws.{Has-at, at-Has}
use Rattle.plir_store.specs.Members.{Has}
use Rattle.plir_core.specs.Above.{climb}
use Rattle.plir_core.specs.ContextView.{ContextView, children, kind_of, parent_of}
use Rattle.plir_core.specs.Forest.{look}
use Rattle.plir_core.specs.Standing.{IsStanding}
use Rattle.plir_core.specs.declared.ptr.Ptr.{Ptr}
use Rattle.plir_core.specs.declared.ptr.Operation.{Operation as OperationKind}
use Rattle.plir_core.specs.declared.ptr.Region.{Region as RegionKind}
use Rattle.plir_core.specs.declared.ptr.BasicBlock.{BasicBlock as BlockKind}
use Rattle.plir_core.specs.declared.ptr.IRNode.{IRNode}
use Rattle.plir_core.specs.declared.ptr.IRNode.TheVariants.{Operation, Region, BasicBlock}
use Rattle.plir_walk.specs.Tree.{IsProperlyUnder, IsUnder, Place, node_at}
use Rattle.plir_walk.specs.TreeLaws.{node_at-append, properly-trans, properly-under, reached-under, under-cases}
use Rattle.plir_walk.specs.TreeLaws.{under-child, under-reached, under-trans, child-under}
use Rattle.plir_read_ir.specs.Mentions.{Scope, body_in}
use Rattle.plir_roundtrip.specs.Readable.{IsKindReadable}
use Rattle.plir_roundtrip.specs.IrReadable.{AreIrReadable, IsReadableAs}
use Rattle.plir_roundtrip.specs.IrWritten.{front_of}
use Rattle.plir_roundtrip.specs.UsesMeant.{scope_in}
use Rattle.plir_roundtrip.specs.UsesWithin.{AreInOneBody, StandsAround, is_kind_isolated}
use Rattle.plir_roundtrip.proofs.OnePlace.{goes, one_place}

no_place : (p q : Place) (i : ℕ) → p ++ i ∷ q ≡ [] → ⊥
no_place [] q i e = cc
no_place (j ∷ p) q i e = cc

nowhere_left : (p q : Place) → p ++ q ≡ [] → p ≡ []
nowhere_left [] q e = refl
nowhere_left (j ∷ p) q e = absurd (let f : ⊥ = cc in f)

module _ {K A T : Type 0} (s : ContextView K A T) (st : IsStanding s) where
  -- a node is not below itself
  pub not_below : (a b : IRNode) → IsUnder (children s) a b → IsProperlyUnder (children s) b a → ⊥
  not_below a b h k =
      let back = node_at-append (children s) h.0 (k.0 ∷ k.1) a b a h.1 k.2 in
      no_place h.0 k.1 k.0 (one_place s st a a (h.0 ++ k.0 ∷ k.1) [] back refl)

  -- of two nodes that stand under one another there is one
  same_node : (a b : IRNode) → IsUnder (children s) a b → IsUnder (children s) b a → a ≡ b
  same_node a b h k =
      let back = node_at-append (children s) h.0 k.0 a b a h.1 k.1 in
      let none = nowhere_left h.0 k.0 (one_place s st a a (h.0 ++ k.0) [] back refl) in
      same_Some a b (subst (λ p. node_at (children s) a p ≡ Some b) none h.1)

  -- what stands below a node has its parent at or under that node
  pub up_one : (a c x : IRNode) → Has (children s x) c → IsProperlyUnder (children s) a c → IsUnder (children s) a x
  up_one a c x h k =
      let g = goes s st k.0 k.1 a c k.2 in
      let climbs = under-reached (look s) st.forest c g.child (k.1, g.below) in
      let first = Has-at (children s a) k.0 g.child g.there in
      by climbs.0 g.child first climbs.1
    where
      parent_is : parent_of s c ≡ Some x
      parent_is = st.forest.child_parent x c h

      by : (n : ℕ) (d : IRNode) → Has (children s a) d → climb (parent_of s) n (Some c) ≡ Some d
          → IsUnder (children s) a x
      by zero d m e =
          let same : c ≡ d = same_Some c d e in
          let over : Some x ≡ Some a =
          sym parent_is ∙ ap (parent_of s) same ∙ st.forest.child_parent a d m in
          ([], sym over)
      by (suc n) d m e =
          under-child (children s) a d x m
          (reached-under (look s) st.forest n x d (ap (climb (parent_of s) n) (sym parent_is) ∙ e))

  pub child_below : (x c : IRNode) → Has (children s x) c → IsProperlyUnder (children s) x c
  child_below x c h = let i = at-Has (children s x) c h in (i.0, [], ap (option_and_then (λ z. Some z)) i.1)

  module _ (isolated : K → Bool) (root : IRNode) where
    abbrev Around : Ptr OperationKind → IRNode → Type 0
    Around a n = StandsAround isolated s root a n

    -- what stands around a child is the node itself, or stands around the node
    around_child : (a : Ptr OperationKind) (x c : IRNode) → Has (children s x) c → Around a c
        → (Operation a ≡ x) ⊎ Around a x
    around_child a x c h r = elim (under-cases (children s) (Operation a) x (up_one (Operation a) c x h r.below)) [
      | inl e ↦ inl e
      | inr k ↦ inr (record { alone = r.alone; within = r.within; below = k })
    ]

    around_lower : (a : Ptr OperationKind) (x c : IRNode) → Has (children s x) c → Around a x → Around a c
    around_lower a x c h r = record {
      alone = r.alone;
      within = r.within;
      below = properly-trans (children s) (Operation a) x c r.below (child_below x c h);
    }

    -- the innermost isolated operation of the tree that stands around a node, if there is one
    abbrev pub IsInnermost : Option (Ptr OperationKind) → IRNode → Type 0
    IsInnermost None n = (a : Ptr OperationKind) → Around a n → ⊥
    IsInnermost (Some b) n = Around b n ×
        ((a : Ptr OperationKind) → Around a n → IsUnder (children s) (Operation a) (Operation b))

    pub none_around_root : IsInnermost None root
    none_around_root a r = not_below root (Operation a) r.within r.below

    -- that of a node which is no isolated operation is that of its children
    kept : (b : Option (Ptr OperationKind)) (x c : IRNode) → Has (children s x) c
        → ((a : Ptr OperationKind) → Operation a ≡ x → is_kind_isolated isolated (kind_of s a) ≡ true → ⊥)
        → IsInnermost b x → IsInnermost b c
    kept None x c h other inner =
        λ a r. elim (around_child a x c h r) [ inl e ↦ other a e r.alone | inr k ↦ inner a k ]
    kept (Some b) x c h other inner = (
      around_lower b x c h inner.0,
      λ a r. elim (around_child a x c h r) [ inl e ↦ absurd (other a e r.alone) | inr k ↦ inner.1 a k ],
    )

    -- that of an isolated operation's children is the operation
    own_body : (p : Ptr OperationKind) (c : IRNode) → Has (children s (Operation p)) c
        → is_kind_isolated isolated (kind_of s p) ≡ true → IsUnder (children s) root (Operation p)
        → IsInnermost (Some p) c
    own_body p c h alone within = (
      record { alone = alone; within = within; below = child_below (Operation p) c h },
      λ a r. elim (around_child a (Operation p) c h r) [
        | inl e ↦ ([], ap (λ z. Some z) e)
        | inr k ↦ properly-under (children s) (Operation a) (Operation p) k.below
      ],
    )

    -- nodes in one body have the same innermost isolated operation
    pub same_body : (b c : Option (Ptr OperationKind)) (n m : IRNode) → IsInnermost b n → IsInnermost c m
        → AreInOneBody isolated s root n m → b ≡ c
    same_body None None n m h k one = refl
    same_body None (Some c) n m h k one = absurd (h c ((one c).1 k.0))
    same_body (Some b) None n m h k one = absurd (k b ((one b).0 h.0))
    same_body (Some b) (Some c) n m h k one =
        let below = k.1 b ((one b).0 h.0) in
        let above = h.1 c ((one c).1 k.0) in
        let same : Operation b ≡ Operation c = same_node (Operation b) (Operation c) below above in
        let ptr : b ≡ c = cc in
        ap (λ z. Some z) ptr

module _ {D K A T E : Type 0} (o : op_set.Ghosts D K A T E) (isolated : K → Bool) (s : ContextView K A T) where
  -- the scope of what stands at a place under a node in a scope
  abbrev pub scope_at : Place → Scope → IRNode → Scope
  scope_at [] at x = at
  scope_at (i ∷ place) at x =
      unwrap_or (option_map (λ c. scope_at place (scope_in o isolated s at x) c) (slice_get (children s x) i)) at

  pub scope-step : (i : ℕ) (place : Place) (at : Scope) (x c : IRNode) → slice_get (children s x) i ≡ Some c
      → scope_at (i ∷ place) at x ≡ scope_at place (scope_in o isolated s at x) c
  scope-step i place at x c e =
      ap (λ z. unwrap_or (option_map (λ d. scope_at place (scope_in o isolated s at x) d) z) at) e

  module _ (st : IsStanding s) where
    pub scope-append : (place rest : Place) (at : Scope) (x n : IRNode) → node_at (children s) x place ≡ Some n
        → scope_at (place ++ rest) at x ≡ scope_at rest (scope_at place at x) n
    scope-append [] rest at x n e = ap (scope_at rest at) (same_Some x n e)
    scope-append (i ∷ place) rest at x n e =
        let g = goes s st i place x n e in
        scope-step i (place ++ rest) at x g.child g.there
        ∙ scope-append place rest (scope_in o isolated s at x) g.child n g.below
        ∙ ap (λ z. scope_at rest z n) (sym (scope-step i place at x g.child g.there))

    -- ---- bodies

    module _ (find : List ℕ → Option K) (root : IRNode) (readable : AreIrReadable o find s root) where
      -- the body of an operation's regions is the operation, if it is isolated
      body_is : (b : Option (Ptr OperationKind)) (p : Ptr OperationKind) (kind : Option (OpKind K))
          → kind_of s p ≡ kind → IsReadableAs o find s kind p
          → body_in isolated b (Operation p) (front_of o s kind p)
          ≡ (if is_kind_isolated isolated kind then Some p else b)
      body_is b p (Some Module) is r = refl
      body_is b p (Some Func) is r = refl
      body_is b p (Some Constant) is r = refl
      body_is b p (Some ForwardRef) is r = absurd (subst (λ z. IsKindReadable s z p) is r.kind)
      body_is b p (Some (Own k)) is r = refl
      body_is b p None is r = absurd (subst (λ z. IsKindReadable s z p) is r.kind)

      in_child : (at : Scope) (x c : IRNode) → Has (children s x) c → IsUnder (children s) root x
          → IsInnermost s st isolated root at.body x → IsInnermost s st isolated root (scope_in o isolated s at x).body c
      in_child at (Region r) c h under inner = kept s st isolated root at.body (Region r) c h (λ a e. absurd cc) inner
      in_child at (BasicBlock b) c h under inner =
          kept s st isolated root at.body (BasicBlock b) c h (λ a e. absurd cc) inner
      in_child at (Operation p) c h under inner =
          subst (λ z. IsInnermost s st isolated root z c)
          (sym (body_is at.body p (kind_of s p) refl (readable.ops p under)))
          (by (is_kind_isolated isolated (kind_of s p)) refl)
        where
          no_other : is_kind_isolated isolated (kind_of s p) ≡ false → (a : Ptr OperationKind)
              → Operation a ≡ Operation p → is_kind_isolated isolated (kind_of s a) ≡ true → ⊥
          no_other off a e on =
              let same : a ≡ p = cc in
              let is : is_kind_isolated isolated (kind_of s p) ≡ true =
              subst (λ z. is_kind_isolated isolated (kind_of s z) ≡ true) same on in
              let f : true ≡ false = sym is ∙ off in
              cc

          by : (t : Bool) → is_kind_isolated isolated (kind_of s p) ≡ t
              → IsInnermost s st isolated root (if t then Some p else at.body) c
          by true e = own_body s st isolated root p c h e under
          by false e = kept s st isolated root at.body (Operation p) c h (no_other e) inner

      -- the body of the scope at a place is the innermost isolated operation around the node there
      pub innermost_at : (place : Place) (at : Scope) (x n : IRNode) → IsUnder (children s) root x
          → node_at (children s) x place ≡ Some n → IsInnermost s st isolated root at.body x
          → IsInnermost s st isolated root (scope_at place at x).body n
      innermost_at [] at x n under e inner =
          subst (IsInnermost s st isolated root at.body) (same_Some x n e) inner
      innermost_at (i ∷ place) at x n under e inner =
          let g = goes s st i place x n e in
          let h = Has-at (children s x) i g.child g.there in
          let lower = under-trans (children s) root x g.child under (child-under (children s) x g.child h) in
          subst (λ z. IsInnermost s st isolated root z.body n) (sym (scope-step i place at x g.child g.there))
          (innermost_at place (scope_in o isolated s at x) g.child n lower g.below (in_child at x g.child h under inner))

    -- ---- regions

    -- what stands two steps below a region, and one step, has that region in its scope
    pub region_of_op : (place : Place) (i j : ℕ) (at : Scope) (x : IRNode) (r : Ptr RegionKind) (b : Ptr BlockKind)
        (n : IRNode) → node_at (children s) x place ≡ Some (Region r)
        → slice_get (children s (Region r)) i ≡ Some (BasicBlock b)
        → slice_get (children s (BasicBlock b)) j ≡ Some n
        → (scope_at (place ++ i ∷ j ∷ []) at x).region ≡ Some r
    region_of_op place i j at x r b n e f g =
        ap (λ z. z.region) (scope-append place (i ∷ j ∷ []) at x (Region r) e
        ∙ scope-step i (j ∷ []) (scope_at place at x) (Region r) (BasicBlock b) f
        ∙ scope-step j [] (scope_in o isolated s (scope_at place at x) (Region r)) (BasicBlock b) n g)

    pub region_of_block : (place : Place) (i : ℕ) (at : Scope) (x : IRNode) (r : Ptr RegionKind) (b : IRNode)
        → node_at (children s) x place ≡ Some (Region r) → slice_get (children s (Region r)) i ≡ Some b
        → (scope_at (place ++ i ∷ []) at x).region ≡ Some r
    region_of_block place i at x r b e f =
        ap (λ z. z.region) (scope-append place (i ∷ []) at x (Region r) e
        ∙ scope-step i [] (scope_at place at x) (Region r) b f)
