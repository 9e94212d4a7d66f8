-- Which operations have a table as their nearest one: those under an operation of its body with no other table between.
use Rattle.std.proofs.Common.{◌≡◌, ◌<◌, ◌≤◌, ◌+◌, ◌-◌, ℕ, zero, suc, arith, Bool, true, false, cond}
use Rattle.std.proofs.Common.{Option, Some, None, ◌⊎◌, inl, inr, refl, sym, ap, subst, ◌∙◌}
use Rattle.std.specs.Prelude.{option_map}
use Rattle.std.proofs.lemmas.Bool.{cases_lt}
use Rattle.std.proofs.lemmas.Option.{none-some, same_Some}
use Rattle.plir_store.specs.Members.{Has}
use Rattle.plir_core.specs.declared.ptr.Ptr.{Ptr}
use Rattle.plir_core.specs.declared.ptr.Operation.{Operation as OperationKind}
use Rattle.plir_core.specs.declared.ptr.BasicBlock.{BasicBlock as BasicBlockKind}
use Rattle.plir_core.specs.declared.ptr.Region.{Region as RegionKind}
use Rattle.plir_core.specs.declared.ptr.IRNode.{IRNode}
use Rattle.plir_core.specs.declared.ptr.IRNode.TheVariants.{Operation, Region, BasicBlock}
use Rattle.plir_core.specs.Above.{climb}
use Rattle.plir_store.specs.Lists.{parent_at}
use Rattle.plir_core.specs.Nodes.{block_node, is_node_live, op_node, ptr_at, region_node}
use Rattle.plir_core.specs.Standing.{IsStanding}
use Rattle.plir_core.specs.ContextView.{ContextView, IsAncestor, children, is_live, kind_in, op_above, op_at}
use Rattle.plir_core.specs.ContextView.{parent_of}
use Rattle.plir_walk.specs.NodeLaws.{climb-nothing, same-op}
use Rattle.plir_builtin.specs.Nearest.{IsNearest, as_op, op_over}
use Rattle.plir_builtin.specs.Symbols.{body, children_in, is_table_kind}
use Rattle.plir_symbols.proofs.Bodies.{IsBody, body-is, shallower}

module _ {N : Type 0} (up : N → Option N) where
  climb-on : (j k : ℕ) (a b : N) (o : Option N) → climb up j (Some a) ≡ Some b → climb up k (Some b) ≡ o →
      climb up (j + k) (Some a) ≡ o
  climb-on zero k a b o e f =
      (let same : 0 + k ≡ k = omega arith in
      ap (λ z. climb up z (Some a)) same ∙ ap (climb up k) e ∙ f)
  climb-on (suc j) k a b o e f =
      (let next : suc j + k ≡ suc (j + k) = omega arith in
      ap (λ z. climb up z (Some a)) next ∙ at (λ m g. climb-on j k m b o g f) (up a) refl)
    where
      at : ((m : N) → climb up j (Some m) ≡ Some b → climb up (j + k) (Some m) ≡ o) → (p : Option N) → up a ≡ p →
          climb up (j + k) (up a) ≡ o
      at rest None q = absurd (climb-nothing up j b (ap (climb up j) (sym q) ∙ e))
      at rest (Some m) q = ap (climb up (j + k)) q ∙ rest m (ap (climb up j) (sym q) ∙ e)

  -- of two climbs from one thing the longer one passes where the shorter one ends
  climb-past : (j k : ℕ) (a b : N) (o : Option N) → j ≤ k → climb up j (Some a) ≡ Some b → climb up k (Some a) ≡ o →
      climb up (k - j) (Some b) ≡ o
  climb-past zero k a b o less e f =
      (let same : k - 0 ≡ k = omega arith in
      ap (λ z. climb up z (Some b)) same ∙ ap (climb up k) (sym e) ∙ f)
  climb-past (suc j) zero a b o less e f = absurd (omega (arith, less))
  climb-past (suc j) (suc k) a b o less e f =
      (let shorter : suc k - suc j ≡ k - j = omega arith in
      ap (λ z. climb up z (Some b)) shorter
      ∙ at (λ m g h. climb-past j k m b o (omega (arith, less)) g h) (up a) refl)
    where
      at : ((m : N) → climb up j (Some m) ≡ Some b → climb up k (Some m) ≡ o → climb up (k - j) (Some b) ≡ o) →
          (p : Option N) → up a ≡ p → climb up (k - j) (Some b) ≡ o
      at rest None q = absurd (climb-nothing up j b (ap (climb up j) (sym q) ∙ e))
      at rest (Some m) q = rest m (ap (climb up j) (sym q) ∙ e) (ap (climb up k) (sym q) ∙ f)

over-some : (f : ℕ → IRNode) (l : Bool) (o : Option ℕ) (n : IRNode) → cond l (option_map f o) None ≡ Some n →
    (i : ℕ) × (n ≡ f i)
over-some f false o n e = absurd (none-some n e)
over-some f true None n e = absurd (none-some n e)
over-some f true (Some i) n e = (i, sym (same_Some (f i) n e))

module _ {K A T : Type 0} (s : ContextView K A T) where
  -- above an operation there is a block, above a block a region, and above a region an operation
  over-op : (p : Ptr OperationKind) (n : IRNode) → parent_of s (Operation p) ≡ Some n →
      (b : Ptr BasicBlockKind) × (n ≡ BasicBlock b)
  over-op p n e =
      (let f = over-some (block_node s.nodes) (is_node_live s.nodes (Operation p))
      (parent_at s.nodes.ops_in_block p.slot) n e in
      (ptr_at s.nodes.blocks f.0, f.1))

  over-block : (b : Ptr BasicBlockKind) (n : IRNode) → parent_of s (BasicBlock b) ≡ Some n →
      (r : Ptr RegionKind) × (n ≡ Region r)
  over-block b n e =
      (let f = over-some (region_node s.nodes) (is_node_live s.nodes (BasicBlock b))
      (parent_at s.nodes.blocks_in_region b.slot) n e in
      (ptr_at s.nodes.regions f.0, f.1))

  over-region : (r : Ptr RegionKind) (n : IRNode) → parent_of s (Region r) ≡ Some n →
      (p : Ptr OperationKind) × (n ≡ Operation p)
  over-region r n e =
      (let f = over-some (op_node s.nodes) (is_node_live s.nodes (Region r))
      (parent_at s.nodes.regions_in_op r.slot) n e in
      (ptr_at s.nodes.ops f.0, f.1))

  -- the parent operation of an operation, if there is a node above it, two more and an operation
  over-is : (u v : Ptr OperationKind) (b : Ptr BasicBlockKind) (r : Ptr RegionKind) →
      parent_of s (Operation u) ≡ Some (BasicBlock b) → parent_of s (BasicBlock b) ≡ Some (Region r) →
      parent_of s (Region r) ≡ Some (Operation v) → op_over s u ≡ Some v
  over-is u v b r e f g =
      ap as_op (ap (climb (parent_of s) 2) e ∙ ap (climb (parent_of s) 1) f ∙ g)

  -- what climbs from an operation to another one is that one, or does so by its parent operation
  record IsOver (u p : Ptr OperationKind) (k : ℕ) : Type 0 where
    pub over : Ptr OperationKind
    pub is : op_over s u ≡ Some over
    pub left : ℕ
    pub less : left < k
    pub rest : climb (parent_of s) left (Some (Operation over)) ≡ Some (Operation p)
    pub under : IsAncestor s (Operation over) (Operation u)

  -- a climb of at least one step goes by the node above
  go-up : (n p : IRNode) (k : ℕ) → climb (parent_of s) (suc k) (Some n) ≡ Some p → (m : IRNode) ×
      (parent_of s n ≡ Some m) × (climb (parent_of s) k (Some m) ≡ Some p)
  go-up n p k e = at (parent_of s n) refl
    where
      at : (o : Option IRNode) → parent_of s n ≡ o → (m : IRNode) × (parent_of s n ≡ Some m) ×
          (climb (parent_of s) k (Some m) ≡ Some p)
      at None q = absurd (climb-nothing (parent_of s) k p (ap (climb (parent_of s) k) (sym q) ∙ e))
      at (Some m) q = (m, q, ap (climb (parent_of s) k) (sym q) ∙ e)

  no-block : (b : Ptr BasicBlockKind) (p : Ptr OperationKind) → BasicBlock b ≡ Operation p → ⊥
  no-block b p e = cc e

  no-region : (r : Ptr RegionKind) (p : Ptr OperationKind) → Region r ≡ Operation p → ⊥
  no-region r p e = cc e

  op-step : (u p : Ptr OperationKind) (k : ℕ) → climb (parent_of s) k (Some (Operation u)) ≡ Some (Operation p) →
      (u ≡ p) ⊎ IsOver u p k
  op-step u p zero e = inl (same-op u p (same_Some (Operation u) (Operation p) e))
  op-step u p (suc zero) e =
      (let f = over-op u (Operation p) e in absurd (no-block f.0 p (sym f.1)))
  op-step u p (suc (suc zero)) e =
      (let a = go-up (Operation u) (Operation p) 1 e in
      let b = over-op u a.0 a.1 in
      let f = over-block b.0 (Operation p) (ap (parent_of s) (sym b.1) ∙ a.2) in
      absurd (no-region f.0 p (sym f.1)))
  op-step u p (suc (suc (suc k))) e =
      (let a = go-up (Operation u) (Operation p) (suc (suc k)) e in
      let b = over-op u a.0 a.1 in
      let up_block = a.1 ∙ ap Some b.1 in
      let c = go-up (BasicBlock b.0) (Operation p) (suc k)
      (ap (λ z. climb (parent_of s) (suc (suc k)) (Some z)) (sym b.1) ∙ a.2) in
      let r = over-block b.0 c.0 c.1 in
      let up_region = c.1 ∙ ap Some r.1 in
      let d = go-up (Region r.0) (Operation p) k
      (ap (λ z. climb (parent_of s) (suc k) (Some z)) (sym r.1) ∙ c.2) in
      let v = over-region r.0 d.0 d.1 in
      let up_op = d.1 ∙ ap Some v.1 in
      inr (record {
        over = v.0;
        is = over-is u v.0 b.0 r.0 up_block up_region up_op;
        left = k;
        less = omega arith;
        rest = ap (λ z. climb (parent_of s) k (Some z)) (sym v.1) ∙ d.2;
        under = (3, ap (climb (parent_of s) 2) up_block ∙ ap (climb (parent_of s) 1) up_region ∙ up_op);
      }))

  -- what climbs by nodes climbs by operations
  op-climb : (fuel : ℕ) (u p : Ptr OperationKind) (k : ℕ) → k ≤ fuel →
      climb (parent_of s) k (Some (Operation u)) ≡ Some (Operation p) →
      (j : ℕ) × (climb (op_over s) j (Some u) ≡ Some p)
  op-climb zero u p k less e = elim (op-step u p k e) [
    | inl same ↦ (0, ap Some same)
    | inr o ↦ absurd (let z : ⊥ = omega (arith, less, o.less) in z)
  ]
  op-climb (suc fuel) u p k less e = elim (op-step u p k e) [
    | inl same ↦ (0, ap Some same)
    | inr o ↦
        (let f = op-climb fuel o.over p o.left (omega (arith, less, o.less)) o.rest in
        (suc f.0, ap (climb (op_over s) f.0) o.is ∙ f.1))
  ]

  -- and what climbs by operations climbs by nodes
  as_op-is : (o : Option IRNode) (q : Ptr OperationKind) → as_op o ≡ Some q → o ≡ Some (Operation q)
  as_op-is None q e = absurd (none-some q e)
  as_op-is (Some (Operation p)) q e = ap (λ z. Some (Operation z)) (same_Some p q e)
  as_op-is (Some (Region p)) q e = absurd (none-some q e)
  as_op-is (Some (BasicBlock p)) q e = absurd (none-some q e)

  node-climb : (j : ℕ) (u p : Ptr OperationKind) → climb (op_over s) j (Some u) ≡ Some p →
      IsAncestor s (Operation p) (Operation u)
  node-climb zero u p e = (0, ap (λ z. Some (Operation z)) (same_Some u p e))
  node-climb (suc j) u p e = at (λ v g. node-climb j v p g) (op_over s u) refl
    where
      at : ((v : Ptr OperationKind) → climb (op_over s) j (Some v) ≡ Some p →
          IsAncestor s (Operation p) (Operation v)) → (o : Option (Ptr OperationKind)) → op_over s u ≡ o →
          IsAncestor s (Operation p) (Operation u)
      at rest None q = absurd (climb-nothing (op_over s) j p (ap (climb (op_over s) j) (sym q) ∙ e))
      at rest (Some v) q =
          (let f = rest v (ap (climb (op_over s) j) (sym q) ∙ e) in (
            3 + f.0,
            climb-on (parent_of s) 3 f.0 (Operation u) (Operation v) (Some (Operation p))
                (as_op-is (op_above s (Operation u)) v q) f.1,
          ))

  above-trans : (a b d : IRNode) → IsAncestor s a b → IsAncestor s b d → IsAncestor s a d
  above-trans a b d h k = (k.0 + h.0, climb-on (parent_of s) k.0 h.0 d b (Some a) k.1 h.1)

  -- an operation p stands in the body of the table t
  module _ (w : IsStanding s) (t p : Ptr OperationKind) (here : Has (children_in s (body s t)) (Operation p)) where
    -- which is a block
    record IsHome : Type 0 where
      pub block : IRNode
      pub at_body : body s t ≡ Some block
      pub in_block : Has (children s block) (Operation p)
      pub over : parent_of s (Operation p) ≡ Some block

    home : IsHome
    home = at (body s t) refl here
      where
        at : (o : Option IRNode) → body s t ≡ o → Has (children_in s o) (Operation p) → IsHome
        at None e h = absurd h
        at (Some b) e h = record { block = b; at_body = e; in_block = h; over = w.forest.child_parent b (Operation p) h }

    in-place : IsBody s t home.block
    in-place = body-is s t home.block home.at_body

    block-over : parent_of s home.block ≡ Some in-place.region
    block-over = w.forest.child_parent in-place.region home.block
        (subst (λ z. Has z home.block) (sym in-place.block) (inl refl))

    region-over : parent_of s in-place.region ≡ Some (Operation t)
    region-over = w.forest.child_parent (Operation t) in-place.region
        (subst (λ z. Has z in-place.region) (sym in-place.one) (inl refl))

    -- its parent operation is the table
    pub home-over : op_over s p ≡ Some t
    home-over =
        ap as_op (ap (climb (parent_of s) 2) home.over ∙ ap (climb (parent_of s) 1) block-over ∙ region-over)

    pub home-live : is_live s (Operation p) ≡ true
    home-live = w.forest.child_live home.block (Operation p) home.in_block

    -- and that stands not below it
    not-below : IsAncestor s (Operation p) (Operation t) → ⊥
    not-below h =
        (let d = shallower s w h.0 (Operation t) (Operation p) h.1 in
        let a = w.measured.deeper home.block (Operation p) home.over in
        let b = w.measured.deeper in-place.region home.block block-over in
        let e = w.measured.deeper (Operation t) in-place.region region-over in
        omega (arith, d, a, b, e))

  -- no operation has two tables whose bodies it stands in
  pub one-home : IsStanding s → (t v p : Ptr OperationKind) → Has (children_in s (body s t)) (Operation p) →
      Has (children_in s (body s v)) (Operation p) → t ≡ v
  one-home w t v p h k = same_Some t v (sym (home-over w t p h) ∙ home-over w v p k)

  module _ (own_table : K → Bool) where
    abbrev table_at : Ptr OperationKind → Bool
    table_at p = is_table_kind own_table (kind_in (op_at s p))

    -- no table stands from p down to u
    abbrev IsOpen : Ptr OperationKind → Ptr OperationKind → Type 0
    IsOpen p u = (m : Ptr OperationKind) → IsAncestor s (Operation p) (Operation m) →
        IsAncestor s (Operation m) (Operation u) → table_at m ≡ false

    module _ (w : IsStanding s) (t p : Ptr OperationKind) (here : Has (children_in s (body s t)) (Operation p)) where
      -- the table is come by from u, with none on the way
      abbrev IsWay : Ptr OperationKind → Type 0
      IsWay u = (k : ℕ) × (climb (op_over s) k (Some u) ≡ Some t)
          × ((j : ℕ) (m : Ptr OperationKind) → j < k → climb (op_over s) j (Some u) ≡ Some m → table_at m ≡ false)

      one-way : (u : Ptr OperationKind) → u ≡ p → table_at u ≡ false → IsWay u
      one-way u same off =
          (1, ap (op_over s) same ∙ home-over w t p here, λ j m less e. at j m less e)
        where
          at : (j : ℕ) (m : Ptr OperationKind) → j < 1 → climb (op_over s) j (Some u) ≡ Some m → table_at m ≡ false
          at zero m less e = subst (λ z. table_at z ≡ false) (same_Some u m e) off
          at (suc j) m less e = absurd (let z : ⊥ = omega (arith, less) in z)

      way-on : (u v : Ptr OperationKind) → op_over s u ≡ Some v → table_at u ≡ false → IsWay v → IsWay u
      way-on u v e off h = (suc h.0, ap (climb (op_over s) h.0) e ∙ h.1, λ j m less f. at j m less f)
        where
          at : (j : ℕ) (m : Ptr OperationKind) → j < suc h.0 → climb (op_over s) j (Some u) ≡ Some m →
              table_at m ≡ false
          at zero m less f = subst (λ z. table_at z ≡ false) (same_Some u m f) off
          at (suc j) m less f = h.2 j m (omega (arith, less)) (ap (climb (op_over s) j) (sym e) ∙ f)

      way : (fuel k : ℕ) (u : Ptr OperationKind) → k ≤ fuel →
          climb (parent_of s) k (Some (Operation u)) ≡ Some (Operation p) → IsOpen p u → IsWay u
      way zero k u less e free = elim (op-step u p k e) [
        | inl same ↦ one-way u same (free u (k, e) (0, refl))
        | inr o ↦ absurd (let z : ⊥ = omega (arith, less, o.less) in z)
      ]
      way (suc fuel) k u less e free = elim (op-step u p k e) [
        | inl same ↦ one-way u same (free u (k, e) (0, refl))
        | inr o ↦ way-on u o.over o.is (free u (k, e) (0, refl))
            (way fuel o.left o.over (omega (arith, less, o.less)) o.rest
            (λ m a b. free m a (above-trans (Operation m) (Operation o.over) (Operation u) b o.under)))
      ]

      -- an operation that is open under p has the table as its nearest one
      pub open-nearest : (u : Ptr OperationKind) → table_at t ≡ true → IsAncestor s (Operation p) (Operation u) →
          IsOpen p u → IsNearest own_table s u (Some t)
      open-nearest u is above free = (let f = way above.0 above.0 u (omega arith) above.1 free in (f.0, f.1, is, f.2))

      -- and one under p that has it is open
      pub nearest-open : (u : Ptr OperationKind) → IsNearest own_table s u (Some t) → IsOpen p u
      nearest-open u near m above below =
          (let f = op-climb below.0 u m below.0 (omega arith) below.1 in
          elim (cases_lt f.0 near.0) [
            | inl less ↦ near.3 f.0 m less f.1
            | inr more ↦ absurd (not-below w t p here (above-trans (Operation p) (Operation m) (Operation t) above
                (node-climb (f.0 - near.0) t m (climb-past (op_over s) near.0 f.0 u t (Some m) more near.1 f.1))))
          ])
