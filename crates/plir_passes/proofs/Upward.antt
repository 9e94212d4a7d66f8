-- What stands in what, by climbing: an operation stands in a block, that in a region, and that in an operation.
use Rattle.std.proofs.Common.{◌≡◌, ◌+◌, ℕ, zero, suc, arith, Bool, true, false, cond, Option, Some, None}
use Rattle.std.proofs.Common.{refl, sym, ap, subst, ◌∙◌}
use Rattle.std.specs.Prelude.{option_map}
use Rattle.std.proofs.lemmas.Option.{none-some, same_Some}
use Rattle.plir_store.specs.Lists.{parent_at}
use Rattle.plir_core.specs.declared.ptr.Ptr.{Ptr}
use Rattle.plir_core.specs.declared.ptr.Operation.{Operation as OperationKind}
use Rattle.plir_core.specs.declared.ptr.Region.{Region as RegionKind}
use Rattle.plir_core.specs.declared.ptr.BasicBlock.{BasicBlock as BlockKind}
use Rattle.plir_core.specs.declared.ptr.IRNode.{IRNode}
use Rattle.plir_core.specs.declared.ptr.IRNode.TheVariants.{Operation, Region, BasicBlock}
use Rattle.plir_core.specs.Above.{climb, Reaches}
use Rattle.plir_core.specs.Nodes.{block_node, is_node_live, op_node, ptr_at, region_node}
use Rattle.plir_core.specs.ContextView.{ContextView, IsAncestor, IsLive, op_above, parent_of}
use Rattle.plir_core.specs.Forest.{look, IsForest}
use Rattle.plir_walk.specs.NodeLaws.{climb-nothing, same-op}
use Rattle.plir_passes.specs.Reached.{IsReached, IsReachedIn, IsUnder, NeedsUnder, StandsIn, StaysItself}

module _ {N : Type 0} (up : N → Option N) where
  pub climb-on : (j k : ℕ) (a b : N) (o : Option N) → climb up j (Some a) ≡ Some b → climb up k (Some b) ≡ o →
      climb up (j + k) (Some a) ≡ o
  climb-on zero k a b o e f =
      (let same : 0 + k ≡ k = omega arith in
      ap (λ z. climb up z (Some a)) same ∙ ap (climb up k) e ∙ f)
  climb-on (suc j) k a b o e f =
      (let next : suc j + k ≡ suc (j + k) = omega arith in
      ap (λ z. climb up z (Some a)) next ∙ at (λ m g. climb-on j k m b o g f) (up a) refl)
    where
      at : ((m : N) → climb up j (Some m) ≡ Some b → climb up (j + k) (Some m) ≡ o) → (p : Option N) → up a ≡ p →
          climb up (j + k) (up a) ≡ o
      at rest None q = absurd (climb-nothing up j b (ap (climb up j) (sym q) ∙ e))
      at rest (Some m) q = ap (climb up (j + k)) q ∙ rest m (ap (climb up j) (sym q) ∙ e)

  pub reach-on : (a b c : N) → Reaches up a b → Reaches up b c → Reaches up a c
  reach-on a b c h k = (h.0 + k.0, climb-on h.0 k.0 a b (Some c) h.1 k.1)

  -- the first step of a climb
  pub first-step : (k : ℕ) (n a : N) → climb up (suc k) (Some n) ≡ Some a →
      (m : N) × (up n ≡ Some m) × (climb up k (Some m) ≡ Some a)
  first-step k n a e = at (up n) refl
    where
      at : (o : Option N) → up n ≡ o → (m : N) × (up n ≡ Some m) × (climb up k (Some m) ≡ Some a)
      at None q = absurd (climb-nothing up k a (ap (climb up k) (sym q) ∙ e))
      at (Some m) q = (m, q, ap (climb up k) (sym q) ∙ e)

over-some : (f : ℕ → IRNode) (l : Bool) (o : Option ℕ) (n : IRNode) → cond l (option_map f o) None ≡ Some n →
    (i : ℕ) × (n ≡ f i)
over-some f false o n e = absurd (none-some n e)
over-some f true None n e = absurd (none-some n e)
over-some f true (Some i) n e = (i, sym (same_Some (f i) n e))

module _ {K A T : Type 0} (s : ContextView K A T) where
  -- above an operation there is a block, above a block a region, and above a region an operation
  pub over-op : (p : Ptr OperationKind) (n : IRNode) → parent_of s (Operation p) ≡ Some n →
      (b : Ptr BlockKind) × (n ≡ BasicBlock b)
  over-op p n e =
      (let f = over-some (block_node s.nodes) (is_node_live s.nodes (Operation p))
      (parent_at s.nodes.ops_in_block p.slot) n e in
      (ptr_at s.nodes.blocks f.0, f.1))

  over-block : (b : Ptr BlockKind) (n : IRNode) → parent_of s (BasicBlock b) ≡ Some n →
      (r : Ptr RegionKind) × (n ≡ Region r)
  over-block b n e =
      (let f = over-some (region_node s.nodes) (is_node_live s.nodes (BasicBlock b))
      (parent_at s.nodes.blocks_in_region b.slot) n e in
      (ptr_at s.nodes.regions f.0, f.1))

  over-region : (r : Ptr RegionKind) (n : IRNode) → parent_of s (Region r) ≡ Some n →
      (p : Ptr OperationKind) × (n ≡ Operation p)
  over-region r n e =
      (let f = over-some (op_node s.nodes) (is_node_live s.nodes (Region r))
      (parent_at s.nodes.regions_in_op r.slot) n e in
      (ptr_at s.nodes.ops f.0, f.1))

  -- what climbs from a block to an operation goes by the operation that the block stands in
  pub op-of-block : (b : Ptr BlockKind) (k : ℕ) (p : Ptr OperationKind) →
      climb (parent_of s) k (Some (BasicBlock b)) ≡ Some (Operation p) →
      (q : Ptr OperationKind) × (j : ℕ) × (k ≡ suc (suc j)) × (op_above s (BasicBlock b) ≡ Some (Operation q)) ×
      (climb (parent_of s) j (Some (Operation q)) ≡ Some (Operation p))
  op-of-block b zero p e = absurd (let f = same_Some (BasicBlock b) (Operation p) e in let z : ⊥ = cc in z)
  op-of-block b (suc zero) p e =
      let f = first-step (parent_of s) zero (BasicBlock b) (Operation p) e in
      let g = over-block b f.0 f.1 in
      let h = same_Some f.0 (Operation p) f.2 in
      let z : ⊥ = cc (g.1, h) in absurd z
  op-of-block b (suc (suc j)) p e =
      let f = first-step (parent_of s) (suc j) (BasicBlock b) (Operation p) e in
      let g = over-block b f.0 f.1 in
      let h = first-step (parent_of s) j f.0 (Operation p) f.2 in
      let i = over-region g.0 h.0 (ap (parent_of s) (sym g.1) ∙ h.1) in (
        i.0,
        j,
        refl,
        ap (climb (parent_of s) 1) f.1 ∙ h.1 ∙ ap Some i.1,
        ap (λ z. climb (parent_of s) j (Some z)) (sym i.1) ∙ h.2,
      )

  -- what climbs from an operation to another one goes by the operation that it stands in
  pub op-of-op : (u : Ptr OperationKind) (k : ℕ) (p : Ptr OperationKind) →
      climb (parent_of s) (suc k) (Some (Operation u)) ≡ Some (Operation p) →
      (q : Ptr OperationKind) × (j : ℕ) × (k ≡ suc (suc j)) × StandsIn s q u ×
      (climb (parent_of s) j (Some (Operation q)) ≡ Some (Operation p))
  op-of-op u k p e =
      let f = first-step (parent_of s) k (Operation u) (Operation p) e in
      let g = over-op u f.0 f.1 in
      let h = op-of-block g.0 k p (ap (λ z. climb (parent_of s) k (Some z)) (sym g.1) ∙ f.2) in (
        h.0,
        h.1,
        h.2,
        ap (climb (parent_of s) 2) (f.1 ∙ ap Some g.1) ∙ h.3,
        h.4,
      )

  -- what stands in an operation stands below it
  pub stands-under : (q u : Ptr OperationKind) → StandsIn s q u → IsAncestor s (Operation q) (Operation u)
  stands-under q u e = (3, e)

  -- What holds of an operation and of each that one stands in of which it holds, holds of all that stand above it.
  pub upward : (P : Ptr OperationKind → Type 0) (p : Ptr OperationKind) →
      ((u q : Ptr OperationKind) → P u → StandsIn s q u → IsAncestor s (Operation p) (Operation q) → P q) → (k : ℕ)
      (u : Ptr OperationKind) → climb (parent_of s) k (Some (Operation u)) ≡ Some (Operation p) → P u → P p
  upward P p over zero u e h = subst P (same-op u p (same_Some (Operation u) (Operation p) e)) h
  upward P p over (suc zero) u e h =
      let f = op-of-op u zero p e in
      let z : ⊥ = cc (f.2) in absurd z
  upward P p over (suc (suc zero)) u e h =
      let f = op-of-op u (suc zero) p e in
      let z : ⊥ = omega (arith, f.2) in absurd z
  upward P p over (suc (suc (suc k))) u e h =
      let f = op-of-op u (suc (suc k)) p e in
      let same : f.1 ≡ k = omega (arith, f.2) in
      let g : climb (parent_of s) k (Some (Operation f.0)) ≡ Some (Operation p) =
      ap (λ z. climb (parent_of s) z (Some (Operation f.0))) (sym same) ∙ f.4 in
      upward P p over k f.0 g (over u f.0 h f.3 (k, g))

  -- what stands at or below a live node is live
  pub under-live : IsForest (look s) → (r n : IRNode) → IsAncestor s r n → IsLive s r → IsLive s n
  under-live w r n h live = at h.0 h.1
    where
      at : (k : ℕ) → climb (parent_of s) k (Some n) ≡ Some r → IsLive s n
      at zero e = subst (IsLive s) (sym (same_Some n r e)) live
      at (suc k) e =
          let f = first-step (parent_of s) k n r e in
          w.child_live f.0 n (w.parent_child f.0 n f.1)

-- what is reached is the root or stands below it
pub reached-is-under : {K A T : Type 0} (effect ends : K → Bool) (s : ContextView K A T) (r q : Ptr OperationKind) →
    IsReached effect ends s r q → IsUnder s r q
reached-is-under effect ends s r q h = at h.0 h.1
  where
    at : (k : ℕ) → IsReachedIn (StaysItself effect ends s r) (NeedsUnder effect ends s r) k q → IsUnder s r q
    at zero f = f.0
    at (suc k) f = f.2.0
