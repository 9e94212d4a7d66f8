-- What stands below what, by its kind.
use Rattle.std.proofs.Common.{◌≡◌, Bool, true, false, cond, List, [], ◌∷◌, map, Some, inl, sym}
use Rattle.std.proofs.lemmas.Option.{none-some, same_Some}
use Rattle.plir_store.specs.Lists.{children_at}
use Rattle.plir_store.specs.Members.{Has}
use Rattle.plir_store.specs.MemberLaws.{Has-map}
use Rattle.plir_core.specs.declared.ptr.Ptr.{Ptr}
use Rattle.plir_core.specs.declared.ptr.Operation.{Operation as OperationKind}
use Rattle.plir_core.specs.declared.ptr.Region.{Region as RegionKind}
use Rattle.plir_core.specs.declared.ptr.BasicBlock.{BasicBlock as BasicBlockKind}
use Rattle.plir_core.specs.declared.ptr.IRNode.{IRNode}
use Rattle.plir_core.specs.declared.ptr.IRNode.TheVariants.{Operation, Region, BasicBlock}
use Rattle.plir_core.specs.Nodes.{region_node, block_node, ptr_at}
use Rattle.plir_core.specs.ContextView.{ContextView, is_live, children}
use Rattle.plir_builtin.specs.Symbols.{only}

-- the one element of a list is among its elements
pub only-Has : {X : Type 0} (xs : List X) (x : X) → only xs ≡ Some x → Has xs x
only-Has [] x e = absurd (none-some x e)
only-Has (y ∷ []) x e = inl (same_Some y x e)
only-Has (y ∷ z ∷ xs) x e = absurd (none-some x e)

module _ {K A T : Type 0} (s : ContextView K A T) where
  -- right below an operation stand regions, and right below a region blocks
  pub region-under-op : (p : Ptr OperationKind) (x : IRNode) → Has (children s (Operation p)) x →
      (r : Ptr RegionKind) × (x ≡ Region r)
  region-under-op p x h = go (is_live s (Operation p)) h
    where
      go : (b : Bool) → Has (cond b (map (region_node s.nodes) (children_at s.nodes.regions_in_op p.slot)) []) x →
          (r : Ptr RegionKind) × (x ≡ Region r)
      go true h =
          (let r = Has-map (region_node s.nodes) (children_at s.nodes.regions_in_op p.slot) x h in
          (ptr_at s.nodes.regions r.0, sym r.1.1))
      go false h = absurd h

  pub block-under-region : (r : Ptr RegionKind) (x : IRNode) → Has (children s (Region r)) x →
      (b : Ptr BasicBlockKind) × (x ≡ BasicBlock b)
  block-under-region r x h = go (is_live s (Region r)) h
    where
      go : (b : Bool) → Has (cond b (map (block_node s.nodes) (children_at s.nodes.blocks_in_region r.slot)) []) x →
          (b : Ptr BasicBlockKind) × (x ≡ BasicBlock b)
      go true h =
          (let r = Has-map (block_node s.nodes) (children_at s.nodes.blocks_in_region r.slot) x h in
          (ptr_at s.nodes.blocks r.0, sym r.1.1))
      go false h = absurd h

  -- so an operation stands right below a block alone
  pub no-op-under-op : (q p : Ptr OperationKind) → Has (children s (Operation q)) (Operation p) → ⊥
  no-op-under-op q p h = let r = region-under-op q (Operation p) h in let z : ⊥ = cc r.1 in z

  pub no-op-under-region : (r : Ptr RegionKind) (p : Ptr OperationKind) → Has (children s (Region r)) (Operation p) → ⊥
  no-op-under-region r p h = let b = block-under-region r (Operation p) h in let z : ⊥ = cc b.1 in z
