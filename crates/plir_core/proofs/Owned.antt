-- Regions that are live stand in operations.
use Rattle.std.proofs.Common.{◌≡◌, ℕ, true, Option, Some, None, IsSome, refl}
use Rattle.plir_store.specs.Lists.{parent_at}
use Rattle.plir_core.specs.Nodes.{Nodes, node_parent, is_node_live, ptr_at}
use Rattle.plir_core.specs.Stored.{IsStored}
use Rattle.plir_core.specs.declared.ptr.Ptr.{Ptr}
use Rattle.plir_core.specs.declared.ptr.Operation.{Operation as OperationKind}
use Rattle.plir_core.specs.declared.ptr.Region.{Region as RegionKind}
use Rattle.plir_core.specs.declared.ptr.IRNode.TheVariants.{Operation, Region}
use Rattle.plir_core.proofs.Facts.{live_parts}

module _ {O B : Type 0} (s : Nodes O B) (w : IsStored s) (r : Ptr RegionKind) (live : is_node_live s (Region r) ≡ true)
  where
    by_seat : (o : Option ℕ) → parent_at s.regions_in_op r.slot ≡ o → IsSome o → (p : Ptr OperationKind) ×
        (node_parent s (Region r) ≡ Some (Operation p))
    by_seat None q i = (let z : ⊥ = cc (i) in absurd z)
    by_seat (Some p) q i = (ptr_at s.ops p, rw (live, q) refl)

    pub region-owned : (p : Ptr OperationKind) × (node_parent s (Region r) ≡ Some (Operation p))
    region-owned =
        let owned = w.regions_owned r.slot (live_parts s.regions r.slot r.version live).0 in
        by_seat (parent_at s.regions_in_op r.slot) refl owned
