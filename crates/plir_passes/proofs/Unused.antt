-- What it is for an operation without regions to be unused.
use Rattle.std.proofs.Common.{◌≡◌, ℕ, zero, List, Some, refl, ap, subst, ◌∙◌}
use Rattle.std.specs.Prelude.{All, slice_get, slice_index_or}
use Rattle.std.proofs.lemmas.Option.{slice_get_within, slice_get-get_or, get_or_from_slice_get}
use Rattle.plir_core.specs.declared.ptr.Ptr.{Ptr}
use Rattle.plir_core.specs.declared.ptr.Operation.{Operation as OperationKind}
use Rattle.plir_core.specs.declared.ptr.IRNode.{IRNode}
use Rattle.plir_core.specs.declared.ptr.IRNode.TheVariants.{Operation}
use Rattle.plir_core.specs.declared.value.DefiningEntity.{DefiningEntity}
use Rattle.plir_core.specs.declared.value.DefiningEntity.TheVariants.{Op, Block}
use Rattle.plir_core.specs.Above.{Reaches}
use Rattle.plir_core.specs.ContextView.{ContextView, parent_of, operands_of, entity_node}
use Rattle.plir_core.specs.Unused.{IsUnusedOutside}
use Rattle.plir_walk.specs.NodeLaws.{same-op}
use Rattle.plir_passes.specs.Dead.{IsUsedByNone}

at_place : {A : Type 0} (P : A → Type 0) (xs : List A) (i : ℕ) (x : A) → slice_get xs i ≡ Some x → All P xs → P x
at_place P xs i x e a = subst P (get_or_from_slice_get xs i x x e) (a i x (slice_get_within xs i x e))

same-entity : (e : DefiningEntity) (p : Ptr OperationKind) → entity_node e ≡ Operation p → e ≡ Op p
same-entity (Op q) p h = ap Op (same-op q p h)
same-entity (Block b) p h = (let z : ⊥ = cc h in absurd z)

module _ {K A T : Type 0} (s : ContextView K A T) (p : Ptr OperationKind)
    (leaf : (n : IRNode) → Reaches (parent_of s) n (Operation p) → n ≡ Operation p) where
  pub unused-by-none : IsUnusedOutside s (Operation p) → IsUsedByNone s p
  unused-by-none u q l ne uses =
      at_place (λ v. Reaches (parent_of s) (entity_node v.entity) (Operation p) → ⊥) (operands_of s q) uses.place _
      uses.here
      (u q l (λ r. ne (same-op q p (leaf (Operation q) r)))).operands (zero, refl)

  pub by-none-unused : IsUsedByNone s p → IsUnusedOutside s (Operation p)
  by-none-unused h q l away = record {
    operands = λ k d lt r.
        (let v = slice_index_or (operands_of s q) k d in
        let e = same-entity v.entity p (leaf (entity_node v.entity) r) in
        h q l (λ is. away (zero, ap (λ z. Some (Operation z)) is)) (record {
          place = k;
          index = v.index;
          here = slice_get-get_or (operands_of s q) k d lt ∙ ap (λ z. Some (record { entity = z; index = v.index })) e;
        }));
    successors = λ k d lt r. (let e = leaf _ r in let z : ⊥ = cc e in z);
  }
