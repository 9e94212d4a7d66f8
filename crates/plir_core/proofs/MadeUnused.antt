-- What was made is used by nothing outside it.
use Rattle.std.proofs.Common.{◌≡◌, ℕ, List, length, Option, Some, None, inl, inr, refl, sym, ap, subst, arith, nat_lt}
use Rattle.std.proofs.Common.{slice_index_or}
use Rattle.std.specs.Prelude.{All}
use Rattle.std.proofs.lemmas.Bool.{and_parts}
use Rattle.plir_core.specs.declared.ptr.Ptr.{Ptr}
use Rattle.plir_core.specs.declared.ptr.Operation.{Operation as OperationKind}
use Rattle.plir_core.specs.declared.ptr.IRNode.{IRNode}
use Rattle.plir_core.specs.declared.ptr.IRNode.TheVariants.{Operation, BasicBlock}
use Rattle.plir_core.specs.declared.value.Value.{Value}
use Rattle.plir_core.specs.Contents.{OpView}
use Rattle.plir_core.specs.Made.{IsMade}
use Rattle.plir_core.specs.Nodes.{is_node_live}
use Rattle.plir_core.specs.ContextView.{ContextView, IsLive, IsValueLive, IsAncestor, is_live, op_at, entity_node}
use Rattle.plir_core.specs.ContextView.{types_from, operands_in, successors_in}
use Rattle.plir_core.specs.Unused.{UsesNoneOf, IsUnusedOutside}
use Rattle.plir_core.specs.WellFormed.{IsWellFormed}
use Rattle.plir_core.proofs.Freed.{bool_cases}

module _ {K A T : Type 0} (own : A → List ℕ) (s t : ContextView K A T) (n : IRNode) (w : IsWellFormed own s)
    (m : IsMade s.nodes t.nodes n) where
  -- what is live outside the new tree was live before
  older : (x : IRNode) → IsLive t x → (IsAncestor t n x → ⊥) → IsLive s x
  older x live out = elim (bool_cases (is_node_live s.nodes x)) [
    | inl e ↦ e
    | inr e ↦ absurd (out (m.below x live e))
  ]

  -- and so was the owner of each value that was live
  owner_apart : (v : Value) → IsValueLive s v → IsAncestor t n (entity_node v.entity) → ⊥
  owner_apart v live = m.apart (entity_node v.entity) (and_parts (is_live s (entity_node v.entity))
      (nat_lt v.index (length (types_from s v.entity))) live).0

  held_apart : (op : Ptr OperationKind) (o : Option (OpView K A)) → op_at s op ≡ o → op_at t op ≡ o → UsesNoneOf t n op
  held_apart op None is now = record {
    operands = subst (λ xs. All (λ v. IsAncestor t n (entity_node v.entity) → ⊥) xs) (sym (ap operands_in now))
        (λ k d i. absurd (omega (arith, i)));
    successors = subst (λ xs. All (λ b. IsAncestor t n (BasicBlock b) → ⊥) xs) (sym (ap successors_in now))
        (λ k d i. absurd (omega (arith, i)));
  }
  held_apart op (Some v) is now =
      let h = w.holds.ops op.slot v is in
      record {
        operands = subst (λ xs. All (λ x. IsAncestor t n (entity_node x.entity) → ⊥) xs) (sym (ap operands_in now))
            (λ k d i. owner_apart (slice_index_or v.operands k d) (h.operands k d i));
        successors = subst (λ xs. All (λ b. IsAncestor t n (BasicBlock b) → ⊥) xs) (sym (ap successors_in now))
            (λ k d i. m.apart (BasicBlock (slice_index_or v.successors k d)) (h.successors k d i));
      }

  pub made_unused : IsUnusedOutside t n
  made_unused op live out = held_apart op (op_at s op) refl (m.keeps.ops op (older (Operation op) live out))
