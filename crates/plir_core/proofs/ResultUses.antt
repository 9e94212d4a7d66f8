-- An operation none of whose results is used, and in whose regions nothing is used from outside, is not used from
-- outside.
use Rattle.std.proofs.Common.{◌≡◌, ◌⊎◌, ℕ, zero, suc, List, [], ◌∷◌, length, get_or, Option, Some, None, inl, inr, refl}
use Rattle.std.proofs.Common.{◌∙◌, subst, arith, nat_lt}
use Rattle.std.specs.Prelude.{All, Contains}
use Rattle.std.proofs.lemmas.Bool.{and_parts, ltb-true}
use Rattle.std.proofs.lemmas.List.Elements.{All-contains, All-head, All-tail, Contains-get_or}
use Rattle.std.proofs.lemmas.Option.{same_Some}
use Rattle.plir_store.specs.Members.{Has}
use Rattle.plir_core.specs.declared.ptr.Ptr.{Ptr}
use Rattle.plir_core.specs.declared.ptr.Operation.{Operation as OperationKind}
use Rattle.plir_core.specs.declared.ptr.BasicBlock.{BasicBlock as BasicBlockKind}
use Rattle.plir_core.specs.declared.ptr.IRNode.{IRNode}
use Rattle.plir_core.specs.declared.ptr.IRNode.TheVariants.{Operation, BasicBlock}
use Rattle.plir_core.specs.declared.value.Value.{Value}
use Rattle.plir_core.specs.declared.value.DefiningEntity.{DefiningEntity}
use Rattle.plir_core.specs.declared.value.DefiningEntity.TheVariants.{Op, Block}
use Rattle.plir_core.specs.Above.{climb, Reaches}
use Rattle.plir_core.specs.Contents.{OpView}
use Rattle.plir_core.specs.ContextView.{ContextView, IsLive, IsValueLive, IsAncestor, is_live, children, parent_of, op_at}
use Rattle.plir_core.specs.ContextView.{entity_node, operands_of, operands_in, successors_of, types_from}
use Rattle.plir_core.specs.Results.{HasNoUsedResult}
use Rattle.plir_core.specs.Unused.{UsesNoneOf, IsUnusedOutside}
use Rattle.plir_core.specs.WellFormed.{IsWellFormed}
use Rattle.plir_core.proofs.Facts.{parent-child}
use Rattle.plir_core.proofs.Trees.{climb_last, climb_step}

-- what is in a list has what all of it have
All-has : {X : Type 0} (P : X → Type 0) (xs : List X) (x : X) → All P xs → Has xs x → P x
All-has P (y ∷ ys) x a (inl e) = subst P e (All-head P y ys a)
All-has P (y ∷ ys) x a (inr h) = All-has P ys x (All-tail P y ys a) h
All-has P [] x a h = absurd h

-- who climbs to a node began there, or comes by a child of it
by_child : {N : Type 0} (up : N → Option N) (a : N) (k : ℕ) (n : N) → climb up k (Some n) ≡ Some a → (n ≡ a) ⊎
    ((c : N) × (Reaches up n c × (up c ≡ Some a)))
by_child up a zero n e = inl (same_Some n a e)
by_child up a (suc k) n e = let r = climb_last up k (Some n) a e in inr (r.0, ((k, r.1.0), r.1.1))

module _ {K A T : Type 0} (own : A → List ℕ) (s : ContextView K A T) (w : IsWellFormed own s) where
  operands_live : (p : Ptr OperationKind) (o : Option (OpView K A)) → op_at s p ≡ o → All (IsValueLive s)
      (operands_in o)
  operands_live p None e = λ k d h. absurd (omega (arith, h))
  operands_live p (Some v) e = (w.holds.ops p.slot v e).operands

  module _ (o : Ptr OperationKind) (results : HasNoUsedResult s o)
      (regions : All (IsUnusedOutside s) (children s (Operation o))) where
    region_unused : (c : IRNode) → parent_of s c ≡ Some (Operation o) → IsUnusedOutside s c
    region_unused c e = All-has (IsUnusedOutside s) (children s (Operation o)) c regions
        (parent-child s.nodes w.stored (Operation o) c e)

    -- an operand is no result of it
    no_result : (p : Ptr OperationKind) → IsLive s (Operation p) → (d : DefiningEntity) (i : ℕ) → Contains
        (operands_of s p) (record { entity = d; index = i }) → entity_node d ≡ Operation o → ⊥
    no_result p live (Op q) i c e =
        let same : q ≡ o = cc in
        let here : Contains (operands_of s p) (record { entity = Op o; index = i }) = subst
        (λ z. Contains (operands_of s p) (record { entity = Op z; index = i })) same c in
        let lives : IsValueLive s (record { entity = Op o; index = i }) = All-contains (IsValueLive s) (operands_of s p)
        (record { entity = Op o; index = i }) (operands_live p (op_at s p) refl) here in
        results i (ltb-true i (length (types_from s (Op o))) (and_parts (is_live s (Operation o))
        (nat_lt i (length (types_from s (Op o)))) lives).1) (p, (live, here))
    no_result p live (Block q) i c e = absurd (let x : ⊥ = cc in x)

    pub unused : IsUnusedOutside s (Operation o)
    unused p live out = record {
      operands = λ k d h r. operand (get_or (operands_of s p) k d) (Contains-get_or (operands_of s p) k d h) r;
      successors = λ k d h r. successor (get_or (successors_of s p) k d)
          (Contains-get_or (successors_of s p) k d h) r;
    }
      where
        by : (c : IRNode) → parent_of s c ≡ Some (Operation o) → UsesNoneOf s c p
        by c e = region_unused c e p live (λ a. out (suc a.0, climb_step (parent_of s) a.0 (Some (Operation p)) c a.1 ∙ e))

        operand : (v : Value) → Contains (operands_of s p) v → IsAncestor s (Operation o) (entity_node v.entity) → ⊥
        operand v c r = elim (by_child (parent_of s) (Operation o) r.0 (entity_node v.entity) r.1) [
          | inl e ↦ no_result p live v.entity v.index c e
          | inr q ↦
              All-contains (λ x. IsAncestor s q.0 (entity_node x.entity) → ⊥) (operands_of s p) v
              (by q.0 q.1.1).operands c q.1.0
        ]

        successor : (b : Ptr BasicBlockKind) → Contains (successors_of s p) b → IsAncestor s (Operation o)
            (BasicBlock b) → ⊥
        successor b c r = elim (by_child (parent_of s) (Operation o) r.0 (BasicBlock b) r.1) [
          | inl e ↦ absurd (let x : ⊥ = cc in x)
          | inr q ↦
              All-contains (λ x. IsAncestor s q.0 (BasicBlock x) → ⊥) (successors_of s p) b (by q.0 q.1.1).successors c
              q.1.0
        ]
