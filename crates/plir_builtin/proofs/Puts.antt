-- Operations that are put into blocks.
use Rattle.std.proofs.Common.{◌≡◌, ℕ, zero, suc, List, [], ◌∷◌, ◌++◌, append_assoc, Some, None, refl, sym, ap, subst}
use Rattle.std.proofs.Common.{◌∙◌}
use Rattle.std.proofs.lemmas.Option.{same_Some, none-some}
use Rattle.plir_core.specs.declared.ptr.Ptr.{Ptr}
use Rattle.plir_core.specs.declared.ptr.Operation.{Operation as OperationKind}
use Rattle.plir_core.specs.declared.ptr.BasicBlock.{BasicBlock as BlockKind}
use Rattle.plir_core.specs.declared.ptr.IRNode.{IRNode}
use Rattle.plir_core.specs.declared.ptr.IRNode.TheVariants.{Operation, BasicBlock}
use Rattle.plir_core.specs.Placed.{IsPlaced}
use Rattle.plir_core.specs.declared.insertion_point.OpInsertionPoint.{OpInsertionPoint}
use Rattle.plir_core.specs.declared.insertion_point.OpInsertionPoint.TheVariants.{AtBlockStart, BeforeOperation}
use Rattle.plir_core.specs.declared.insertion_point.OpInsertionPoint.TheVariants.{AfterOperation}
use Rattle.plir_core.specs.InsertionPoint.{insertion_block}
use Rattle.plir_core.specs.Above.{climb}
use Rattle.plir_core.specs.ContextView.{ContextView, children, parent_of, IsAncestor}
use Rattle.plir_core.specs.Standing.{IsStanding}
use Rattle.plir_builtin.specs.Insertion.{IsPutInto}
use Rattle.plir_builtin.proofs.SymbolLists.{Has-cut}

module _ {K A T : Type 0} (s t : ContextView K A T) (o : Ptr OperationKind) (block : Ptr BlockKind)
    (point : OpInsertionPoint) (into : insertion_block s point ≡ Some (BasicBlock block)) where
  pub put-start : (b : Ptr BlockKind) → point ≡ AtBlockStart b
      → IsPlaced s.nodes t.nodes (Operation o) (BasicBlock b) (Operation o ∷ children s (BasicBlock b))
      → IsPutInto s t o (BasicBlock block)
  put-start b e p =
      let same : BasicBlock b ≡ BasicBlock block =
      same_Some (BasicBlock b) (BasicBlock block) (ap (insertion_block s) (sym e) ∙ into) in
      subst (λ n. IsPutInto s t o n) same
      (record { before = []; behind = children s (BasicBlock b); cut = refl; placed = p })

  pub put-before : IsStanding s → (m : Ptr OperationKind) → point ≡ BeforeOperation m
      → ((n : IRNode) (xs ys : List IRNode) → children s n ≡ xs ++ Operation m ∷ ys
      → IsPlaced s.nodes t.nodes (Operation o) n (xs ++ Operation o ∷ Operation m ∷ ys))
      → IsPutInto s t o (BasicBlock block)
  put-before w m e p =
      let over : parent_of s (Operation m) ≡ Some (BasicBlock block) = ap (insertion_block s) (sym e) ∙ into in
      let c =
      Has-cut (children s (BasicBlock block)) (Operation m)
      (w.forest.parent_child (BasicBlock block) (Operation m) over) in
      record { before = c.0; behind = Operation m ∷ c.1; cut = c.2; placed = p (BasicBlock block) c.0 c.1 c.2 }

  pub put-after : IsStanding s → (m : Ptr OperationKind) → point ≡ AfterOperation m
      → ((n : IRNode) (xs ys : List IRNode) → children s n ≡ xs ++ Operation m ∷ ys
      → IsPlaced s.nodes t.nodes (Operation o) n (xs ++ Operation m ∷ Operation o ∷ ys))
      → IsPutInto s t o (BasicBlock block)
  put-after w m e p =
      let over : parent_of s (Operation m) ≡ Some (BasicBlock block) = ap (insertion_block s) (sym e) ∙ into in
      let c =
      Has-cut (children s (BasicBlock block)) (Operation m)
      (w.forest.parent_child (BasicBlock block) (Operation m) over) in
      record {
        before = c.0 ++ Operation m ∷ [];
        behind = c.1;
        cut = c.2 ∙ sym (append_assoc c.0 (Operation m ∷ []) c.1);
        placed =
            subst (λ ks. IsPlaced s.nodes t.nodes (Operation o) (BasicBlock block) ks)
            (sym (append_assoc c.0 (Operation m ∷ []) (Operation o ∷ c.1))) (p (BasicBlock block) c.0 c.1 c.2);
      }

  module _ (alone : parent_of s (Operation o) ≡ None) (away : IsAncestor s (Operation o) (BasicBlock block) → ⊥) where
    climbs-past : (m : Ptr OperationKind) → parent_of s (Operation m) ≡ Some (BasicBlock block) → (k : ℕ) →
        climb (parent_of s) k (Some (Operation m)) ≡ Some (Operation o) → ⊥
    climbs-past m over zero e =
        let same : Operation m ≡ Operation o = same_Some (Operation m) (Operation o) e in
        none-some (BasicBlock block) (sym alone ∙ ap (parent_of s) (sym same) ∙ over)
    climbs-past m over (suc k) e = away (k, ap (climb (parent_of s) k) (sym over) ∙ e)

    -- what doesn't stand above a block doesn't stand above an operation in it
    pub not-above-before : (m : Ptr OperationKind) → point ≡ BeforeOperation m
        → IsAncestor s (Operation o) (Operation m) → ⊥
    not-above-before m e r = climbs-past m (ap (insertion_block s) (sym e) ∙ into) r.0 r.1

    pub not-above-after : (m : Ptr OperationKind) → point ≡ AfterOperation m → IsAncestor s (Operation o) (Operation m)
        → ⊥
    not-above-after m e r = climbs-past m (ap (insertion_block s) (sym e) ∙ into) r.0 r.1
