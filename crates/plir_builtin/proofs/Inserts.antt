-- Why an insertion is refused, and where it needs memory.
use Rattle.std.proofs.Common.{◌≡◌, ◌∙◌, ℕ, Bool, List, Option, Some, None, IsSome, inl, inr, sym, subst}
use Rattle.std.specs.Prelude.{IfSome}
use Rattle.plir_core.specs.declared.ptr.Ptr.{Ptr}
use Rattle.plir_core.specs.declared.ptr.Operation.{Operation as OperationKind}
use Rattle.plir_core.specs.declared.ptr.BasicBlock.{BasicBlock as BlockKind}
use Rattle.plir_core.specs.declared.ptr.IRNode.TheVariants.{Operation, BasicBlock}
use Rattle.plir_core.specs.declared.insertion_point.OpInsertionPoint.{OpInsertionPoint}
use Rattle.plir_core.specs.ContextView.{ContextView, parent_of}
use Rattle.plir_builtin.specs.declared.symbol_table_err.SymbolTableErr.{SymbolTableErr}
use Rattle.plir_builtin.specs.Symbols.{body}
use Rattle.plir_builtin.specs.Refusals.{Refusal, redefined, elsewhere, reported, reported_or, IsSymbolNamed}
use Rattle.plir_builtin.specs.Refusals.{IsNotOthers, IsInsertErr, IsInsertGrowth, IsInsertRefusal, IsPlaceable}
use Rattle.plir_builtin.specs.Plan.{IsPlace, IsPlanned}

-- one refusal is reported, if memory isn't refused in its place
told_alone : (M : Type 0) (P : Refusal → Type 0) (r : Refusal) (o : Option Refusal) → IfSome o (λ q. q ≡ r) → M → P r
    → reported_or M P o
told_alone M P r None h m p = m
told_alone M P r (Some q) h m p = subst P (sym h) p

module _ {K A T : Type 0} (w own : K → Bool) (s : ContextView K A T) (find : List ℕ → Option (Ptr OperationKind))
    (t o : Ptr OperationKind) (p : Option OpInsertionPoint) (x : List ℕ) (named : IsSymbolNamed own s o x) where
  pub insert-redefines : ((q : Ptr OperationKind) × (find x ≡ Some q) × (q ≡ o → ⊥)) → (e : SymbolTableErr)
      → IfSome (reported e) (λ r. r ≡ redefined x) → IsInsertErr own s find t o p e
  insert-redefines other e h =
      told_alone (IsInsertGrowth own s find t o p) (IsInsertRefusal own s find t o p) (redefined x) (reported e) h
      (x, named, inl (named, other)) (named, other)

  pub insert-elsewhere : IsNotOthers own s find o x → IsSome (parent_of s (Operation o))
      → (parent_of s (Operation o) ≡ body s t → ⊥) → (e : SymbolTableErr) → IfSome (reported e) (λ r. r ≡ elsewhere x)
      → IsInsertErr own s find t o p e
  insert-elsewhere free linked out e h =
      told_alone (IsInsertGrowth own s find t o p) (IsInsertRefusal own s find t o p) (elsewhere x) (reported e) h
      (x, named, inr (inl (named, free, linked, out))) (named, free, linked, out)

  -- nothing else refuses it
  pub insert-grows : IsNotOthers own s find o x → (b : Ptr BlockKind) → body s t ≡ Some (BasicBlock b)
      → (place : Option OpInsertionPoint) → IsPlace w s t o p b place → IsInsertGrowth own s find t o p
  insert-grows free b at_body None h = (x, named, inr (inr (free, inl (h ∙ sym at_body))))
  insert-grows free b at_body (Some q) h = (x, named, inr (inr (free, inr (h.0, (λ r e. h.4 r e ∙ sym at_body)))))

pub planned-grows : {K A T : Type 0} (w own : K → Bool) (s : ContextView K A T)
    (find : List ℕ → Option (Ptr OperationKind)) (t o : Ptr OperationKind) (p : Option OpInsertionPoint) (x : List ℕ)
    (b : Ptr BlockKind) (place : Option OpInsertionPoint) → IsPlanned w own s find t o p x b place
    → IsInsertGrowth own s find t o p
planned-grows w own s find t o p x b place h =
    insert-grows w own s find t o p x h.named h.free b h.at_body place h.placed

pub planned-placeable : {K A T : Type 0} (w own : K → Bool) (s : ContextView K A T)
    (find : List ℕ → Option (Ptr OperationKind)) (t o : Ptr OperationKind) (p : Option OpInsertionPoint) (x : List ℕ)
    (b : Ptr BlockKind) (place : Option OpInsertionPoint) → IsPlanned w own s find t o p x b place
    → IsPlaceable own s t o p
planned-placeable w own s find t o p x b place h = at place h.placed
  where
    at : (q : Option OpInsertionPoint) → IsPlace w s t o p b q → IsPlaceable own s t o p
    at None e = inl (e ∙ sym h.at_body)
    at (Some q) e = inr (e.0, (λ r f. e.4 r f ∙ sym h.at_body))
