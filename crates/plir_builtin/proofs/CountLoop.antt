-- The loop that counts the symbols of a block.
use Rattle.std.proofs.Common.{◌≡◌, ℕ, ◌+◌, ◌≤◌, ◌<◌, arith, Bool, true, cond, List, [], ◌∷◌, ◌++◌}
use Rattle.std.proofs.Common.{length, length-append, Option, Some, None, sym, ap, subst, ◌∙◌}
use Rattle.std.specs.Prelude.{option_map}
use Rattle.plir_core.specs.declared.ptr.Ptr.{Ptr}
use Rattle.plir_core.specs.declared.ptr.Operation.{Operation as OperationKind}
use Rattle.plir_core.specs.declared.ptr.BasicBlock.{BasicBlock as BlockKind}
use Rattle.plir_core.specs.declared.ptr.IRNode.{IRNode}
use Rattle.plir_core.specs.declared.ptr.IRNode.TheVariants.{Operation, BasicBlock}
use Rattle.plir_store.specs.Members.{head}
use Rattle.plir_core.specs.Standing.{IsStanding}
use Rattle.plir_core.specs.ContextView.{ContextView, children, is_live, op_at, kind_in, first_child, next_sibling}
use Rattle.plir_builtin.specs.Symbols.{symbols_among, symbols_of, is_symbol_kind, name_held, symbols_in}
use Rattle.plir_builtin.specs.Left.{left_in}
use Rattle.plir_builtin.proofs.SymbolLists.{symbols-append}
use Rattle.plir_builtin.proofs.Passing.{IsPassing, passing-start, passing-end, passing-live, passing-more}
use Rattle.plir_builtin.proofs.Passing.{passing-falls}

module _ {K A T : Type 0} (own : K → Bool) (s : ContextView K A T) (b : Ptr BlockKind) where
  -- no more symbols are counted than stand before `at`
  pub record IsCounting (at : Option (Ptr OperationKind)) (count : ℕ) : Type 0 where
    pub before : List IRNode
    pub passing : IsPassing own s b before at
    pub few : count ≤ length (symbols_among own (op_at s) before)

  pub counting-start : (at : Option (Ptr OperationKind)) → option_map Operation at ≡ first_child s (BasicBlock b)
      → first_child s (BasicBlock b) ≡ head (children s (BasicBlock b)) → IsCounting at 0
  counting-start at e f = record { before = []; passing = passing-start own s b at e f; few = omega arith }

  pub counting-end : (at : Option (Ptr OperationKind)) (count : ℕ) → IsCounting at count → at ≡ None
      → count ≤ length (symbols_in own s (Some (BasicBlock b)))
  counting-end at count r none =
      subst (λ ns. count ≤ length (symbols_among own (op_at s) ns))
      (sym (passing-end own s b r.before at r.passing none)) r.few

  module _ (w : IsStanding s) (at : Option (Ptr OperationKind)) (count : ℕ) (r : IsCounting at count)
      (p : Ptr OperationKind) (is : at ≡ Some p) where
    pub counting-live : is_live s (Operation p) ≡ true
    counting-live = passing-live own s b w r.before at r.passing p is

    module _ (next : Option (Ptr OperationKind)) (e : option_map Operation next ≡ next_sibling s (Operation p))
        (law : (over : IRNode) (xs ys : List IRNode) → children s over ≡ xs ++ Operation p ∷ ys
        → next_sibling s (Operation p) ≡ head ys) where
      pub counting-more : (more : ℕ) → more ≤ count + length (symbols_of own s p) → IsCounting next more
      counting-more more h =
          let both =
          ap length (symbols-append own (op_at s) r.before (Operation p ∷ []))
          ∙ length-append (symbols_among own (op_at s) r.before) (symbols_of own s p) in
          record {
            before = r.before ++ Operation p ∷ [];
            passing = passing-more own s b w r.before at r.passing p is next e law;
            few = omega (arith, h, r.few, both);
          }

      pub counting-falls : left_in (children s (BasicBlock b)) next < left_in (children s (BasicBlock b)) at
      counting-falls = passing-falls own s b w r.before at r.passing p is next e law

-- an operation that is a symbol counts one
pub counts-one : {K A T : Type 0} (own : K → Bool) (s : ContextView K A T) (p : Ptr OperationKind)
    → is_symbol_kind own (kind_in (op_at s p)) ≡ true → length (symbols_of own s p) ≡ 1
counts-one own s p kind =
    λ i. length {A = Ptr OperationKind × Option (List ℕ)} (cond (kind i) ((p, name_held (op_at s p)) ∷ []) [])
