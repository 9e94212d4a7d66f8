-- The loop that reads the symbols of a block.
use Rattle.std.proofs.Common.{◌≡◌, ◌<◌, Bool, List, [], ◌∷◌, ◌++◌, append_assoc, Option, Some, None, refl, sym, ap}
use Rattle.std.proofs.Common.{subst, ◌∙◌, true}
use Rattle.std.specs.Prelude.{IfSome, IsSome, option_map}
use Rattle.plir_core.specs.declared.ptr.Ptr.{Ptr}
use Rattle.plir_core.specs.declared.ptr.Operation.{Operation as OperationKind}
use Rattle.plir_core.specs.declared.ptr.BasicBlock.{BasicBlock as BlockKind}
use Rattle.plir_core.specs.declared.ptr.IRNode.{IRNode}
use Rattle.plir_core.specs.declared.ptr.IRNode.TheVariants.{Operation, BasicBlock}
use Rattle.plir_store.specs.Members.{head}
use Rattle.plir_core.specs.Standing.{IsStanding}
use Rattle.plir_core.specs.ContextView.{ContextView, children, is_live, op_at, kind_in, first_child, next_sibling}
use Rattle.plir_builtin.specs.Table.{Table}
use Rattle.plir_builtin.specs.Symbols.{Symbols, symbols_among, symbols_in, symbols_of, body, is_table_kind}
use Rattle.plir_builtin.specs.Refusals.{Refusal, no_table, regions, blocks, no_symbol, unnamed, redefined, elsewhere}
use Rattle.plir_builtin.specs.Refusals.{outside, not_there, IsTableRefusal, IsUnnamedFirst, IsRepeatedAt}
use Rattle.plir_builtin.specs.Reading.{IsRead, ReadsOn, RefusesOn, IsFirstRefusalAt}
use Rattle.plir_builtin.specs.Left.{left_in}
use Rattle.plir_builtin.proofs.SymbolLists.{symbols-append}
use Rattle.plir_builtin.proofs.Passing.{IsPassing, passing-start, passing-end, passing-live, passing-more}
use Rattle.plir_builtin.proofs.Passing.{passing-falls, symbols-cut}

-- what was refused first in a list is refused first in a longer one
pub refused-more : (o : Ptr OperationKind) (es fs : Symbols) (r : Refusal) → IsFirstRefusalAt o es r
    → IsFirstRefusalAt o (es ++ fs) r
refused-more o es fs unnamed h = (h.0, h.1, h.2 ++ fs, ap (λ z. z ++ fs) h.3 ∙ append_assoc h.0 _ fs, h.4, h.5)
refused-more o es fs (redefined x) h = (h.0, h.1 ++ fs, ap (λ z. z ++ fs) h.2 ∙ append_assoc h.0 _ fs, h.3, h.4, h.5)
refused-more o es fs no_table h = absurd h
refused-more o es fs (regions m n) h = absurd h
refused-more o es fs blocks h = absurd h
refused-more o es fs no_symbol h = absurd h
refused-more o es fs (elsewhere x) h = absurd h
refused-more o es fs outside h = absurd h
refused-more o es fs not_there h = absurd h

module _ {K A T : Type 0} (own : K → Bool) (s : ContextView K A T) (b : Ptr BlockKind) where
  -- the operations before `at` have been read
  pub record IsReading (at : Option (Ptr OperationKind)) (t : Table) : Type 0 where
    pub before : List IRNode
    pub passing : IsPassing own s b before at
    pub read : IsRead (symbols_among own (op_at s) before) t

  pub reading-start : (at : Option (Ptr OperationKind)) (t : Table)
      → option_map Operation at ≡ first_child s (BasicBlock b)
      → first_child s (BasicBlock b) ≡ head (children s (BasicBlock b)) → IsRead [] t → IsReading at t
  reading-start at t e f r = record { before = []; passing = passing-start own s b at e f; read = r }

  pub reading-end : (at : Option (Ptr OperationKind)) (t : Table) → IsReading at t → at ≡ None
      → IsRead (symbols_among own (op_at s) (children s (BasicBlock b))) t
  reading-end at t r none =
      subst (λ z. IsRead (symbols_among own (op_at s) z) t) (sym (passing-end own s b r.before at r.passing none))
      r.read

  module _ (w : IsStanding s) (at : Option (Ptr OperationKind)) (t : Table) (r : IsReading at t) (p : Ptr OperationKind)
      (is : at ≡ Some p) where
    pub reading-live : is_live s (Operation p) ≡ true
    reading-live = passing-live own s b w r.before at r.passing p is

    -- an operation is refused
    pub reading-refused : (o : Option Refusal) → IfSome o (RefusesOn t p (symbols_of own s p))
        → IfSome o (IsFirstRefusalAt p (symbols_among own (op_at s) (children s (BasicBlock b))))
    reading-refused None h = tt
    reading-refused (Some f) h =
        let cut = symbols-cut own s b w r.before at r.passing p is in
        subst (λ z. IsFirstRefusalAt p z f) (sym cut.1)
        (refused-more p _ cut.0 f (h (symbols_among own (op_at s) r.before) r.read))

    module _ (next : Option (Ptr OperationKind)) (e : option_map Operation next ≡ next_sibling s (Operation p))
        (law : (over : IRNode) (xs ys : List IRNode) → children s over ≡ xs ++ Operation p ∷ ys
        → next_sibling s (Operation p) ≡ head ys) where
      -- an operation is read
      pub reading-more : (u : Table) → ReadsOn t (symbols_of own s p) u → IsReading next u
      reading-more u h = record {
        before = r.before ++ Operation p ∷ [];
        passing = passing-more own s b w r.before at r.passing p is next e law;
        read =
            subst (λ z. IsRead z u) (sym (symbols-append own (op_at s) r.before (Operation p ∷ [])))
            (h (symbols_among own (op_at s) r.before) r.read);
      }

      pub reading-falls : left_in (children s (BasicBlock b)) next < left_in (children s (BasicBlock b)) at
      reading-falls = passing-falls own s b w r.before at r.passing p is next e law

-- what is refused of the symbols of a good operation is refused of its table
module _ {K A T : Type 0} (own own_table : K → Bool) (s : ContextView K A T) (t : Ptr OperationKind) (b : IRNode)
    (kind : is_table_kind own_table (kind_in (op_at s t)) ≡ true) (at_body : body s t ≡ Some b) where
  first-refused : (o : Ptr OperationKind) (r : Refusal) → IsFirstRefusalAt o (symbols_in own s (Some b)) r
      → IsTableRefusal own own_table s t r
  first-refused o unnamed h =
      (kind, subst IsSome (sym at_body) refl, subst (λ z. IsUnnamedFirst (symbols_in own s z)) (sym at_body) h)
  first-refused o (redefined x) h =
      (kind, subst IsSome (sym at_body) refl, (o, subst (λ z. IsRepeatedAt x o (symbols_in own s z)) (sym at_body) h))
  first-refused o no_table h = absurd h
  first-refused o (regions m n) h = absurd h
  first-refused o blocks h = absurd h
  first-refused o no_symbol h = absurd h
  first-refused o (elsewhere x) h = absurd h
  first-refused o outside h = absurd h
  first-refused o not_there h = absurd h

  pub read-refused : (o : Ptr OperationKind) (r : Option Refusal)
      → IfSome r (IsFirstRefusalAt o (symbols_in own s (Some b))) → IfSome r (IsTableRefusal own own_table s t)
  read-refused o None h = tt
  read-refused o (Some r) h = first-refused o r h
