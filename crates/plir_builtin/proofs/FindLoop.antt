-- The loop that finds a symbol of a block by its name.
use Rattle.std.proofs.Common.{◌≡◌, ◌<◌, ℕ, Bool, true, false, cond, List, [], ◌∷◌, ◌++◌, Option, Some, None, refl, sym}
use Rattle.std.proofs.Common.{ap, ◌∙◌}
use Rattle.std.specs.Prelude.{nat_eq, option_map}
use Rattle.std.specs.Cmp.Lexicographic.{pointwise, texts_ties}
use Rattle.std.proofs.lemmas.Option.{none-some}
use Rattle.plir_core.specs.declared.ptr.Ptr.{Ptr}
use Rattle.plir_core.specs.declared.ptr.Operation.{Operation as OperationKind}
use Rattle.plir_core.specs.declared.ptr.BasicBlock.{BasicBlock as BlockKind}
use Rattle.plir_core.specs.declared.ptr.IRNode.{IRNode}
use Rattle.plir_core.specs.declared.ptr.IRNode.TheVariants.{Operation, BasicBlock}
use Rattle.plir_store.specs.Members.{head}
use Rattle.plir_core.specs.Standing.{IsStanding}
use Rattle.plir_core.specs.ContextView.{ContextView, children, is_live, op_at, kind_in, first_child, next_sibling}
use Rattle.plir_builtin.specs.Symbols.{Symbols, symbols_among, symbols_of, is_symbol_kind, name_held, is_named}
use Rattle.plir_builtin.specs.Symbols.{find_named, symbols_in}
use Rattle.plir_builtin.specs.Left.{left_in}
use Rattle.plir_builtin.proofs.SymbolLists.{symbols-append}
use Rattle.plir_builtin.proofs.Passing.{IsPassing, passing-start, passing-end, passing-live, passing-more}
use Rattle.plir_builtin.proofs.Passing.{passing-falls, symbols-cut}

-- a name that is not found in front is found behind, and one that is found in front is found there
find-past : (x : List ℕ) (es fs : Symbols) → find_named x es ≡ None → find_named x (es ++ fs) ≡ find_named x fs
find-past x [] fs e = refl
find-past x (a ∷ es) fs e = at (λ g. find-past x es fs g) (is_named x a.1) refl e
  where
    at : (find_named x es ≡ None → find_named x (es ++ fs) ≡ find_named x fs) → (b : Bool) → is_named x a.1 ≡ b
        → cond b (Some a.0) (find_named x es) ≡ None
        → cond (is_named x a.1) (Some a.0) (find_named x (es ++ fs)) ≡ find_named x fs
    at more true h g = absurd (none-some a.0 (sym g))
    at more false h g = ap (λ b. cond b (Some a.0) (find_named x (es ++ fs))) h ∙ more g

find-front : (x : List ℕ) (es fs : Symbols) (p : Ptr OperationKind) → find_named x es ≡ Some p
    → find_named x (es ++ fs) ≡ Some p
find-front x [] fs p e = absurd (none-some p e)
find-front x (a ∷ es) fs p e = at (λ g. find-front x es fs p g) (is_named x a.1) refl e
  where
    at : (find_named x es ≡ Some p → find_named x (es ++ fs) ≡ Some p) → (b : Bool) → is_named x a.1 ≡ b
        → cond b (Some a.0) (find_named x es) ≡ Some p
        → cond (is_named x a.1) (Some a.0) (find_named x (es ++ fs)) ≡ Some p
    at more true h g = ap (λ b. cond b (Some a.0) (find_named x (es ++ fs))) h ∙ g
    at more false h g = ap (λ b. cond b (Some a.0) (find_named x (es ++ fs))) h ∙ more g

module _ {K A T : Type 0} (own : K → Bool) (s : ContextView K A T) (b : Ptr BlockKind) (x : List ℕ) where
  -- none of the operations before `at` is a symbol with the name
  pub record IsFinding (at : Option (Ptr OperationKind)) : Type 0 where
    pub before : List IRNode
    pub passing : IsPassing own s b before at
    pub none : find_named x (symbols_among own (op_at s) before) ≡ None

  pub finding-start : (at : Option (Ptr OperationKind)) → option_map Operation at ≡ first_child s (BasicBlock b)
      → first_child s (BasicBlock b) ≡ head (children s (BasicBlock b)) → IsFinding at
  finding-start at e f = record { before = []; passing = passing-start own s b at e f; none = refl }

  pub finding-end : (at : Option (Ptr OperationKind)) → IsFinding at → at ≡ None
      → None ≡ find_named x (symbols_in own s (Some (BasicBlock b)))
  finding-end at r none =
      sym
      (ap (λ z. find_named x (symbols_among own (op_at s) z)) (passing-end own s b r.before at r.passing none) ∙ r.none)

  module _ (w : IsStanding s) (at : Option (Ptr OperationKind)) (r : IsFinding at) (p : Ptr OperationKind)
      (is : at ≡ Some p) where
    pub finding-live : is_live s (Operation p) ≡ true
    finding-live = passing-live own s b w r.before at r.passing p is

    pub finding-found : find_named x (symbols_of own s p) ≡ Some p
        → Some p ≡ find_named x (symbols_in own s (Some (BasicBlock b)))
    finding-found e =
        let cut = symbols-cut own s b w r.before at r.passing p is in
        sym (ap (find_named x) cut.1
        ∙ find-front x (symbols_among own (op_at s) r.before ++ symbols_of own s p) cut.0 p
        (find-past x (symbols_among own (op_at s) r.before) (symbols_of own s p) r.none ∙ e))

    module _ (next : Option (Ptr OperationKind)) (e : option_map Operation next ≡ next_sibling s (Operation p))
        (law : (over : IRNode) (xs ys : List IRNode) → children s over ≡ xs ++ Operation p ∷ ys
        → next_sibling s (Operation p) ≡ head ys) where
      pub finding-more : find_named x (symbols_of own s p) ≡ None → IsFinding next
      finding-more h = record {
        before = r.before ++ Operation p ∷ [];
        passing = passing-more own s b w r.before at r.passing p is next e law;
        none =
            ap (find_named x) (symbols-append own (op_at s) r.before (Operation p ∷ []))
            ∙ find-past x (symbols_among own (op_at s) r.before) (symbols_of own s p) r.none ∙ h;
      }

      pub finding-falls : left_in (children s (BasicBlock b)) next < left_in (children s (BasicBlock b)) at
      finding-falls = passing-falls own s b w r.before at r.passing p is next e law

-- whether one operation is a symbol with the name
module _ {K A T : Type 0} (own : K → Bool) (s : ContextView K A T) (p : Ptr OperationKind) (x y : List ℕ)
    (kind : is_symbol_kind own (kind_in (op_at s p)) ≡ true) (name : name_held (op_at s p) ≡ Some y) (b : Bool)
    (e : b ≡ pointwise nat_eq x y) where
  one_named : find_named x (symbols_of own s p) ≡ cond b (Some p) None
  one_named =
      (λ i. find_named x (cond (kind i) ((p, name i) ∷ []) []))
      ∙ ap (λ c. cond c (Some p) None) (sym (e ∙ texts_ties x y))

  pub named-yes : b ≡ true → find_named x (symbols_of own s p) ≡ Some p
  named-yes h = one_named ∙ ap (λ c. cond c (Some p) None) h

  pub named-no : b ≡ false → find_named x (symbols_of own s p) ≡ None
  named-no h = one_named ∙ ap (λ c. cond c (Some p) None) h
