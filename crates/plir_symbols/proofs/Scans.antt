-- What a scan of a body finds where some of the symbols are gone.
use Rattle.std.proofs.Common.{◌≡◌, ℕ, Bool, true, false, true≢false, cond, List, [], ◌∷◌, Option, Some, None, inl}
use Rattle.std.proofs.Common.{inr, refl, sym, ap, subst, ◌∙◌}
use Rattle.std.specs.List.{filter}
use Rattle.std.specs.Ordering.{nat_cmp, is_eq}
use Rattle.std.specs.declared.cmp.Ordering.{Ordering}
use Rattle.std.specs.declared.cmp.Ordering.TheVariants.{Less, Equal, Greater}
use Rattle.std.specs.Cmp.Lexicographic.{slice_cmp}
use Rattle.std.specs.FinSet.{slice_cmp-IsAntisymmetric, nat_cmp-IsAntisymmetric}
use Rattle.std.proofs.lemmas.Bool.{cases_Bool}
use Rattle.plir_data.specs.Dictionary.{is_key}
use Rattle.plir_core.specs.declared.ptr.Ptr.{Ptr}
use Rattle.plir_core.specs.declared.ptr.Operation.{Operation as OperationKind}
use Rattle.plir_core.specs.declared.ptr.IRNode.{IRNode}
use Rattle.plir_core.specs.declared.ptr.IRNode.TheVariants.{Operation, Region, BasicBlock}
use Rattle.plir_core.specs.ContextView.{ContextView, is_live, children, kind_in, op_at}
use Rattle.plir_walk.specs.Thinned.{IsThinned}
use Rattle.plir_builtin.specs.Symbols.{Symbols, body, children_in, find_named, is_named, is_symbol_kind, name_held}
use Rattle.plir_builtin.specs.Symbols.{IsFree, NamesDiffer, symbols, symbols_among}
use Rattle.plir_symbols.specs.SweptSymbols.{if_live, AreScansLeft}

tied : (o : Ordering) → is_eq o ≡ true → o ≡ Equal
tied Less e = absurd (true≢false (sym e))
tied Equal e = refl
tied Greater e = absurd (true≢false (sym e))

same-key : (x y : List ℕ) → is_key x y ≡ true → x ≡ y
same-key x y e = slice_cmp-IsAntisymmetric nat_cmp-IsAntisymmetric x y (tied (slice_cmp nat_cmp x y) e)

-- a name that is free is not found
free-none : (x : List ℕ) (n : Option (List ℕ)) (es : Symbols) → is_named x n ≡ true → IsFree n es
    → find_named x es ≡ None
free-none x None es e f = absurd (true≢false (sym e))
free-none x (Some y) es e f = ap (λ z. find_named z es) (same-key x y e) ∙ f

module _ {K A T : Type 0} (own : K → Bool) (s t : ContextView K A T)
    (same : (p : Ptr OperationKind) → is_live t (Operation p) ≡ true → op_at t p ≡ op_at s p) (x : List ℕ) where
  abbrev before : List IRNode → Symbols
  before ns = symbols_among own (op_at s) ns

  abbrev after : List IRNode → Symbols
  after ns = symbols_among own (op_at t) (filter (is_live t) ns)

  -- The first of a list of nodes is an operation p; of what is behind it the same is known.
  module _ (p : Ptr OperationKind) (ns : List IRNode)
      (rest : NamesDiffer (before ns) → find_named x (after ns) ≡ if_live t (find_named x (before ns))) where
    -- it is live, and so holds what it held
    live-found : (b : Bool) → is_live t (Operation p) ≡ true → is_symbol_kind own (kind_in (op_at s p)) ≡ b
        → NamesDiffer (cond b ((p, name_held (op_at s p)) ∷ before ns) (before ns))
        → find_named x (cond b ((p, name_held (op_at s p)) ∷ after ns) (after ns)) ≡
        if_live t (find_named x (cond b ((p, name_held (op_at s p)) ∷ before ns) (before ns)))
    live-found false l e d = rest d
    live-found true l e d = elim (cases_Bool (is_named x (name_held (op_at s p)))) [
      | inl n ↦ rw (n, l) refl
      | inr n ↦ rw n (rest d.1)
    ]

    -- it is gone
    gone-found : (b : Bool) → is_live t (Operation p) ≡ false
        → NamesDiffer (cond b ((p, name_held (op_at s p)) ∷ before ns) (before ns))
        → find_named x (after ns) ≡
        if_live t (find_named x (cond b ((p, name_held (op_at s p)) ∷ before ns) (before ns)))
    gone-found false g d = rest d
    gone-found true g d = elim (cases_Bool (is_named x (name_held (op_at s p)))) [
      | inl n ↦ rest d.1 ∙ ap (if_live t) (free-none x (name_held (op_at s p)) (before ns) n d.0)
          ∙ (let h : None ≡ if_live t (cond (is_named x (name_held (op_at s p))) (Some p) (find_named x (before ns))) =
          rw (n, g) refl in h)
      | inr n ↦ rw n (rest d.1)
    ]

  passed : (n : IRNode) (ns : List IRNode) → ((p : Ptr OperationKind) → n ≡ Operation p → ⊥)
      → symbols_among own (op_at t) (cond (is_live t n) (n ∷ filter (is_live t) ns) (filter (is_live t) ns)) ≡ after ns
  passed n ns other = at (is_live t n) n other
    where
      at : (b : Bool) (n : IRNode) → ((p : Ptr OperationKind) → n ≡ Operation p → ⊥)
          → symbols_among own (op_at t) (cond b (n ∷ filter (is_live t) ns) (filter (is_live t) ns)) ≡ after ns
      at false n other = refl
      at true (Operation p) other = absurd (other p refl)
      at true (Region p) other = refl
      at true (BasicBlock p) other = refl

  found-left : (ns : List IRNode) → NamesDiffer (before ns)
      → find_named x (after ns) ≡ if_live t (find_named x (before ns))
  found-left [] d = refl
  found-left (Operation p ∷ ns) d = elim (cases_Bool (is_live t (Operation p))) [
    | inl l ↦
        ap (λ b. find_named x
        (symbols_among own (op_at t) (cond b (Operation p ∷ filter (is_live t) ns) (filter (is_live t) ns)))) l
        ∙ ap (λ o. find_named x (cond (is_symbol_kind own (kind_in o)) ((p, name_held o) ∷ after ns) (after ns)))
        (same p l)
        ∙ live-found p ns (found-left ns) (is_symbol_kind own (kind_in (op_at s p))) l refl d
    | inr g ↦
        ap (λ b. find_named x
        (symbols_among own (op_at t) (cond b (Operation p ∷ filter (is_live t) ns) (filter (is_live t) ns)))) g
        ∙ gone-found p ns (found-left ns) (is_symbol_kind own (kind_in (op_at s p))) g d
  ]
  found-left (Region p ∷ ns) d = ap (find_named x) (passed (Region p) ns (λ q e. cc e)) ∙ found-left ns d
  found-left (BasicBlock p ∷ ns) d = ap (find_named x) (passed (BasicBlock p) ns (λ q e. cc e)) ∙ found-left ns d

-- Where the body of a table stayed, and its symbols have names of their own, scans find what is left.
module _ {K A T : Type 0} (own : K → Bool) (s t : ContextView K A T) (table : Ptr OperationKind) (b : IRNode) where
  pub scans-left : IsThinned s t → body s table ≡ Some b → body t table ≡ Some b → is_live t b ≡ true
      → NamesDiffer (symbols own s table) → AreScansLeft own s table t
  scans-left thin e f live differ x =
      ap (λ z. find_named x (symbols_among own (op_at t) (children_in t z))) f
      ∙ ap (λ z. find_named x (symbols_among own (op_at t) z)) (thin.children b live)
      ∙ found-left own s t thin.ops x (children s b)
      (subst (λ z. NamesDiffer (symbols_among own (op_at s) (children_in s z))) e differ)
      ∙ ap (λ z. if_live t (find_named x (symbols_among own (op_at s) (children_in s z)))) (sym e)
