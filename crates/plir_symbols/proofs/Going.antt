-- Whether a symbol may go.
use Rattle.std.proofs.Common.{◌≡◌, ◌↔◌, ℕ, Bool, false, true≢false, List, None, IsTrue, sym, ◌∙◌}
use Rattle.std.proofs.lemmas.Option.{none-some}
use Rattle.plir_store.specs.FilterLaws.{not-both}
use Rattle.plir_core.specs.declared.ptr.Ptr.{Ptr}
use Rattle.plir_core.specs.declared.ptr.Operation.{Operation as OperationKind}
use Rattle.plir_core.specs.declared.ptr.IRNode.TheVariants.{Operation}
use Rattle.plir_core.specs.Contents.{OpView}
use Rattle.plir_core.specs.ContextView.{ContextView, kind_of, op_at}
use Rattle.plir_builtin.specs.Refusals.{IsSymbolNamed, IsRemoveRefusal, Refusal, no_table, regions, blocks, no_symbol}
use Rattle.plir_builtin.specs.Refusals.{unnamed, redefined, elsewhere, outside, not_there}
use Rattle.plir_builtin.specs.Symbols.{body, is_symbol_kind, name_held}
use Rattle.plir_core.specs.ContextView.{parent_of}
use Rattle.plir_symbols.specs.SymbolNames.{is_private_in}
use Rattle.plir_symbols.specs.DeadSymbols.{MayGo}

pub refused : {P : Type 0} → (P → ⊥) → IsTrue false ↔ P
refused f = (λ h. absurd (true≢false (sym h)), λ p. absurd (f p))

module _ {K A T : Type 0} (own : K → Bool) (is_private : OpView K A → Bool) (s : ContextView K A T)
    (p : Ptr OperationKind) where
  pub no-symbol : is_symbol_kind own (kind_of s p) ≡ false → MayGo own is_private s p → ⊥
  no-symbol e m = not-both (is_symbol_kind own (kind_of s p)) m.named.symbol e

  pub not-private : is_private_in is_private (op_at s p) ≡ false → MayGo own is_private s p → ⊥
  not-private e m = not-both (is_private_in is_private (op_at s p)) m.private e

  pub no-name : None ≡ name_held (op_at s p) → MayGo own is_private s p → ⊥
  no-name e m = none-some m.name (e ∙ m.named.name)

-- a symbol with a name that stands in the body is not refused to go
pub not-refused : {K A T : Type 0} (own : K → Bool) (s : ContextView K A T) (table p : Ptr OperationKind) (x : List ℕ)
    → IsSymbolNamed own s p x → parent_of s (Operation p) ≡ body s table → (r : Refusal)
    → IsRemoveRefusal own s table p r → ⊥
not-refused own s table p x named here no_symbol h = not-both (is_symbol_kind own (kind_of s p)) named.symbol h
not-refused own s table p x named here not_there h = h.1 here
not-refused own s table p x named here unnamed h = none-some x (sym h.2 ∙ named.name)
not-refused own s table p x named here (redefined y) h = h
not-refused own s table p x named here (elsewhere y) h = h
not-refused own s table p x named here outside h = h
not-refused own s table p x named here no_table h = h
not-refused own s table p x named here (regions m n) h = h
not-refused own s table p x named here blocks h = h
