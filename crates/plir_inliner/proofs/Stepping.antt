-- Calls that can be inlined, and steps.
use Rattle.std.proofs.Common.{◌≡◌, ℕ, ◌+◌, ◌<◌, Bool, true, true≢false, List, [], ◌∷◌, get_or, length}
use Rattle.std.proofs.Common.{Option, Some, take, inl, inr, refl, sym, ap, subst, ◌∙◌}
use Rattle.std.specs.Prelude.{slice_get}
use Rattle.std.proofs.lemmas.Option.{slice_get-get_or}
use Rattle.plir_store.specs.Members.{Has}
use Rattle.plir_store.specs.MemberLaws.{Has-append_cases, Has-at}
use Rattle.plir_core.specs.declared.arena.making.NodeErr.{NodeErr}
use Rattle.plir_core.specs.declared.arena.making.NodeErr.TheVariants as nodes
use Rattle.plir_core.specs.declared.ptr.Ptr.{Ptr}
use Rattle.plir_core.specs.declared.ptr.Operation.{Operation as OperationKind}
use Rattle.plir_core.specs.declared.ptr.BasicBlock.{BasicBlock as BlockKind}
use Rattle.plir_core.specs.declared.ptr.IRNode.TheVariants.{BasicBlock, Operation}
use Rattle.plir_core.specs.Contents.{OpView}
use Rattle.plir_core.specs.ContextView.{ContextView, IsLive, kind_of}
use Rattle.plir_core.specs.Room.{IsFullFor}
use Rattle.plir_copies.specs.Room.{tree_count}
use Rattle.plir_walk.specs.NodeLaws.{same-op}
use Rattle.plir_flow.specs.Branches.{Range as Places}
use Rattle.plir_flow_sets.specs.Calls.{CallView}
use Rattle.plir_inline.specs.Inlined.{CanInline, IsInlined}
use Rattle.plir_builtin.specs.declared.symbol_table_err.SymbolTableErr.{SymbolTableErr}
use Rattle.plir_builtin.specs.declared.symbol_table_err.SymbolTableErr.TheVariants as tables
use Rattle.plir_builtin.specs.Symbols.{is_symbol_kind}
use Rattle.plir_inliner.specs.declared.candidates.Step.{Step}
use Rattle.plir_inliner.specs.declared.errors.InlineErr.{InlineErr}
use Rattle.plir_inliner.specs.declared.errors.InlineErr.TheVariants.{Memory, Table, TooManyNodes}
use Rattle.plir_inliner.specs.Calls.{CanInlineCall}
use Rattle.plir_inliner.specs.Listed.{AreListed}
use Rattle.plir_inliner.specs.Meaning.{IsAnyRefusal, IsBodyMeant, IsCalleeRefusal, IsMeaningRefusal}
use Rattle.plir_inliner.specs.Meaning.{calls_by_name, is_by_name}
use Rattle.plir_inliner.specs.Plain.{IsPlain}
use Rattle.plir_inliner.specs.Steps.{CanStep, IsBelow, IsReady, IsStepRefusal, NoneLeft, of_nodes, of_table}
use Rattle.plir_copies.specs.ListLaws.{take_next}
use Rattle.plir_inliner.proofs.Meant.{one-body}

-- what stands for an element behind the end of a list
abbrev pub no-op : Ptr OperationKind
no-op = record { slot = 0; version = 0; kind = record {} }

module _ {X : Type 0} where
  -- what is said of the first elements, and of the next one
  pub each-next : (P : X → Type 0) (xs : List X) (i : ℕ) (x : X) → slice_get xs i ≡ Some x →
      ((p : X) → Has (take i xs) p → P p) → P x → (p : X) → Has (take (i + 1) xs) p → P p
  each-next P xs i x at each here p has =
      elim (Has-append_cases (take i xs) (x ∷ []) p (subst (λ zs. Has zs p) (take_next xs i x at) has)) [
        | inl h ↦ each p h
        | inr h ↦ elim h [ inl is ↦ subst P is here | inr z ↦ absurd z ]
      ]

  -- the same of the element at a place
  pub has-at : (xs : List X) (i : ℕ) (d : X) → i < length xs → Has xs (get_or xs i d)
  has-at xs i d h = Has-at xs i (get_or xs i d) (slice_get-get_or xs i d h)

  pub each-at : (P : X → Type 0) (xs : List X) (i : ℕ) (d : X) → i < length xs →
      ((p : X) → Has (take i xs) p → P p) → P (get_or xs i d) → (p : X) → Has (take (i + 1) xs) p → P p
  each-at P xs i d h each here = each-next P xs i (get_or xs i d) (slice_get-get_or xs i d h) each here

module _ {K A T : Type 0} (own own_table : K → Bool) (calls : OpView K A → Option CallView)
    (returned : OpView K A → Option Places) (s : ContextView K A T) where
  module _ (call : Ptr OperationKind) where
    pub not-symbol : is_symbol_kind own (kind_of s call) ≡ true → (b : Ptr BlockKind) →
        CanInlineCall own own_table calls returned s call b → ⊥
    not-symbol is b h = true≢false (sym is ∙ h.no_symbol)

    pub not-meant : ((b : Ptr BlockKind) → IsBodyMeant own own_table calls s call b → ⊥) → (b : Ptr BlockKind) →
        CanInlineCall own own_table calls returned s call b → ⊥
    not-meant none b h = none b h.meant

    pub not-plain : (a : Ptr BlockKind) → IsBodyMeant own own_table calls s call a →
        (IsPlain own calls returned s a → ⊥) → (b : Ptr BlockKind) →
        CanInlineCall own own_table calls returned s call b → ⊥
    not-plain a meant off b h =
        off (subst (IsPlain own calls returned s) (one-body own own_table calls s call b a h.meant meant) h.plain)

    pub not-fitting : (a : Ptr BlockKind) → IsBodyMeant own own_table calls s call a → (CanInline s call a → ⊥) →
        (b : Ptr BlockKind) → CanInlineCall own own_table calls returned s call b → ⊥
    not-fitting a meant off b h =
        off (subst (CanInline s call) (one-body own own_table calls s call b a h.meant meant) h.fits)

    -- what a refusal of a table is told as
    pub table-refusal : (e : SymbolTableErr) → IsCalleeRefusal own own_table calls s call e →
        IsMeaningRefusal own own_table calls s call (of_table e)
    table-refusal tables.Memory h = tt
    table-refusal e h = h

  -- what means a function calls one by its name
  pub means-by-name : (call : Ptr OperationKind) (b : Ptr BlockKind) → IsBodyMeant own own_table calls s call b →
      calls_by_name calls s call ≡ true
  means-by-name call b h = ap is_by_name h.means.passes

  module _ (root : Ptr OperationKind) where
    pub one-refusal : (ps : List (Ptr OperationKind)) (call : Ptr OperationKind) → Has ps call → (call ≡ root → ⊥) →
        (e : InlineErr) → IsMeaningRefusal own own_table calls s call e →
        IsAnyRefusal own own_table calls s root ps e
    one-refusal ps call has other Memory h = tt
    one-refusal ps call has other TooManyNodes h = h
    one-refusal ps call has other (Table e) h = (call, has, other, h)

    pub step-refusal : (call : Ptr OperationKind) → IsBelow s root call → (e : InlineErr) →
        IsMeaningRefusal own own_table calls s call e → IsStepRefusal own own_table calls returned root s e
    step-refusal call below Memory h = tt
    step-refusal call below TooManyNodes h = absurd h
    step-refusal call below (Table e) h = (call, below, h)

    pub node-refusal : (x : Step) → IsReady own own_table calls returned root s x → (e : NodeErr) →
        (e ≡ nodes.TooManyNodes → IsFullFor s.nodes (tree_count s.nodes (BasicBlock x.block))) →
        IsStepRefusal own own_table calls returned root s (of_nodes e)
    node-refusal x ready nodes.Memory h = tt
    node-refusal x ready nodes.TooManyNodes h = (x, ready, h refl)

    module _ (ps : List (Ptr OperationKind)) (listed : AreListed s (calls_by_name calls s) (Operation root) ps) where
      pub any-refusal : (e : InlineErr) → IsAnyRefusal own own_table calls s root ps e →
          IsStepRefusal own own_table calls returned root s e
      any-refusal Memory h = tt
      any-refusal TooManyNodes h = absurd h
      any-refusal (Table e) h =
          step-refusal h.0 (record { under = (listed.only h.0 h.1).0; other = h.2 }) (Table e) h.3

      -- where none of the calls that are listed can be inlined, none is left
      pub none-left : ((p : Ptr OperationKind) (b : Ptr BlockKind) → Has ps p → (p ≡ root → ⊥) →
          CanInlineCall own own_table calls returned s p b → ⊥) → NoneLeft own own_table calls returned root s
      none-left none call b below can =
          none call b (listed.all call below.under (means-by-name call b can.meant)) below.other can

      pub ready : (x : Step) → Has ps x.call → (x.call ≡ root → ⊥) → CanStep own own_table calls returned s x →
          IsReady own own_table calls returned root s x
      ready x has other can = record { below = record { under = (listed.only x.call has).0; other = other }; can = can }

    -- the root stays where another operation is inlined
    pub root-stays : (t : ContextView K A T) (call : Ptr OperationKind) (b : Ptr BlockKind) → IsBelow s root call →
        IsInlined s t call b → IsLive s (Operation root) → IsLive t (Operation root)
    root-stays t call b below f live = f.live (Operation root) live (λ z. below.other (sym (same-op root call z)))
