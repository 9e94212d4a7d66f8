-- Over which changes the tables of a collection agree as they did.
use Rattle.std.specs.Prelude.{◌≡◌, ℕ, Bool, false, true, List, Some, IsSome, Result}
use Rattle.std.specs.FinMap.{get}
use Rattle.plir_data.specs.AttrView.{AttrView}
use Rattle.plir_data.specs.Dictionary.{dict_put, is_key}
use Rattle.plir_data.specs.Keys.{symbol_key}
use Rattle.plir_data.specs.declared.op_set.OpKind.{OpKind}
use Rattle.plir_core.specs.declared.ptr.Ptr.{Ptr}
use Rattle.plir_core.specs.declared.ptr.Operation.{Operation as OperationKind}
use Rattle.plir_core.specs.declared.ptr.BasicBlock.{BasicBlock as BasicBlockKind}
use Rattle.plir_core.specs.declared.ptr.IRNode.{IRNode}
use Rattle.plir_core.specs.declared.ptr.IRNode.TheVariants.{Operation, BasicBlock}
use Rattle.plir_core.specs.declared.value.Value.{Value}
use Rattle.plir_core.specs.Contents.{BlockView, OpView}
use Rattle.plir_core.specs.ContextView.{ContextView, IsAncestor, IsLive, kind_of, parent_of}
use Rattle.plir_core.specs.Erase.{IsErased}
use Rattle.plir_core.specs.Held.{IsBlockEdited, IsOpEdited}
use Rattle.plir_core.specs.Moved.{IsMovedBefore, IsMovedBehind}
use Rattle.plir_core.specs.Placed.{IsPlacedBefore, IsPlacedBehind, IsPlacedFirst, IsPlacedLast, IsUnlinked}
use Rattle.plir_core.specs.Rewired.{IsRewired}
use Rattle.plir_read.specs.Keeping.{KeepsOlder}
use Rattle.plir_passes.specs.Dead.{is_removable}
use Rattle.plir_passes.specs.Rewrites.{IsConversion, IsRewrite, Rewrite, Rewrites}
use Rattle.plir_passes.specs.Swept.{IsSwept}
use Rattle.plir_builtin.specs.Agree.{AllAgree}
use Rattle.plir_builtin.specs.Symbols.{is_symbol_kind, name_held}
use Rattle.plir_builtin.specs.Table.{Table, Tables}

-- an edit of what an operation holds leaves its kind, and its name as a symbol
pub record KeepsName {K A : Type 0} (f : OpView K A → OpView K A) : Type 0 where
  pub kind : (o : OpView K A) → (f o).kind ≡ o.kind
  pub name : (o : OpView K A) → name_held (Some (f o)) ≡ name_held (Some o)

-- an attribute that is put or taken out under another key than that of a symbol's name does
pub record OthersKeepName (K A : Type 0) : Type 0 where
  pub put : (key : List ℕ) (v : AttrView A) → is_key symbol_key key ≡ false →
      KeepsName {K = K} {A = A} (λ o. record o { attributes = dict_put o.attributes key v })

-- the tables are cached for live operations, and are theirs
abbrev pub AreOfLive : {K A T : Type 0} → Tables → ContextView K A T → Type 0
AreOfLive c s = (p : Ptr OperationKind) (tab : Table) → get c p ≡ Some tab →
    IsLive s (Operation p) × IsLive s (Operation tab.op)

module _ {K A T : Type 0} (own_symbol own_table : K → Bool) where
  -- from s to t the tables that agreed agree
  abbrev pub Lasts : Tables → ContextView K A T → ContextView K A T → Type 0
  Lasts c s t = AllAgree own_symbol own_table s c → AllAgree own_symbol own_table t c

  module _ (c : Tables) (s t : ContextView K A T) where
    -- Agreement lasts over an edit of an operation that keeps its name, over an edit of a block, and where one value
    -- has come in place of another.
    pub record EditsLast : Type 0 where
      pub op : (p : Ptr OperationKind) (f : OpView K A → OpView K A) → KeepsName f → IsOpEdited s t p f → Lasts c s t
      pub block : (b : Ptr BasicBlockKind) (f : BlockView A → BlockView A) → IsBlockEdited s t b f → Lasts c s t
      pub uses : (v w : Value) → IsRewired s t v w → Lasts c s t

    -- It lasts where the operation p was put into a block, taken out of the one that it stood in, moved, or erased.
    pub record MovesLast (p : Ptr OperationKind) : Type 0 where
      pub first : (b : Ptr BasicBlockKind) → IsPlacedFirst s.nodes t.nodes (Operation p) (BasicBlock b) → Lasts c s t
      pub last : (b : Ptr BasicBlockKind) → IsPlacedLast s.nodes t.nodes (Operation p) (BasicBlock b) → Lasts c s t
      pub before : (mark : Ptr OperationKind) → IsSome (parent_of s (Operation mark)) →
          IsPlacedBefore s.nodes t.nodes (Operation p) (Operation mark) → Lasts c s t
      pub behind : (mark : Ptr OperationKind) → IsSome (parent_of s (Operation mark)) →
          IsPlacedBehind s.nodes t.nodes (Operation p) (Operation mark) → Lasts c s t
      pub unlinked : IsUnlinked s.nodes t.nodes (Operation p) → Lasts c s t
      pub moved_before : (mark : Ptr OperationKind) → IsSome (parent_of s (Operation mark)) →
          (IsAncestor s (Operation p) (Operation mark) → ⊥) →
          IsMovedBefore s.nodes t.nodes (Operation p) (Operation mark) → Lasts c s t
      pub moved_behind : (mark : Ptr OperationKind) → IsSome (parent_of s (Operation mark)) →
          (IsAncestor s (Operation p) (Operation mark) → ⊥) →
          IsMovedBehind s.nodes t.nodes (Operation p) (Operation mark) → Lasts c s t
      pub erased : IsErased s.nodes t.nodes (Operation p) → Lasts c s t

    -- it lasts where what was live is as it was, and the tables are of live operations
    abbrev pub RefusedReadsLast : Type 0
    RefusedReadsLast = AreOfLive c s → KeepsOlder s t → Lasts c s t

    -- it lasts where dead operations were erased
    abbrev pub DeadCodeLasts : (effect ends : K → Bool) → Type 0
    DeadCodeLasts effect ends = IsSwept effect ends s t → Lasts c s t

  -- it lasts over a conversion whose every rewrite it lasts over
  abbrev pub ConversionsLast : {E : Type 0} → (illegal : OpKind K → Bool) → Rewrites K A T E → Tables → Type 0
  ConversionsLast {E} illegal rewrites c =
      ((x : Rewrite K A T E) → IsRewrite illegal rewrites x → Lasts c x.before x.after) →
      (s t : ContextView K A T) (root : IRNode) (answer : Result (Unit {0}) E) →
      IsConversion illegal rewrites s root answer t → Lasts c s t

-- an operation is no symbol
abbrev pub IsNoSymbol : {K A T : Type 0} → (own_symbol : K → Bool) → ContextView K A T → Ptr OperationKind → Type 0
IsNoSymbol own_symbol s p = is_symbol_kind own_symbol (kind_of s p) ≡ false

-- no kind of symbols may go where nothing uses their results
abbrev pub SymbolsStay : {K : Type 0} → (own_symbol effect ends : K → Bool) → Type 0
SymbolsStay {K} own_symbol effect ends =
    (k : OpKind K) → is_symbol_kind own_symbol (Some k) ≡ true → is_removable effect ends k ≡ false
