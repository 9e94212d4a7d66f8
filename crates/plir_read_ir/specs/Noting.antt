-- What is noted while a text is read.
use Rattle.std.specs.Borrow.{Bor}
use Rattle.std.specs.Prelude.{◌≡◌, ◌<◌, ◌++◌, ◌&&◌, ℕ, nat_eq, List, length, All, Bool, true, false, Option, Some, None}
use Rattle.std.specs.Option.{option_eq}
use Rattle.std.specs.Str.{bytes_eq}
use Rattle.plir_names.specs.Meanings.{Says}
use Rattle.plir_names.specs.Tables.{meanings}
use Rattle.plir_names.specs.declared.names.NameTable.{NameTable}
use Rattle.plir_core.specs.ContextView.{ContextView, IsLive, IsValueLive, is_live, successors_of}
use Rattle.plir_core.specs.Made.{KeepsLive}
use Rattle.plir_core.specs.declared.ptr.Ptr.{Ptr}
use Rattle.plir_core.specs.declared.ptr.Operation.{Operation as OperationKind}
use Rattle.plir_core.specs.declared.ptr.Region.{Region as RegionKind}
use Rattle.plir_core.specs.declared.ptr.BasicBlock.{BasicBlock as BlockKind}
use Rattle.plir_core.specs.declared.ptr.IRNode.TheVariants.{Operation, BasicBlock}
use Rattle.plir_read_ir.specs.declared.notes.Notes.{Notes}
use Rattle.plir_read_ir.specs.declared.notes.PendingUse.{PendingUse}
use Rattle.plir_read_ir.specs.declared.notes.Place.{Place}
use Rattle.plir_read_ir.specs.declared.notes.Wanted.{Wanted}
use Rattle.plir_read_ir.specs.declared.notes.Wanted.TheVariants.{Operand, Successor, Nothing}

-- a name in a body, and a label in a region
abbrev pub NameInBody : Type 0
NameInBody = Option (Ptr OperationKind) × Bor (List ℕ)

abbrev pub LabelInRegion : Type 0
LabelInRegion = Ptr RegionKind × Bor (List ℕ)

-- whether two pointers are one
abbrev pub same_pointer : {X : Type 0} → (p q : Ptr X) → Bool
same_pointer p q = nat_eq p.slot q.slot && (nat_eq p.version q.version && true)

-- whether two names in bodies are one, and two labels in regions
abbrev pub same_name : (a b : NameInBody) → Bool
same_name a b = option_eq same_pointer a.0 b.0 && bytes_eq a.1.now b.1.now

abbrev pub same_label : (a b : LabelInRegion) → Bool
same_label a b = same_pointer a.0 b.0 && bytes_eq a.1.now b.1.now

-- so many of n places, in a block; none outside all blocks
abbrev pub places : Option (Ptr RegionKind × Ptr BlockKind) → (n : ℕ) → ℕ
places None n = 0
places (Some block) n = n

-- what is wanted is one of so many successors, if it is a successor
abbrev pub IsPlaceOf : (n : ℕ) → Wanted → Type 0
IsPlaceOf n (Operand body ty left) = Unit {0}
IsPlaceOf n (Successor region place) = place < n
IsPlaceOf n Nothing = Unit {0}

-- the operation p uses something, where it has so many successors
pub record IsUseOf (p : Ptr OperationKind) (n : ℕ) (u : PendingUse) : Type 0 where
  pub op : u.op ≡ p
  pub place : IsPlaceOf n u.wanted

-- such uses come behind those that were noted before
abbrev pub AddsUses : (p : Ptr OperationKind) → (n : ℕ) → (old new : List PendingUse) → Type 0
AddsUses p n old new = (more : List PendingUse) × (new ≡ old ++ more) × All (IsUseOf p n) more

module _ {N V : Type 0} (same : N → N → Bool) where
  -- these bear names besides those that bore some before
  abbrev pub Bears : (old new : NameTable N V) → (more : List (N × V)) → Type 0
  Bears old new more = (listed : List (N × V)) → Says same (meanings same old) listed →
      Says same (meanings same new) (listed ++ more)

  -- all that bear a name pass
  abbrev pub BearAll : (passes : V → Type 0) → NameTable N V → Type 0
  BearAll passes table = (listed : List (N × V)) × Says same (meanings same table) listed ×
      All (λ (b : N × V). passes b.1) listed

module _ {K A T : Type 0} where
  abbrev pub IsBlockLive : ContextView K A T → Option (Ptr RegionKind × Ptr BlockKind) → Type 0
  IsBlockLive s None = Unit {0}
  IsBlockLive s (Some around) = IsLive s (BasicBlock around.1)

  -- the operation that uses something stands there, and has a place for it
  pub record IsPending (s : ContextView K A T) (u : PendingUse) : Type 0 where
    pub live : IsLive s (Operation u.op)
    pub place : IsPlaceOf (length (successors_of s u.op)) u.wanted

  -- the values and the blocks that bear names are live, and so are the operations that use some
  pub record AreReady (s : ContextView K A T) (notes : Notes) : Type 0 where
    pub values : BearAll same_name (IsValueLive s) notes.values
    pub labels : BearAll same_label (λ b. IsLive s (BasicBlock b)) notes.labels
    pub uses : All (IsPending s) notes.uses.items

  -- no operation that uses something was there before
  abbrev pub AreNew : ContextView K A T → Notes → Type 0
  AreNew first notes = All (λ (u : PendingUse). is_live first (Operation u.op) ≡ false) notes.uses.items

  -- From s to t more was noted: all stands there, if it stood before, and who uses by name is new.
  pub record NotesOn (s : ContextView K A T) (old : Notes) (t : ContextView K A T) (new : Notes) : Type 0 where
    pub ready : AreReady s old → AreReady t new
    pub fresh : (first : ContextView K A T) → KeepsLive first.nodes s.nodes → AreNew first old → AreNew first new

  -- the block that an operation is to stand in is live
  abbrev pub IsPlaceLive : ContextView K A T → Place → Type 0
  IsPlaceLive s at = IsBlockLive s at.block
