-- What operations come to use.
use Rattle.std.specs.Prelude.{◌≡◌, ◌⊎◌, ◌++◌, List, [], ◌∷◌, length, slice_set, Some, None}
use Rattle.plir_names.specs.Meanings.{meaning}
use Rattle.plir_names.specs.declared.names.Meaning.{Meaning}
use Rattle.plir_names.specs.declared.names.Meaning.TheVariants.{Unknown, Only, Ambiguous}
use Rattle.plir_core.specs.Contents.{OpView}
use Rattle.plir_core.specs.ContextView.{ContextView, IsLive, op_at, block_at, result_types_of, successors_of}
use Rattle.plir_core.specs.ContextView.{IsValueLive, type_of_value}
use Rattle.plir_core.specs.Held.{KeepsNodes}
use Rattle.plir_core.specs.declared.ptr.Ptr.{Ptr}
use Rattle.plir_core.specs.declared.ptr.Operation.{Operation as OperationKind}
use Rattle.plir_core.specs.declared.ptr.Region.{Region as RegionKind}
use Rattle.plir_core.specs.declared.ptr.BasicBlock.{BasicBlock as BlockKind}
use Rattle.plir_core.specs.declared.ptr.IRNode.TheVariants.{Operation}
use Rattle.plir_core.specs.declared.value.Value.{Value}
use Rattle.plir_read.specs.Slots.{node_slots}
use Rattle.plir_read_ir.specs.Mentions.{WordIn, same_word}
use Rattle.plir_read_ir.specs.Readings.{NotedUse, noted_operand, noted_successor, SaysLabels, SaysValues, noted_use}
use Rattle.plir_read_ir.specs.Readings.{uses_by}
use Rattle.plir_read_ir.specs.declared.fault.IrFault.{IrFault}
use Rattle.plir_read_ir.specs.declared.fault.IrFault.TheVariants.{Text, UnknownName, AmbiguousName, TypeMismatch}
use Rattle.plir_read_ir.specs.declared.fault.IrStop.{IrStop}
use Rattle.plir_read_ir.specs.declared.fault.IrStop.TheVariants.{Reading, Use}
use Rattle.plir_read_ir.specs.declared.notes.Notes.{Notes}
use Rattle.plir_read_ir.specs.declared.notes.PendingUse.{PendingUse}

module _ {K A T : Type 0} where
  -- From s to t operations use others: nodes, slots, types, results and the number of successors are as they were, and
  -- so is what blocks hold.
  pub record KeepsShape (s t : ContextView K A T) : Type 0 where
    pub nodes : KeepsNodes s t
    pub slots : node_slots t.nodes ≡ node_slots s.nodes
    pub results : (p : Ptr OperationKind) → IsLive s (Operation p) → result_types_of t p ≡ result_types_of s p
    pub successors : (p : Ptr OperationKind) → IsLive s (Operation p) → length (successors_of t p) ≡ length
        (successors_of s p)
    pub blocks : (b : Ptr BlockKind) → block_at t b ≡ block_at s b

  -- the same, and only operations that were not there before, in `first`, hold something else
  pub record IsLinked (first s t : ContextView K A T) : Type 0 where
    pub shape : KeepsShape s t
    pub ops : (p : Ptr OperationKind) → IsLive first (Operation p) → IsLive s (Operation p) → op_at t p ≡ op_at s p

  -- only this operation holds something else
  pub record IsLinkedAt (s t : ContextView K A T) (p : Ptr OperationKind) : Type 0 where
    pub shape : KeepsShape s t
    pub ops : (q : Ptr OperationKind) → IsLive s (Operation q) → (q ≡ p → ⊥) → op_at t q ≡ op_at s q

-- ---- what a use makes of what an operation holds

-- where these values bear names, and these blocks bear labels
module _ {K A T : Type 0} (values : List (WordIn OperationKind × Value))
    (labels : List (WordIn RegionKind × Ptr BlockKind)) (s : ContextView K A T) where
  -- The operation gets the live value that its name means, which has the type that is wanted, as its last operand; or
  -- the block that its label means, in a region, in place of the successor at a place.
  abbrev pub IsStep : NotedUse → (o p : OpView K A) → Type 0
  IsStep (noted_operand w type) o p = (v : Value) × IsValueLive s v × (meaning same_word values w ≡ Only v) ×
      (type_of_value s v ≡ Some type) × (p ≡ record o { operands = o.operands ++ v ∷ [] })
  IsStep (noted_successor l place) o p = (b : Ptr BlockKind) × (region : Ptr RegionKind) × (l.0 ≡ Some region) ×
      (meaning same_word labels l ≡ Only b) × (p ≡ record o { successors = slice_set o.successors place b })

  -- one use after the other
  abbrev pub AreSteps : List NotedUse → (o p : OpView K A) → Type 0
  AreSteps [] o p = p ≡ o
  AreSteps (u ∷ us) o p = (m : OpView K A) × IsStep u o m × AreSteps us m p

  -- what q holds in t is made so of what it holds in s, where it is live
  abbrev pub IsMadeBy : (t : ContextView K A T) → Ptr OperationKind → ((o p : OpView K A) → Type 0) → Type 0
  IsMadeBy t q makes = IsLive s (Operation q) → (o : OpView K A) → op_at s q ≡ Some o →
      (p : OpView K A) × (op_at t q ≡ Some p) × makes o p

  -- from s to t each operation got what it uses of these uses
  abbrev pub AreUsesLinked : (t : ContextView K A T) → List PendingUse → Type 0
  AreUsesLinked t us = (q : Ptr OperationKind) → IsMadeBy t q (AreSteps (uses_by q us))

-- The same by what was noted of values and blocks.
abbrev pub LinksUse : {K A T : Type 0} → Notes → (s t : ContextView K A T) → Ptr OperationKind → NotedUse → Type 0
LinksUse notes s t q u = (values : List (WordIn OperationKind × Value)) →
    (labels : List (WordIn RegionKind × Ptr BlockKind)) →
    SaysValues notes.values values → SaysLabels notes.labels labels →
    IsMadeBy values labels s t q (IsStep values labels s u)

abbrev pub LinksUses : {K A T : Type 0} → Notes → (s t : ContextView K A T) → List PendingUse → Type 0
LinksUses notes s t us = (values : List (WordIn OperationKind × Value)) →
    (labels : List (WordIn RegionKind × Ptr BlockKind)) →
    SaysValues notes.values values → SaysLabels notes.labels labels → AreUsesLinked values labels s t us

-- ---- uses that get nothing

-- why a meaning is none
abbrev pub TellsMeaning : {V : Type 0} → Meaning V → IrStop → Type 0
TellsMeaning m (Reading stop) = ⊥
TellsMeaning m (Use UnknownName left) = m ≡ Unknown
TellsMeaning m (Use AmbiguousName left) = m ≡ Ambiguous
TellsMeaning m (Use TypeMismatch left) = ⊥
TellsMeaning m (Use (Text f) left) = ⊥

-- that a type is another one
abbrev pub TellsType : IrStop → Type 0
TellsType (Reading stop) = ⊥
TellsType (Use UnknownName left) = ⊥
TellsType (Use AmbiguousName left) = ⊥
TellsType (Use TypeMismatch left) = Unit {0}
TellsType (Use (Text f) left) = ⊥

-- that memory or room is wanting
abbrev pub TellsNoUse : IrStop → Type 0
TellsNoUse (Reading stop) = Unit {0}
TellsNoUse (Use fault left) = ⊥

module _ {K A T : Type 0} (values : List (WordIn OperationKind × Value))
    (labels : List (WordIn RegionKind × Ptr BlockKind)) (s : ContextView K A T) where
  -- A use has a fault: nothing bears its name, or several do; or what it means has another type than is wanted.
  abbrev pub HasFault : IrFault → NotedUse → Type 0
  HasFault UnknownName (noted_operand w type) = meaning same_word values w ≡ Unknown
  HasFault UnknownName (noted_successor l place) = (l.0 ≡ None) ⊎ (meaning same_word labels l ≡ Unknown)
  HasFault AmbiguousName (noted_operand w type) = meaning same_word values w ≡ Ambiguous
  HasFault AmbiguousName (noted_successor l place) = meaning same_word labels l ≡ Ambiguous
  HasFault TypeMismatch (noted_operand w type) = (v : Value) × IsValueLive s v × (meaning same_word values w ≡ Only v) ×
      (type_of_value s v ≡ Some type → ⊥)
  HasFault TypeMismatch (noted_successor l place) = ⊥
  HasFault (Text f) u = ⊥

  -- from s to t the uses before one of these were linked, and that one has a fault
  pub record StopsAtUse (t : ContextView K A T) (us : List PendingUse) (fault : IrFault) : Type 0 where
    pub before : List PendingUse
    pub stops : PendingUse
    pub after : List PendingUse
    pub are : us ≡ before ++ stops ∷ after
    pub linked : AreUsesLinked values labels s t before
    pub fault_is : HasFault fault (noted_use stops)

-- The same by what was noted of values and blocks.
abbrev pub FailsUse : {K A T : Type 0} → Notes → (s : ContextView K A T) → NotedUse → IrStop → Type 0
FailsUse notes s u (Reading stop) = Unit {0}
FailsUse notes s u (Use fault left) = (values : List (WordIn OperationKind × Value)) →
    (labels : List (WordIn RegionKind × Ptr BlockKind)) →
    SaysValues notes.values values → SaysLabels notes.labels labels → HasFault values labels s fault u

abbrev pub FailsUses : {K A T : Type 0} → Notes → (s t : ContextView K A T) → List PendingUse → IrStop → Type 0
FailsUses notes s t us (Reading stop) = Unit {0}
FailsUses notes s t us (Use fault left) = (values : List (WordIn OperationKind × Value)) →
    (labels : List (WordIn RegionKind × Ptr BlockKind)) →
    SaysValues notes.values values → SaysLabels notes.labels labels → StopsAtUse values labels s t us fault
