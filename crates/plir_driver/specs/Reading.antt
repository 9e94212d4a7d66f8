-- What is said of texts that are read.
use Rattle.std.specs.Prelude.{ℕ, [], ◌-◌, ◌^◌, List}
use Rattle.plir_core.specs.declared.ptr.Ptr.{Ptr}
use Rattle.plir_core.specs.declared.ptr.Operation.{Operation as OperationKind}
use Rattle.plir_core.specs.declared.ptr.IRNode.{IRNode}
use Rattle.plir_core.specs.ContextView.{ContextView}
use Rattle.plir_core.specs.Contents.{BlockView, OpView}
use Rattle.plir_core.specs.Edits.{empty}
use Rattle.plir_core.specs.Made.{IsMade}
use Rattle.plir_core.specs.Nodes.{Nodes}
use Rattle.plir_attr_text.specs.Faults.{IsOfText}
use Rattle.plir_attr_text.specs.TypeGrammar.{IsText}
use Rattle.plir_attr_text.specs.declared.fault.Fault.{Fault}
use Rattle.plir_attr_text.specs.declared.fault.Fault.TheVariants as faults
use Rattle.plir_read.specs.OpGrammar.{OpWithin}
use Rattle.plir_read.specs.OpTerms.{OpTerm}
use Rattle.plir_read.specs.Room.{BeginsTooMany, op_count}
use Rattle.plir_read.specs.Slots.{IsMadeInOrder}
use Rattle.plir_places.specs.OpPlaces.{op_places}
use Rattle.plir_places.specs.Placed.{ArePlaced}
use Rattle.plir_read_ir.specs.declared.fault.IrFault.{IrFault}
use Rattle.plir_read_ir.specs.declared.fault.IrFault.TheVariants.{Text}

-- What holds of an operation that was read: the text, the context after it, the operation. And when a text is refused.
abbrev pub ReadRule : (K A T : Type 0) → Type 1
ReadRule K A T = List ℕ → ContextView K A T → Ptr OperationKind → Type 0

abbrev pub RefusalRule : Type 1
RefusalRule = List ℕ → IrFault → Type 0

-- `read` says what holds of an operation once it is read; then it and the operations below it have got their places in
-- the text, and nothing else has changed.
abbrev pub IsPlacedOnce : {K A T : Type 0} → (read : ReadRule K A T) → ReadRule K A T
IsPlacedOnce {K} {A} {T} read text s p =
    (before : ContextView K A T) × read text before p × ArePlaced before s p (op_places text)

-- the nodes of a new context
abbrev pub no_nodes : {K A : Type 0} → Nodes (OpView K A) (BlockView A)
no_nodes = empty (2 ^ 32 - 1)

-- Why a text of builtin operations is refused: no operation is written so; or it begins with more nodes than a new
-- context has room for; or memory is wanting.
module _ (K A : Type 0) (text : List ℕ) where
  abbrev pub IsReaderRefusal : Fault → Type 0
  IsReaderRefusal faults.Memory = Unit {0}
  IsReaderRefusal faults.TooManyNodes = BeginsTooMany op_count (OpWithin 200) (no_nodes {K = K} {A = A}) text
  IsReaderRefusal fault = IsOfText fault × ((w : OpTerm) → IsText (OpWithin 200) text w → ⊥)

  abbrev pub IsBuiltinRefusal : IrFault → Type 0
  IsBuiltinRefusal (Text fault) = IsReaderRefusal fault
  IsBuiltinRefusal _ = ⊥

-- The operation was made anew with all below it in a context that had no node, its nodes in the order of their first
-- characters.
pub record IsMadeOfText {K A T : Type 0} (s : ContextView K A T) (text : List ℕ) (root : IRNode) : Type 0 where
  pub made : IsMade no_nodes s.nodes root
  pub in_order : IsMadeInOrder no_nodes s.nodes root
