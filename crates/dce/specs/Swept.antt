-- What is left when operations are erased that may go.
use Rattle.std.specs.Prelude.{◌≡◌, Bool, true, false, not, ◌&&◌, Option, Some, None, IfSome}
use Rattle.plir_data.specs.declared.op_set.OpKind.{OpKind}
use Rattle.plir_data.specs.declared.op_set.OpKind.TheVariants.{Module, Func, Constant, ForwardRef, Own}
use Rattle.plir_core.specs.declared.ptr.Ptr.{Ptr}
use Rattle.plir_core.specs.declared.ptr.Operation.{Operation as OperationKind}
use Rattle.plir_core.specs.declared.ptr.IRNode.{IRNode}
use Rattle.plir_core.specs.declared.ptr.IRNode.TheVariants.{Operation}
use Rattle.plir_core.specs.ContextView.{ContextView, IsLive, parent_of}
use Rattle.plir_walk.specs.Thinned.{IsThinnedBelow}

-- whether operations of a kind may go where nothing uses their results: constants may, and of the user's own kinds
-- those that have no effect and end no block
abbrev pub is_removable : {K : Type 0} → (has_effect is_terminator : K → Bool) → Option (OpKind K) → Bool
is_removable has_effect is_terminator None = false
is_removable has_effect is_terminator (Some Module) = false
is_removable has_effect is_terminator (Some Func) = false
is_removable has_effect is_terminator (Some Constant) = true
is_removable has_effect is_terminator (Some ForwardRef) = false
is_removable has_effect is_terminator (Some (Own k)) = not (has_effect k) && not (is_terminator k)

module _ {K A T : Type 0} (has_effect is_terminator : K → Bool) where
  -- From s to t operations below n are gone that had no effect and ended no block, and nothing else has changed:
  -- nothing is new, what is left stands where it stood, in its order, and holds what it held; each operation of another
  -- kind is there, and so are regions and blocks, and what does not stand below n is there. All of t is told by the
  -- list of what is gone. That nothing that is left uses a result of one that is gone is no part of this: it follows
  -- of every context, whose operands are live values.
  abbrev pub IsSweptBelow : IRNode → ContextView K A T → ContextView K A T → Type 0
  IsSweptBelow n s t = IsThinnedBelow (is_removable has_effect is_terminator) n s t

-- an operation, if there is one, is live and stands in n
abbrev pub IsOpOf : {K A T : Type 0} → ContextView K A T → IRNode → Option (Ptr OperationKind) → Type 0
IsOpOf s n op = IfSome op (λ p. IsLive s (Operation p)) × IfSome op (λ p. parent_of s (Operation p) ≡ Some n)
