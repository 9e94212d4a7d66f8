-- How many of a list of nodes there are from an operation on.
use Rattle.std.specs.Prelude.{ℕ, suc, cond, List, [], ◌∷◌, length, Option, Some, None}
use Rattle.std.specs.Ordering.{eq_by_cmp}
use Rattle.plir_core.specs.declared.ptr.Ptr.{Ptr}
use Rattle.plir_core.specs.declared.ptr.Operation.{Operation as OperationKind}
use Rattle.plir_core.specs.declared.ptr.IRNode.{IRNode}
use Rattle.plir_core.specs.declared.ptr.IRNode.TheVariants.{Operation, Region, BasicBlock}
use Rattle.plir_builtin.specs.Maps.{ptr_cmp}

abbrev pub left_in : List IRNode → Option (Ptr OperationKind) → ℕ
left_in ns None = 0
left_in [] (Some p) = 0
left_in (Operation q ∷ ns) (Some p) = cond (eq_by_cmp ptr_cmp q p) (suc (length ns)) (left_in ns (Some p))
left_in (Region q ∷ ns) (Some p) = left_in ns (Some p)
left_in (BasicBlock q ∷ ns) (Some p) = left_in ns (Some p)
