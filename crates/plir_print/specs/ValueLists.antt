-- The values that an operation or a block has.
use Rattle.std.specs.Prelude.{List}
use Rattle.plir_core.specs.declared.ptr.IRNode.{IRNode}
use Rattle.plir_core.specs.declared.ptr.IRNode.TheVariants.{Operation, BasicBlock}
use Rattle.plir_core.specs.declared.value.Value.{Value}
use Rattle.plir_core.specs.ContextView.{ContextView, operands_of}
use Rattle.plir_print.specs.ValueNames.{results_of, arguments_of}
use Rattle.plir_print.specs.declared.values.ValueList.{ValueList}
use Rattle.plir_print.specs.declared.values.ValueList.TheVariants.{Operands, Results, Arguments}

-- the node that has them
abbrev pub holder : ValueList → IRNode
holder (Operands p) = Operation p
holder (Results p) = Operation p
holder (Arguments b) = BasicBlock b

-- these values, in order
abbrev pub values_in : {K A T : Type 0} → ContextView K A T → ValueList → List Value
values_in s (Operands p) = operands_of s p
values_in s (Results p) = results_of s p
values_in s (Arguments b) = arguments_of s b
