-- The walk that looks for an operation without the attributes that its header shows.
use Rattle.std.specs.Prelude.{Bool, true, false}
use Rattle.std.specs.declared.ops.ControlFlow.{ControlFlow}
use Rattle.std.specs.declared.ops.ControlFlow.TheVariants.{Continue, Break}
use Rattle.plir_core.specs.declared.ptr.IRNode.{IRNode}
use Rattle.plir_core.specs.declared.ptr.IRNode.TheVariants.{Operation, Region, BasicBlock}
use Rattle.plir_core.specs.ContextView.{ContextView}
use Rattle.plir_walk.specs.declared.interruptible.WalkContinue.{WalkContinue}
use Rattle.plir_walk.specs.declared.interruptible.WalkContinue.TheVariants.{Advance}
use Rattle.plir_print.specs.HeaderAttrs.{has_header}

-- it goes on where the attributes are there, and else breaks off
abbrev pub answer_for : Bool → ControlFlow (Unit {0}) WalkContinue
answer_for true = Continue Advance
answer_for false = Break tt

-- the answer at a node
abbrev pub header_answer : {K A T : Type 0} → ContextView K A T → IRNode → ControlFlow (Unit {0}) WalkContinue
header_answer s (Operation p) = answer_for (has_header s p)
header_answer s (Region r) = Continue Advance
header_answer s (BasicBlock b) = Continue Advance
