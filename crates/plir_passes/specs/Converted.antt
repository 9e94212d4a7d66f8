-- What the call of a converting walk at a node leaves.
use Rattle.std.specs.Prelude.{Bool}
use Rattle.std.specs.declared.ops.ControlFlow.{ControlFlow}
use Rattle.std.specs.declared.ops.ControlFlow.TheVariants.{Continue, Break}
use Rattle.plir_data.specs.declared.op_set.OpKind.{OpKind}
use Rattle.plir_core.specs.declared.ptr.IRNode.{IRNode}
use Rattle.plir_core.specs.Forest.{look}
use Rattle.plir_core.specs.ContextView.{ContextView}
use Rattle.plir_walk.specs.declared.interruptible.WalkContinue.{WalkContinue}
use Rattle.plir_walk.specs.declared.interruptible.WalkContinue.TheVariants.{Advance, Skip}
use Rattle.plir_walk.specs.Lawful.{Lawful}
use Rattle.plir_passes.specs.Legal.{HasLegalChildren}
use Rattle.plir_passes.specs.Rewritten.{IsConverted}
use Rattle.plir_passes.specs.Rewrites.{Rewrites, IsNodeConverted}

-- What the call at a node leaves of it, by its answer: it has no illegal child, or the call has broken the walk off.
abbrev pub IsSettled : {K A T B : Type 0} → (OpKind K → Bool) → ContextView K A T → IRNode
    → ControlFlow B WalkContinue →
    Type 0
IsSettled illegal s n (Continue Advance) = HasLegalChildren illegal s n
IsSettled illegal s n (Continue Skip) = ⊥
IsSettled illegal s n (Break e) = Unit {0}

-- The call at a node n: the tree below n has changed alone, by calls of `rewrite`, illegal operations were replaced,
-- and n is settled.
pub record IsConvertedAt {K A T B : Type 0} (illegal : OpKind K → Bool) (rewrites : Rewrites K A T B)
    (s : ContextView K A T) (n : IRNode)
    (answer : ControlFlow B WalkContinue) (t : ContextView K A T) : Type 0 where
  pub lawful : Lawful (look s) n (look t)
  pub converted : IsConverted illegal s t
  pub settled : IsSettled illegal t n answer
  pub node : IsNodeConverted illegal rewrites s n answer t
