-- What the test of an operation of any kind tells, from what its parts tell.
use Rattle.std.proofs.Common.{ℕ, Bool, List, Option, Some, None, refl, sym, subst}
use Rattle.std.specs.Prelude.{MatchOption}
use Rattle.plir_data.specs.declared.op_set.OpSet as op_set
use Rattle.plir_core.specs.ContextView.{ContextView, children}
use Rattle.plir_core.specs.declared.ptr.Ptr.{Ptr}
use Rattle.plir_core.specs.declared.ptr.Operation.{Operation as OperationKind}
use Rattle.plir_core.specs.declared.ptr.IRNode.{IRNode}
use Rattle.plir_core.specs.declared.ptr.IRNode.TheVariants.{Operation, BasicBlock}
use Rattle.plir_core.specs.declared.value.DefiningEntity.TheVariants.{Op, Block}
use Rattle.plir_walk.specs.Tree.{IsUnder}
use Rattle.plir_roundtrip.specs.IrReadable.{AreIrReadable, HasReadableText}
use Rattle.plir_roundtrip.specs.IrReadableUses.{IsIrReadable}
use Rattle.plir_roundtrip.specs.Obstacles.{IsFarUse, IsFirstUnread, IsIrNodeReadable, IsNodeCounted, IsObstacle}
use Rattle.plir_roundtrip.specs.Obstacles.{IsUnreadAs}
use Rattle.plir_roundtrip.specs.UsesWithin.{AreCounted, UsesWithin}
use Rattle.plir_roundtrip.specs.declared.obstacle.Obstacle.{Obstacle}
use Rattle.plir_roundtrip.specs.declared.obstacle.Obstacle.TheVariants.{Kind, Types, Content, Levels, Operand, Successor}

module _ {D K A T E : Type 0} (o : op_set.Ghosts D K A T E) (find : List ℕ → Option K) (isolated : K → Bool)
    (s : ContextView K A T) (p : Ptr OperationKind) where
  -- nodes that can be read, each with results or arguments that can be counted
  pub all_looked_at : ((n : IRNode) → IsUnder (children s) (Operation p) n
      → IsIrNodeReadable o find s n × IsNodeCounted o find s n)
      → AreIrReadable o find s (Operation p) × AreCounted s (Operation p)
  all_looked_at each = (
    record { ops = λ q u. (each (Operation q) u).0; blocks = λ b u. (each (BasicBlock b) u).0 },
    counted,
  )
    where
      counted : AreCounted s (Operation p)
      counted (Op q) u = (each (Operation q) u).1
      counted (Block b) u = (each (BasicBlock b) u).1

  -- where its text stands for the operation, a use may stand against it
  pub told_by_uses : (found : Option Obstacle) → HasReadableText o find s p → AreCounted s (Operation p)
      → MatchOption found (UsesWithin isolated s (Operation p)) (IsFarUse isolated s (Operation p))
      → MatchOption found (IsIrReadable o find isolated s p) (IsObstacle o find s p isolated)
  told_by_uses None text few uses = record { text = text; uses = uses; counted = few }
  told_by_uses (Some (Kind n)) text few far = absurd far.far
  told_by_uses (Some (Types n)) text few far = absurd far.far
  told_by_uses (Some (Content n)) text few far = absurd far.far
  told_by_uses (Some Levels) text few far = absurd far.far
  told_by_uses (Some (Operand q i)) text few far = (text, far)
  told_by_uses (Some (Successor q i)) text few far = (text, far)

  -- the first node that cannot be read stands against it, for what is told of the node
  pub told_by_node : (n : IRNode) (why : Obstacle) → IsFirstUnread o find s p n → IsUnreadAs o find s n why
      → IsObstacle o find s p isolated why
  told_by_node n (Kind m) first is =
      subst (λ z. IsFirstUnread o find s p z × IsUnreadAs o find s z (Kind z)) (sym is.0) (first, (refl, is.1))
  told_by_node n (Types m) first is =
      subst (λ z. IsFirstUnread o find s p z × IsUnreadAs o find s z (Types z)) (sym is.0) (first, (refl, is.1, is.2))
  told_by_node n (Content m) first is =
      subst (λ z. IsFirstUnread o find s p z × IsUnreadAs o find s z (Content z)) (sym is.0)
      (first, (refl, is.1, is.2, is.3))
  told_by_node n Levels first is = absurd is
  told_by_node n (Operand q i) first is = absurd is
  told_by_node n (Successor q i) first is = absurd is
