-- Steps of a walk that calls at operations alone, past the nodes at which it calls nothing. The contracts of walks cite
-- nothing of it.
use Rattle.std.specs.Prelude.{◌≡◌, ◌⊎◌, Bool, true, false, Option, Some, None}
use Rattle.plir_core.specs.declared.ptr.IRNode.{IRNode}
use Rattle.plir_core.specs.Forest.{Shape}
use Rattle.plir_walk.specs.declared.config.WalkConfig.{WalkConfig}
use Rattle.plir_walk.specs.Config.{order_of}
use Rattle.plir_walk.specs.OperationWalks.{is_operation}
use Rattle.plir_walk.specs.Step.{due_at, IsNotDue, Runs}

-- no operation is called at a cursor
abbrev pub IsPassedBy : WalkConfig → IRNode → Bool → Type 0
IsPassedBy w n entering = (is_operation n ≡ false) ⊎ IsNotDue w n entering

-- a run of steps, from the second on at nodes where no operation is called
abbrev pub OperationHops : WalkConfig → Shape → IRNode → IRNode → Bool → Option (IRNode × Bool) → Type 0
OperationHops w s root n below o = Runs w s root (IsPassedBy w) n below o

-- Such a hop leads to a cursor, told with whether its node is called now, if it is an operation; or the walk ends.
abbrev pub IsOperationHop : WalkConfig → Shape → IRNode → IRNode → Bool → Option (IRNode × Bool × Bool) → Type 0
IsOperationHop w s root n below None = OperationHops w s root n below None
IsOperationHop w s root n below (Some c) =
    OperationHops w s root n below (Some (c.0, c.1)) × (c.2 ≡ due_at (order_of w c.0) c.1)

-- a way down from n, whatever the root is
abbrev pub Sinks : WalkConfig → Shape → IRNode → IRNode × Bool → Type 0
Sinks w s n c = (root : IRNode) → OperationHops w s root n true (Some c)

-- a way down, if there is to be one; else n is left
abbrev pub SinksIf : Bool → WalkConfig → Shape → IRNode → IRNode × Bool → Type 0
SinksIf true w s n c = Sinks w s n c
SinksIf false w s n c = c ≡ (n, false)
