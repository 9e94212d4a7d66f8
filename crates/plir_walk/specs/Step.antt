-- One step of a walk's cursor: a node, and whether it is entered or left; and one hop, which is a run of steps. The
-- walkers' loops go by it; the contracts of walks cite nothing of it.
use Rattle.std.specs.Prelude.{◌≡◌, ℕ, zero, suc, Bool, true, false, not, cond, List, [], ◌∷◌, reverse}
use Rattle.std.specs.Prelude.{Option, Some, None, option_and_then, option_map}
use Rattle.plir_core.specs.declared.ptr.IRNode.{IRNode}
use Rattle.plir_core.specs.declared.ptr.IRNode.TheVariants.{Operation, BasicBlock, Region}
use Rattle.plir_core.specs.Forest.{Shape, IsForest}
use Rattle.std.specs.declared.ops.ControlFlow.{ControlFlow}
use Rattle.std.specs.declared.ops.ControlFlow.TheVariants.{Continue}
use Rattle.plir_walk.specs.Calls.{Relation}
use Rattle.plir_walk.specs.declared.config.Direction.{Direction}
use Rattle.plir_walk.specs.declared.config.Direction.TheVariants.{Forward, Reverse}
use Rattle.plir_walk.specs.declared.config.Order.{Order}
use Rattle.plir_walk.specs.declared.config.Order.TheVariants.{PreOrder, PostOrder}
use Rattle.plir_walk.specs.declared.config.WalkConfig.{WalkConfig}
use Rattle.plir_walk.specs.declared.interruptible.WalkContinue.{WalkContinue}
use Rattle.plir_walk.specs.declared.interruptible.WalkContinue.TheVariants.{Advance, Skip}
use Rattle.plir_store.specs.Members.{head}
use Rattle.plir_walk.specs.Config.{direction_of, order_of}
use Rattle.plir_walk.specs.Tree.{same}

-- how a node and its siblings are taken, by the kind of what they stand in
abbrev pub direction_above : WalkConfig → IRNode → Direction
direction_above w (Operation p) = w.ops_in_block.1
direction_above w (BasicBlock p) = w.blocks_in_region.1
direction_above w (Region p) = w.regions_in_op.1

-- the node that follows n in a list
abbrev pub after : IRNode → List IRNode → Option IRNode
after n [] = None
after n (x ∷ xs) = cond (same x n) (head xs) (after n xs)

-- the children in the order in which a walk takes them
abbrev pub taken : Direction → List IRNode → List IRNode
taken Forward xs = xs
taken Reverse xs = reverse xs

-- whether a node of this order is called as it is entered, or left
abbrev pub due_at : Order → Bool → Bool
due_at PreOrder entering = entering
due_at PostOrder entering = not entering

-- the child that a walk enters first
abbrev pub first_of : WalkConfig → Shape → IRNode → Option IRNode
first_of w s n = head (taken (direction_of w n) (s.children n))

-- the sibling that a walk enters after n
abbrev pub next_of : WalkConfig → Shape → IRNode → Option IRNode
next_of w s n = option_and_then (λ a. after n (taken (direction_of w a) (s.children a))) (s.parent n)

-- enter the node, or leave the other
abbrev pub enter_or_leave : Option IRNode → IRNode → IRNode × Bool
enter_or_leave None n = (n, false)
enter_or_leave (Some k) n = (k, true)

-- the next cursor: what is below n comes next, or n is left
abbrev pub step_of : WalkConfig → Shape → IRNode → IRNode → Bool → Option (IRNode × Bool)
step_of w s root n true = Some (enter_or_leave (first_of w s n) n)
step_of w s root n false = cond (same n root) None (option_map (λ a. enter_or_leave (next_of w s n) a) (s.parent n))

-- where a walk stands that enters n: there, if n is called as it is entered; else at its first child, or at its end
abbrev pub entered_by : Option IRNode → Order → IRNode → IRNode × Bool
entered_by first PreOrder n = (n, true)
entered_by first PostOrder n = enter_or_leave first n

abbrev pub entered : WalkConfig → Shape → IRNode → IRNode × Bool
entered w s n = entered_by (first_of w s n) (order_of w n) n

-- A run of steps from n, of which each but the last leads to a node that is passed by.
abbrev pub Run : WalkConfig → Shape → IRNode → (IRNode → Bool → Type 0) → ℕ → IRNode → Bool → Option (IRNode × Bool) →
    Type 0
Run w s root Passed zero n below o = o ≡ step_of w s root n below
Run w s root Passed (suc k) n below o = (m : IRNode) × (entering : Bool) ×
    (step_of w s root n below ≡ Some (m, entering)) × Passed m entering × Run w s root Passed k m entering o

abbrev pub Runs : WalkConfig → Shape → IRNode → (IRNode → Bool → Type 0) → IRNode → Bool → Option (IRNode × Bool) →
    Type 0
Runs w s root Passed n below o = (k : ℕ) × Run w s root Passed k n below o

-- no call is due at a cursor
abbrev pub IsNotDue : WalkConfig → IRNode → Bool → Type 0
IsNotDue w n entering = due_at (order_of w n) entering ≡ false

-- One hop of a walk's cursor: a step, and further ones from where no call is due.
abbrev pub Hops : WalkConfig → Shape → IRNode → IRNode → Bool → Option (IRNode × Bool) → Type 0
Hops w s root n below o = Runs w s root (IsNotDue w) n below o

-- A hop leads to a cursor, told with whether its node is called now; or the walk ends.
abbrev pub IsHop : WalkConfig → Shape → IRNode → IRNode → Bool → Option (IRNode × Bool × Bool) → Type 0
IsHop w s root n below None = Hops w s root n below None
IsHop w s root n below (Some c) = Hops w s root n below (Some (c.0, c.1)) × (c.2 ≡ due_at (order_of w c.0) c.1)

-- a cursor with whether its node is called now
abbrev pub cursor_at : WalkConfig → IRNode × Bool → IRNode × Bool × Bool
cursor_at w c = (c.0, c.1, due_at (order_of w c.0) c.1)

-- what a walk goes on to after a call with this answer
abbrev pub goes_on : Bool → WalkContinue → Bool
goes_on entering Advance = entering
goes_on entering Skip = false

-- What a visit of a node leaves, from c and s to c' and s': where a call is due, one was made, with this answer, and a
-- forest is left; else nothing has changed, and the walk goes on.
abbrev pub IsVisited : {C S B : Type 0} → (C → Shape) → Relation C S B → C → S → IRNode → Bool →
    ControlFlow B WalkContinue → C → S → Type 0
IsVisited look post c s n true a c' s' = post c s n a c' s' × IsForest (look c')
IsVisited look post c s n false a c' s' = (a ≡ Continue Advance) × (c' ≡ c) × (s' ≡ s)
