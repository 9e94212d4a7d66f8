-- Laws of the definitions.
use Rattle.std.specs.Prelude.{◌≡◌, ◌≢◌, ◌⊎◌, List, reverse}
use Rattle.std.specs.declared.ops.ControlFlow.TheVariants.{Continue}
use Rattle.plir_walk.specs.declared.interruptible.WalkContinue.TheVariants.{Skip}
use Rattle.plir_core.specs.declared.ptr.IRNode.{IRNode}
use Rattle.plir_core.specs.Forest.{Shape}
use Rattle.plir_walk.specs.declared.config.Direction.{Direction}
use Rattle.plir_walk.specs.declared.config.Order.{Order}
use Rattle.plir_walk.specs.declared.config.Order.TheVariants.{PostOrder}
use Rattle.plir_walk.specs.declared.config.WalkConfig.{WalkConfig}
use Rattle.plir_walk.specs.declared.config.TheConstants.{WALKCONFIG_PREORDER_FORWARD as pre_forward}
use Rattle.plir_walk.specs.declared.config.TheConstants.{WALKCONFIG_POSTORDER_REVERSE as post_reverse}
use Rattle.plir_walk.specs.Lists.{Pairs}
use Rattle.plir_store.specs.Members.{Has, Distinct}
use Rattle.plir_walk.specs.Config.{order_of}
use Rattle.plir_walk.specs.Tree.{Tree, IsUnder, HasOnePlaceEach, NodeBefore}
use Rattle.plir_walk.specs.Calls.{Call, Relation, Chain, nodes_of}
use Rattle.plir_walk.specs.ShutOut.{IsShutOut}
use Rattle.plir_walk.specs.Walked.{IsCallUnder}

-- the setting with one order and one direction at all levels
abbrev pub uniform : Order → Direction → WalkConfig
uniform o d = record { regions_in_op = (o, d); ops_in_block = (o, d); blocks_in_region = (o, d) }

-- Before is a total order on the nodes under r: no node is before itself, what is before a node is before what that one
-- is before, and of two different nodes one is before the other.
pub record IsTotalOrder (w : WalkConfig) (t : Tree) (r : IRNode) : Type 0 where
  pub irreflexive : (a : IRNode) → NodeBefore w t r a a → ⊥
  pub transitive : (a b c : IRNode) → NodeBefore w t r a b → NodeBefore w t r b c → NodeBefore w t r a c
  pub total : (a b : IRNode) → IsUnder t r a → IsUnder t r b → a ≢ b → NodeBefore w t r a b ⊎ NodeBefore w t r b a

-- where each node has one place, Before is a total order
abbrev pub BeforeOrders : Type 0
BeforeOrders = (w : WalkConfig) (t : Tree) (r : IRNode) → HasOnePlaceEach t r → IsTotalOrder w t r

-- the list has exactly the nodes under r, each once, in their order
pub record IsTraversal (w : WalkConfig) (t : Tree) (r : IRNode) (ns : List IRNode) : Type 0 where
  pub exactly : (n : IRNode) → (Has ns n → IsUnder t r n) × (IsUnder t r n → Has ns n)
  pub once : Distinct ns
  pub increasing : Pairs (NodeBefore w t r) ns

-- PostOrder Reverse is PreOrder Forward reversed: of two nodes the other one is before, and the nodes under a root
-- stand the other way round.
pub record IsReversed (t : Tree) (r : IRNode) : Type 0 where
  pub before : (a b : IRNode) → (NodeBefore post_reverse t r a b → NodeBefore pre_forward t r b a) ×
      (NodeBefore pre_forward t r b a → NodeBefore post_reverse t r a b)
  pub traversal : (ns ms : List IRNode) → IsTraversal post_reverse t r ns → IsTraversal pre_forward t r ms →
      ns ≡ reverse ms

abbrev pub PostReverseIsPreForwardReversed : Type 0
PostReverseIsPreForwardReversed = (t : Tree) (r : IRNode) → HasOnePlaceEach t r → IsReversed t r

-- the only calls that answer Skip are at PostOrder nodes
abbrev pub SkipsAtPostOrder : {C S B : Type 0} → WalkConfig → List (Call C S B) → Type 0
SkipsAtPostOrder {C} {S} {B} w calls = (x : Call C S B) → Has calls x → x.answer ≡ Continue Skip →
    order_of w x.node ≡ PostOrder

abbrev pub ShutsOutNothing : {C S B : Type 0} → WalkConfig → List (Call C S B) → Type 0
ShutsOutNothing w calls = (t : Tree) (r n : IRNode) → IsShutOut w t r calls n → ⊥

-- A walk from c and s that left the state s', and called each node under the root once, in their order.
pub record WalkedOnce {C S B : Type 0} (look : C → Shape) (w : WalkConfig) (post : Relation C S B) (c : C) (s : S)
    (r : IRNode) (s' : S) : Type 0 where
  pub calls : List (Call C S B)
  pub chain : Chain (IsCallUnder look r post) c s calls c s'
  pub each_once : IsTraversal w (look c).children r (nodes_of calls)
