-- The lines that list the calls of a walk's callback.
use Rattle.std.specs.Prelude.{◌≡◌, ◌+◌, ℕ, min, List, [], ◌∷◌, ◌++◌, codes, string_bytes}
use Rattle.std.specs.Fmt.{decimal}
use Rattle.std.specs.declared.ops.ControlFlow.{ControlFlow}
use Rattle.std.specs.declared.ops.ControlFlow.TheVariants.{Continue, Break}
use Rattle.plir_store.specs.Members.{Has}
use Rattle.plir_core.specs.declared.ptr.Ptr.{Ptr}
use Rattle.plir_core.specs.declared.ptr.Operation.{Operation as OperationKind}
use Rattle.plir_core.specs.declared.ptr.IRNode.{IRNode}
use Rattle.plir_core.specs.declared.ptr.IRNode.TheVariants.{Operation}
use Rattle.plir_core.specs.ContextView.{ContextView, children}
use Rattle.plir_walk.specs.declared.config.Direction.{Direction}
use Rattle.plir_walk.specs.declared.config.Direction.TheVariants.{Forward, Reverse}
use Rattle.plir_walk.specs.declared.config.Order.{Order}
use Rattle.plir_walk.specs.declared.config.Order.TheVariants.{PreOrder, PostOrder}
use Rattle.plir_walk.specs.declared.config.TheConstants.{WALKCONFIG_PREORDER_FORWARD as pre_forward}
use Rattle.plir_walk.specs.declared.config.TheConstants.{WALKCONFIG_PREORDER_REVERSE as pre_reverse}
use Rattle.plir_walk.specs.declared.config.TheConstants.{WALKCONFIG_POSTORDER_FORWARD as post_forward}
use Rattle.plir_walk.specs.declared.config.TheConstants.{WALKCONFIG_POSTORDER_REVERSE as post_reverse}
use Rattle.plir_walk.specs.declared.config.WalkConfig.{WalkConfig}
use Rattle.plir_walk.specs.declared.interruptible.WalkContinue.{WalkContinue}
use Rattle.plir_walk.specs.declared.interruptible.WalkContinue.TheVariants.{Advance, Skip}
use Rattle.plir_walk.specs.Lists.{Pairs}
use Rattle.plir_walk.specs.Tree.{IsUnder, NodeBefore}
use Rattle.plir_driver.specs.declared.tracing.Trace.{Trace}
use Rattle.plir_driver.specs.Counts.{most}
use Rattle.plir_pictures.specs.NodeNames.{node_name}

-- how a walk of an order and a direction takes each kind of node
abbrev pub config_for : Order → Direction → WalkConfig
config_for PreOrder Forward = pre_forward
config_for PreOrder Reverse = pre_reverse
config_for PostOrder Forward = post_forward
config_for PostOrder Reverse = post_reverse

-- the number of the call behind one of a number
abbrev pub next_call : ℕ → ℕ
next_call k = min (k + 1) most

module _ {K A T : Type 0} (own : K → List ℕ) (s : ContextView K A T) where
  -- the line of a call of a number at a node
  abbrev pub call_line : ℕ → IRNode → List ℕ
  call_line k n = decimal k ++ (codes " " ++ (node_name own s n ++ codes "\n"))

  -- the lines of calls at nodes, behind a call of a number
  abbrev pub call_lines : ℕ → List IRNode → List ℕ
  call_lines k [] = []
  call_lines k (n ∷ ns) = call_line (next_call k) n ++ call_lines (next_call k) ns

  -- what a call does to a trace: its line is put, and the walk goes on; or the walk is broken off
  abbrev pub IsCallPut : {B : Type 0} → Trace → IRNode → ControlFlow B WalkContinue → Trace → Type 0
  IsCallPut t n (Continue Advance) t' = (t'.calls ≡ next_call t.calls) ×
      (string_bytes t'.text ≡ string_bytes t.text ++ call_line (next_call t.calls) n)
  IsCallPut t n (Continue Skip) t' = ⊥
  IsCallPut t n (Break b) t' = Unit {0}

  module _ (config : WalkConfig) (root : Ptr OperationKind) where
    -- exactly the nodes at or below the root, each once, in the order in which a walk comes to them
    pub record AreNodesBy (ns : List IRNode) : Type 0 where
      pub only_nodes : (n : IRNode) → Has ns n → IsUnder (children s) (Operation root) n
      pub all_nodes : (n : IRNode) → IsUnder (children s) (Operation root) n → Has ns n
      pub in_order : Pairs (NodeBefore config (children s) (Operation root)) ns

    -- behind a trace stand the lines of the calls at all of them
    abbrev pub AreCallsPut : Trace → Trace → Type 0
    AreCallsPut t t' = (ns : List IRNode) × AreNodesBy ns ×
        (string_bytes t'.text ≡ string_bytes t.text ++ call_lines t.calls ns)

    -- a text lists the calls at all of them, with their numbers from 1
    abbrev pub IsTraced : List ℕ → Type 0
    IsTraced t = (ns : List IRNode) × AreNodesBy ns × (t ≡ call_lines 0 ns)
