-- What is read off where a context, or its nodes, are the same.
use Rattle.std.proofs.Common.{◌≡◌, Bool, true, length, sym, ◌∙◌, ap}
use Rattle.plir_core.specs.declared.ptr.IRNode.{IRNode}
use Rattle.plir_core.specs.Nodes.{Nodes, is_node_live}
use Rattle.plir_core.specs.Contents.{OpView, BlockView}
use Rattle.plir_core.specs.ContextView.{ContextView, IsLive, is_live}

module _ {K A T : Type 0} {s t : ContextView K A T} (same : s ≡ t) where
  pub nodes_seen : s.nodes ≡ t.nodes
  nodes_seen = ap (λ (z : ContextView K A T). z.nodes) same

  -- as many slots of operations
  pub slots_seen : length s.nodes.ops.slots ≡ length t.nodes.ops.slots
  slots_seen = ap (λ (z : ContextView K A T). length z.nodes.ops.slots) same

  -- a test that was asked of s tells of t
  pub live_seen : (n : IRNode) (b : Bool) → b ≡ is_live s n → b ≡ true → IsLive t n
  live_seen n b e so = sym (ap (λ (z : Nodes (OpView K A) (BlockView A)). is_node_live z n) nodes_seen) ∙ sym e ∙ so
