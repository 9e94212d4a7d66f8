-- How deep nodes stand and how many are live: what loops and recursions over a context go by. What is said of walks and
-- of symbol tables cites nothing of it; the definitions of a text and of an erased tree take from it only how far to go
-- down.
use Rattle.std.specs.Prelude.{◌≡◌, ℕ, zero, suc, ◌+◌, ◌*◌, ◌≤◌, List, length, Option, Some, None}
use Rattle.plir_store.specs.Members.{Has, Distinct}
use Rattle.plir_core.specs.declared.ptr.IRNode.{IRNode}
use Rattle.plir_core.specs.Nodes.{Nodes}
use Rattle.plir_core.specs.Stored.{up, seat_of}
use Rattle.plir_core.specs.ContextView.{ContextView, IsLive, parent_of, limit, num_live}

-- how many things there are from n up, of k at most
abbrev pub depth_from : {N : Type 0} → (N → Option N) → ℕ → Option N → ℕ
depth_from up zero n = 0
depth_from up (suc k) None = 0
depth_from up (suc k) (Some n) = suc (depth_from up k (up n))

module _ {O B : Type 0} where
  -- more than any climb has steps
  abbrev pub most_steps : Nodes O B → ℕ
  most_steps s = 3 * (length s.ops.slots + length s.regions.slots + length s.blocks.slots) + 2

  -- how many nodes there are from a node up
  abbrev pub depth_of : Nodes O B → IRNode → ℕ
  depth_of s n = depth_from (up s) (most_steps s) (Some (seat_of n))

module _ {K A T : Type 0} where
  -- how many nodes there are from a node up
  abbrev pub depth : ContextView K A T → IRNode → ℕ
  depth s n = depth_of s.nodes n

  -- A node stands one level deeper than its parent, and no deeper than the limit allows; different live nodes are no
  -- more than are live.
  pub record IsMeasured (s : ContextView K A T) : Type 0 where
    pub deeper : (a x : IRNode) → parent_of s x ≡ Some a → depth s x ≡ depth s a + 1
    pub deepest : (x : IRNode) → depth s x ≤ limit s + 1
    pub counted : (ns : List IRNode) → Distinct ns → ((n : IRNode) → Has ns n → IsLive s n) → length ns ≤ num_live s
