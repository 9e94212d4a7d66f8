-- Which slots the nodes of a text get: each the next one of its kind, in the order of the nodes' first characters.
use Rattle.std.specs.Prelude.{◌≡◌, ℕ, zero, suc, ◌+◌, map, List, [], ◌∷◌, ◌++◌, length, slice_index_or, slice_set}
use Rattle.std.specs.List.{flat_map}
use Rattle.plir_store.specs.Table.{Cell, Table, slot_after}
use Rattle.plir_core.specs.declared.ptr.Ptr.{Ptr}
use Rattle.plir_core.specs.declared.ptr.IRNode.{IRNode}
use Rattle.plir_core.specs.declared.ptr.IRNode.TheVariants.{Operation, Region, BasicBlock}
use Rattle.plir_core.specs.Nodes.{Nodes, node_children}

-- The slots of one kind of nodes, without the nodes: how many each has held, in order, and the numbers of those that
-- are free for use, the one freed last first.
pub record KindSlots : Type 0 where
  pub versions : List ℕ
  pub free : List ℕ

-- the slots of a table
abbrev pub kind_slots : {C : Type 0} → Table C → KindSlots
kind_slots {C} t = record { versions = map (λ (c : Cell C). c.version) t.slots; free = t.free }

-- the number of the slot that the next node gets: the one freed last, or a new one
abbrev pub next_number : KindSlots → ℕ
next_number s = slot_after (length s.versions) s.free

-- the pointer to that node: to this slot, under the version that comes next there
abbrev pub next_pointer : {X : Type 0} → KindSlots → Ptr X
next_pointer s = record {
  slot = next_number s;
  version = slice_index_or s.versions (next_number s) 0 + 1;
  kind =
      record {};
}

-- the slots with one node more, where these are free
abbrev pub with_next_in : (versions free : List ℕ) → KindSlots
with_next_in vs [] = record { versions = vs ++ 1 ∷ []; free = [] }
with_next_in vs (f ∷ fs) = record { versions = slice_set vs f (slice_index_or vs f 0 + 1); free = fs }

abbrev pub with_next : KindSlots → KindSlots
with_next s = with_next_in s.versions s.free

-- The slots of all kinds.
pub record NodeSlots : Type 0 where
  pub ops : KindSlots
  pub regions : KindSlots
  pub blocks : KindSlots

-- the node is the next one of its kind
abbrev pub IsNext : NodeSlots → IRNode → Type 0
IsNext s (Operation p) = p ≡ next_pointer s.ops
IsNext s (Region p) = p ≡ next_pointer s.regions
IsNext s (BasicBlock p) = p ≡ next_pointer s.blocks

-- the slots with one node more of the kind of this one
abbrev pub with_one_like : NodeSlots → IRNode → NodeSlots
with_one_like s (Operation p) = record s { ops = with_next s.ops }
with_one_like s (Region p) = record s { regions = with_next s.regions }
with_one_like s (BasicBlock p) = record s { blocks = with_next s.blocks }

-- these nodes come one after another, each the next one of its kind, and then the slots are t
abbrev pub AreNext : (s : NodeSlots) → List IRNode → (t : NodeSlots) → Type 0
AreNext s [] t = t ≡ s
AreNext s (n ∷ ns) t = IsNext s n × AreNext (with_one_like s n) ns t

-- the nodes from n down, each before those below it, children in order, to k levels
abbrev pub pre_order : {N : Type 0} → (N → List N) → ℕ → N → List N
pre_order children zero n = []
pre_order children (suc k) n = n ∷ flat_map (pre_order children k) (children n)

module _ {O B : Type 0} where
  -- the slots of a context's nodes
  abbrev pub node_slots : Nodes O B → NodeSlots
  node_slots s = record { ops = kind_slots s.ops; regions = kind_slots s.regions; blocks = kind_slots s.blocks }

  -- From s to t exactly these nodes were given out, in this order, each in the next slot of its kind. Of links and of
  -- what nodes hold nothing is said.
  abbrev pub AreGivenOut : (s : Nodes O B) → List IRNode → (t : Nodes O B) → Type 0
  AreGivenOut s ns t = AreNext (node_slots s) ns (node_slots t)

  -- The nodes of the tree at n in the order of their first characters in a text, to more levels than there may be
  -- nodes: an operation, its region, which begins with a brace, and each block with its operations behind it.
  abbrev pub tree_in_order : Nodes O B → IRNode → List IRNode
  tree_in_order s n = pre_order (node_children s) (suc s.limit) n

  -- the same of the nodes below n
  abbrev pub below_in_order : Nodes O B → IRNode → List IRNode
  below_in_order s n = flat_map (tree_in_order s) (node_children s n)

  -- from s to t the tree at n was given out in the order of a text, and nothing else
  abbrev pub IsMadeInOrder : Nodes O B → Nodes O B → IRNode → Type 0
  IsMadeInOrder s t n = AreGivenOut s (tree_in_order t n) t

  -- from s to t the nodes below n were, and nothing else
  abbrev pub IsGrownInOrder : Nodes O B → Nodes O B → IRNode → Type 0
  IsGrownInOrder s t n = AreGivenOut s (below_in_order t n) t
