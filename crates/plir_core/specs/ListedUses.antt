-- Where values and blocks are used.
use Rattle.std.specs.Prelude.{◌≡◌, ℕ, zero, suc, ◌+◌, ◌≤◌, Bool, cond, List, [], ◌∷◌, ◌++◌, length}
use Rattle.plir_store.specs.Table.{content_at}
use Rattle.plir_core.specs.declared.ptr.Ptr.{Ptr}
use Rattle.plir_core.specs.declared.ptr.Operation.{Operation as OperationKind}
use Rattle.plir_core.specs.declared.ptr.BasicBlock.{BasicBlock as BasicBlockKind}
use Rattle.plir_core.specs.declared.ptr.IRNode.{IRNode}
use Rattle.plir_core.specs.declared.ptr.IRNode.TheVariants.{BasicBlock}
use Rattle.plir_core.specs.declared.uses.Use.{Use}
use Rattle.plir_core.specs.declared.uses.listing.Used.{Used}
use Rattle.plir_core.specs.declared.uses.listing.Used.TheVariants.{Operand, Successor}
use Rattle.plir_core.specs.declared.value.Value.{Value}
use Rattle.plir_core.specs.Nodes.{ptr_at}
use Rattle.plir_core.specs.ContextView.{ContextView, entity_node, operands_in, successors_in}
use Rattle.plir_core.specs.SameValue.{same_ptr, same_value}
use Rattle.plir_core.specs.Stored.{seat_of}
use Rattle.plir_core.specs.Uses.{total, uses_held}

-- the lists f 0 to f (n - 1), one behind the other
abbrev pub joined : {X : Type 0} → (ℕ → List X) → ℕ → List X
joined f zero = []
joined f (suc n) = joined f n ++ f n

-- the place i of an operation as a use, if there is one
abbrev pub use_if : {U : Type 0} → Bool → Ptr OperationKind → ℕ → List (Use U)
use_if b p i = cond b (record { op = p; index = i; kind = record {} } ∷ []) []

-- the places of an operation from i on where these things pass a test
abbrev pub uses_from : {X U : Type 0} → (X → Bool) → Ptr OperationKind → ℕ → List X → List (Use U)
uses_from is p i [] = []
uses_from is p i (x ∷ xs) = use_if (is x) p i ++ uses_from is p (i + 1) xs

module _ {K A T : Type 0} where
  -- the places where the operation in a slot has the value as an operand; a free slot has none
  abbrev pub value_uses_in : ContextView K A T → Value → ℕ → List (Use Value)
  value_uses_in s v i = uses_from (λ x. same_value x v) (ptr_at s.nodes.ops i) 0 (operands_in (content_at s.nodes.ops i))

  -- the places where the operation in a slot has the block as a successor
  abbrev pub block_uses_in : ContextView K A T → Ptr BasicBlockKind → ℕ → List (Use (Ptr BasicBlockKind))
  block_uses_in s b i = uses_from (λ x. same_ptr x b) (ptr_at s.nodes.ops i) 0
      (successors_in (content_at s.nodes.ops i))

  -- the places where live operations have the value as an operand: those of an operation in their order, and operations
  -- in the order of their slots
  abbrev pub value_uses : ContextView K A T → Value → List (Use Value)
  value_uses s v = joined (value_uses_in s v) (length s.nodes.ops.slots)

  -- the places where live operations have the block as a successor, in the same order
  abbrev pub block_uses : ContextView K A T → Ptr BasicBlockKind → List (Use (Ptr BasicBlockKind))
  block_uses s b = joined (block_uses_in s b) (length s.nodes.ops.slots)

-- the node whose uses are counted with those of what is used
abbrev pub used_node : Used → IRNode
used_node (Operand v) = entity_node v.entity
used_node (Successor b) = BasicBlock b

module _ {K A T : Type 0} where
  -- the places where the operation in a slot uses it
  abbrev pub used_in : {U : Type 0} → ContextView K A T → Used → ℕ → List (Use U)
  used_in s (Operand v) i = uses_from (λ x. same_value x v) (ptr_at s.nodes.ops i) 0
      (operands_in (content_at s.nodes.ops i))
  used_in s (Successor b) i = uses_from (λ x. same_ptr x b) (ptr_at s.nodes.ops i) 0
      (successors_in (content_at s.nodes.ops i))

  -- how often the operation in a slot uses a node: its values as operands, and itself as a successor
  abbrev pub node_uses_in : ContextView K A T → IRNode → ℕ → ℕ
  node_uses_in s n i = uses_held (seat_of n) (content_at s.nodes.ops i)

  -- Of the places where it is used these are listed, which are in slots before `end`, but for those in slots that were
  -- passed over. The operations in the other ones use its node `seen` times.
  pub record AreListed {U : Type 0} (s : ContextView K A T) (u : Used) (end seen : ℕ) (us : List (Use U)) : Type 0 where
    pub passed : ℕ
    pub sum : total (node_uses_in s (used_node u)) end ≡ seen + passed
    pub all : passed ≡ 0 → us ≡ joined (used_in s u) end
    pub within : end ≤ length s.nodes.ops.slots
