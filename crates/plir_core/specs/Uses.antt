-- How often operations and blocks are used, as values and as successors, and the counts that a context keeps.
use Rattle.std.specs.Prelude.{◌≡◌, ℕ, zero, suc, ◌+◌, ◌-◌, ◌^◌, min, Bool, false, cond, ◌==◌, List, length}
use Rattle.std.specs.Prelude.{Option, Some, None, ◌⊎◌, slice_get, slice_set, slice_index_or, count_by}
use Rattle.std.specs.List.{sum_by}
use Rattle.plir_store.specs.Table.{Table, content_at}
use Rattle.plir_core.specs.declared.ptr.Ptr.{Ptr}
use Rattle.plir_core.specs.declared.ptr.BasicBlock.{BasicBlock as BasicBlockKind}
use Rattle.plir_core.specs.declared.ptr.IRNode.{IRNode}
use Rattle.plir_core.specs.declared.ptr.IRNode.TheVariants.{Operation, Region, BasicBlock}
use Rattle.plir_core.specs.declared.value.Value.{Value}
use Rattle.plir_core.specs.Contents.{OpView, BlockView}
use Rattle.plir_core.specs.Nodes.{Nodes}
use Rattle.plir_core.specs.Erase.{tree_of}
use Rattle.plir_core.specs.Stored.{Seat, op, region, block, seat_of}
use Rattle.plir_core.specs.ContextView.{ContextView, entity_node}
use Rattle.plir_core.specs.WellFormed.{IsWellFormed}

-- The counts of the slots of operations and of blocks, from the first slot on.
pub record Uses : Type 0 where
  pub ops : List ℕ
  pub blocks : List ℕ

-- a count that is not known any more
abbrev pub UNKNOWN : ℕ
UNKNOWN = 2 ^ 32 - 1

-- the sum of f over the numbers below n
abbrev pub total : (ℕ → ℕ) → ℕ → ℕ
total f zero = 0
total f (suc n) = total f n + f n

-- whether a node that can be used has this seat; no region is used
abbrev pub is_seated : Seat → IRNode → Bool
is_seated (op i) (Operation p) = p.slot == i
is_seated (op i) (Region p) = false
is_seated (op i) (BasicBlock p) = false
is_seated (region i) (Operation p) = false
is_seated (region i) (Region p) = false
is_seated (region i) (BasicBlock p) = false
is_seated (block i) (Operation p) = false
is_seated (block i) (Region p) = false
is_seated (block i) (BasicBlock p) = p.slot == i

-- 1 for the node's own seat, 0 for others
abbrev pub hit : Seat → IRNode → ℕ
hit at n = cond (is_seated at n) 1 0

-- how many of the values come from the node in a seat, and how many of the blocks have it
abbrev pub values_from : Seat → List Value → ℕ
values_from at vs = count_by (λ v. is_seated at (entity_node v.entity)) vs

abbrev pub blocks_in : Seat → List (Ptr BasicBlockKind) → ℕ
blocks_in at bs = count_by (λ b. is_seated at (BasicBlock b)) bs

-- how many nodes of the tree under the root sit where an operation or block does
abbrev pub places_in : {O B : Type 0} → Nodes O B → IRNode → IRNode → ℕ
places_in s root m = sum_by (λ n. hit (seat_of n) m) (tree_of s root)

module _ {K A : Type 0} where
  -- how often an operation uses what has a seat: its operands and its successors
  abbrev pub uses_in : Seat → OpView K A → ℕ
  uses_in at v = values_from at v.operands + blocks_in at v.successors

  abbrev pub uses_held : Seat → Option (OpView K A) → ℕ
  uses_held at None = 0
  uses_held at (Some v) = uses_in at v

  -- how often all operations use it
  abbrev pub uses_of : Table (OpView K A) → Seat → ℕ
  uses_of t at = total (λ i. uses_held at (content_at t i)) (length t.slots)

  -- how often a node uses what has a seat: only operations use anything
  abbrev pub uses_by : Nodes (OpView K A) (BlockView A) → Seat → IRNode → ℕ
  uses_by s at (Operation p) = uses_held at (content_at s.ops p.slot)
  uses_by s at (Region p) = 0
  uses_by s at (BasicBlock p) = 0

  -- how often a node uses nodes of the tree under the root
  abbrev pub uses_within : Nodes (OpView K A) (BlockView A) → IRNode → IRNode → ℕ
  uses_within s root m = sum_by (λ n. uses_by s (seat_of n) m) (tree_of s root)

  -- how often all nodes of the tree under the root are used, and how often by nodes of the tree
  abbrev pub uses_of_tree : Nodes (OpView K A) (BlockView A) → IRNode → ℕ
  uses_of_tree s root = sum_by (λ n. uses_of s.ops (seat_of n)) (tree_of s root)

  abbrev pub uses_inside : Nodes (OpView K A) (BlockView A) → IRNode → ℕ
  uses_inside s root = sum_by (uses_within s root) (tree_of s root)

-- the count that is kept for a seat, if there is one
abbrev pub count_at : Uses → Seat → Option ℕ
count_at u (op i) = slice_get u.ops i
count_at u (region i) = None
count_at u (block i) = slice_get u.blocks i

-- Each count that is kept and known is what f says.
abbrev pub Counts : Uses → (Seat → ℕ) → Type 0
Counts u f = (at : Seat) (n : ℕ) → count_at u at ≡ Some n → (n ≡ UNKNOWN) ⊎ (n ≡ f at)

-- Where the counts said f, they say that and `more` now.
abbrev pub IsRaisedBy : Uses → Uses → (Seat → ℕ) → Type 0
IsRaisedBy old now more = (f g : Seat → ℕ) → Counts old f → ((at : Seat) → g at ≡ f at + more at) → Counts now g

-- Where they said f, which is `fewer` and what is left, they say what is left.
abbrev pub IsLoweredBy : Uses → Uses → (Seat → ℕ) → Type 0
IsLoweredBy old now fewer = (f g : Seat → ℕ) → Counts old f → ((at : Seat) → f at ≡ g at + fewer at) → Counts now g

-- Counts that were those of the operations in t are those of the operations in t'.
abbrev pub StaysCounted : {K A : Type 0} → Uses → Uses → Table (OpView K A) → Table (OpView K A) → Type 0
StaysCounted old now t t' = Counts old (uses_of t) → Counts now (uses_of t')

-- the counts with one use more and one fewer of the slot i; a count that is not known stays so
abbrev pub raised : List ℕ → ℕ → List ℕ
raised xs i = slice_set xs i (min (slice_index_or xs i 0 + 1) UNKNOWN)

abbrev pub lowered : List ℕ → ℕ → List ℕ
lowered xs i = slice_set xs i (cond (slice_index_or xs i 0 == UNKNOWN) UNKNOWN (slice_index_or xs i 0 - 1))

abbrev pub with_use : Uses → IRNode → Uses
with_use u (Operation p) = record u { ops = raised u.ops p.slot }
with_use u (Region p) = u
with_use u (BasicBlock p) = record u { blocks = raised u.blocks p.slot }

abbrev pub without_use : Uses → IRNode → Uses
without_use u (Operation p) = record u { ops = lowered u.ops p.slot }
without_use u (Region p) = u
without_use u (BasicBlock p) = record u { blocks = lowered u.blocks p.slot }

-- the count of the slot i has begun at 0, or is not known; all others that are kept are as they were
abbrev pub IsBegun : List ℕ → List ℕ → ℕ → Type 0
IsBegun old now i = (j n : ℕ) →
    slice_get now j ≡ Some n → ((n ≡ UNKNOWN) ⊎ ((j ≡ i) × (n ≡ 0))) ⊎ (slice_get old j ≡ Some n)

-- What holds of the fields of every context: what is live holds what is live, and the counts are right.
pub record IsSound {K A T : Type 0} (own_handles : A → List ℕ) (s : ContextView K A T) (u : Uses) : Type 0 where
  pub whole : IsWellFormed own_handles s
  pub counted : Counts u (uses_of s.nodes.ops)

-- whether no live operation uses a node
abbrev pub is_not_used : {K A T : Type 0} → ContextView K A T → IRNode → Bool
is_not_used s n = uses_of s.nodes.ops (seat_of n) == 0
