-- What is left where all names under a node are erased.
use Rattle.std.specs.Prelude.{◌≡◌, ℕ, cond, List, length, None, is_some, option_map}
use Rattle.plir_store.specs.Table.{Table, content_at, version_at}
use Rattle.plir_data.specs.AttrView.{AttrView}
use Rattle.plir_data.specs.Dictionary.{dict_without}
use Rattle.plir_data.specs.Keys.{names_key}
use Rattle.plir_core.specs.declared.ptr.Ptr.{Ptr}
use Rattle.plir_core.specs.declared.ptr.Operation.{Operation as OperationKind}
use Rattle.plir_core.specs.declared.ptr.BasicBlock.{BasicBlock as BasicBlockKind}
use Rattle.plir_core.specs.declared.ptr.IRNode.{IRNode}
use Rattle.plir_core.specs.declared.ptr.IRNode.TheVariants.{Operation, Region, BasicBlock}
use Rattle.plir_core.specs.Contents.{OpView, BlockView}
use Rattle.plir_core.specs.ContextView.{ContextView, IsLive, is_live, given_out, children, parent_of, limit, op_at}
use Rattle.plir_core.specs.ContextView.{block_at}
use Rattle.plir_core.specs.Changes.{with_op_edit, with_block_edit}
use Rattle.plir_walk.specs.Tree.{IsUnder}
use Rattle.plir_walk.specs.GivenNames.{has_other}

-- attributes without the names under the key; an attribute of another kind stays there
abbrev pub unnamed : {A : Type 0} → List (List ℕ × AttrView A) → List (List ℕ × AttrView A)
unnamed es = cond (has_other es) es (dict_without es names_key)

-- an operation without the names of its results
abbrev pub op_unnamed : {K A : Type 0} → OpView K A → OpView K A
op_unnamed o = record o { attributes = unnamed o.attributes }

-- a block without the names of its arguments, and without a label
abbrev pub block_unnamed : {A : Type 0} → BlockView A → BlockView A
block_unnamed b = record b { label = None; attributes = unnamed b.attributes }

-- From t to u there are as many slots, the same of them hold something, each has the version that it had, and the same
-- are free, in the same order: so the next nodes get the slots that they would have got.
pub record SameSlots {C : Type 0} (t u : Table C) : Type 0 where
  pub number : length u.slots ≡ length t.slots
  pub full : (j : ℕ) → is_some (content_at u j) ≡ is_some (content_at t j)
  pub versions : (j : ℕ) → version_at u j ≡ version_at t j
  pub free : u.free ≡ t.free

module _ {K A T : Type 0} where
  -- the context s with the slots of operations and blocks of t, and what stands in them
  abbrev pub with_slots_of : ContextView K A T → ContextView K A T → ContextView K A T
  with_slots_of t s = record s { nodes = record s.nodes { ops = t.nodes.ops; blocks = t.nodes.blocks } }

  -- one node without its names
  abbrev pub without_names : ContextView K A T → IRNode → ContextView K A T
  without_names s (Operation p) = with_op_edit s p op_unnamed
  without_names s (BasicBlock p) = with_block_edit s p block_unnamed
  without_names s (Region p) = s

  -- From s to t, each operation and each block under r has lost its names, and each block there its label. All else is
  -- the same.
  pub record IsUnnamed (s t : ContextView K A T) (r : IRNode) : Type 0 where
    -- what is held under r
    pub ops_under : (p : Ptr OperationKind) → IsUnder (children s) r (Operation p) →
        op_at t p ≡ option_map op_unnamed (op_at s p)
    pub blocks_under : (p : Ptr BasicBlockKind) → IsUnder (children s) r (BasicBlock p) →
        block_at t p ≡ option_map block_unnamed (block_at s p)
    -- and by the other nodes
    pub ops_apart : (p : Ptr OperationKind) → IsLive s (Operation p) → (IsUnder (children s) r (Operation p) → ⊥) →
        op_at t p ≡ op_at s p
    pub blocks_apart : (p : Ptr BasicBlockKind) → IsLive s (BasicBlock p)
        → (IsUnder (children s) r (BasicBlock p) → ⊥) →
        block_at t p ≡ block_at s p
    -- the same nodes stand where they stood
    pub live : (n : IRNode) → is_live t n ≡ is_live s n
    pub children : (n : IRNode) → children t n ≡ children s n
    pub parents : (n : IRNode) → parent_of t n ≡ parent_of s n
    pub given : (n : IRNode) → given_out t n ≡ given_out s n
    pub limit : limit t ≡ limit s
    pub types : t.types ≡ s.types
    -- and so do the slots, the free ones too; regions, lists of children and all else are the same
    pub op_slots : SameSlots s.nodes.ops t.nodes.ops
    pub block_slots : SameSlots s.nodes.blocks t.nodes.blocks
    pub rest : t ≡ with_slots_of t s
