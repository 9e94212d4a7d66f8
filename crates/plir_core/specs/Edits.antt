-- What the calls that change nodes make of them.
use Rattle.std.specs.Prelude.{◌≡◌, ℕ, ◌+◌, true, zero, suc, cond, List, [], Some, None}
use Rattle.plir_store.specs.Lists.{Lists, with_child, with_list, with_last}
use Rattle.plir_store.specs.Table.{Table, IsTable, content_at, num_full, is_nil, next_slot, with_new}
use Rattle.plir_core.specs.declared.ptr.Ptr.{Ptr}
use Rattle.plir_core.specs.declared.ptr.Operation.{Operation as OperationKind}
use Rattle.plir_core.specs.declared.ptr.BasicBlock.{BasicBlock as BasicBlockKind}
use Rattle.plir_core.specs.declared.ptr.IRNode.{IRNode}
use Rattle.plir_core.specs.declared.ptr.IRNode.TheVariants.{Operation, BasicBlock}
use Rattle.plir_core.specs.Nodes.{Nodes, is_node_live, node_children, node_parent}

-- one more child, if the next value needs a new slot; one more parent likewise
abbrev pub room_child : Lists → List ℕ → Lists
room_child l free = cond (is_nil free) (with_child l) l

abbrev pub room_list : Lists → List ℕ → Lists
room_list l free = cond (is_nil free) (with_list l) l

-- the table t has become t', with one more value
pub record IsFilled {C : Type 0} (t t' : Table C) (v : C) : Type 0 where
  pub is : t' ≡ with_new t v
  pub vacant : content_at t (next_slot t) ≡ None
  pub here : content_at t' (next_slot t) ≡ Some v
  pub count : num_full t' ≡ num_full t + 1
  pub sound : IsTable t'

module _ {O B : Type 0} where
  -- no nodes, and room for n
  abbrev pub empty : ℕ → Nodes O B
  empty n = record {
    ops = record { slots = []; free = [] };
    regions = record { slots = []; free = [] };
    blocks = record { slots = []; free = [] };
    regions_in_op = record { children = []; parents = [] };
    blocks_in_region = record { children = []; parents = [] };
    ops_in_block = record { children = []; parents = [] };
    limit = n;
  }

  -- a new operation, in no block and with no region
  abbrev pub with_new_op : Nodes O B → O → Nodes O B
  with_new_op s v = record s {
    ops = with_new s.ops v;
    ops_in_block = room_child s.ops_in_block s.ops.free;
    regions_in_op = room_list s.regions_in_op s.ops.free;
  }

  -- a new block, in no region and with no operation
  abbrev pub with_new_block : Nodes O B → B → Nodes O B
  with_new_block s v = record s {
    blocks = with_new s.blocks v;
    blocks_in_region = room_child s.blocks_in_region s.blocks.free;
    ops_in_block = room_list s.ops_in_block s.blocks.free;
  }

  -- a new region with no block, the last one of the operation in the slot o
  abbrev pub with_new_region : Nodes O B → ℕ → Nodes O B
  with_new_region s o = record s {
    regions = with_new s.regions (record {});
    regions_in_op = with_last (room_child s.regions_in_op s.regions.free) o (next_slot s.regions);
    blocks_in_region = room_list s.blocks_in_region s.regions.free;
  }

  -- n new regions, the last ones of the operation in the slot o
  abbrev pub with_new_regions : Nodes O B → ℕ → ℕ → Nodes O B
  with_new_regions s o zero = s
  with_new_regions s o (suc n) = with_new_region (with_new_regions s o n) o

  -- The same nodes are live, with the same children, parents and contents.
  pub record SameNodes (before now : Nodes O B) : Type 0 where
    pub live : (n : IRNode) → is_node_live now n ≡ is_node_live before n
    pub children : (n : IRNode) → node_children now n ≡ node_children before n
    pub parents : (n : IRNode) → node_parent now n ≡ node_parent before n
    pub ops : (p : Ptr OperationKind) → is_node_live before (Operation p) ≡ true →
        content_at now.ops p.slot ≡ content_at before.ops p.slot
    pub blocks : (p : Ptr BasicBlockKind) → is_node_live before (BasicBlock p) ≡ true →
        content_at now.blocks p.slot ≡ content_at before.blocks p.slot
    pub limit : now.limit ≡ before.limit
