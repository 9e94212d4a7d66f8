-- The names of nodes, as lists and graphs write them.
use Rattle.std.specs.Prelude.{List, [], ◌++◌, ℕ, codes, Option, Some, None}
use Rattle.plir_data.specs.declared.op_set.OpKind.{OpKind}
use Rattle.plir_core.specs.declared.ptr.Ptr.{Ptr}
use Rattle.plir_core.specs.declared.ptr.Operation.{Operation as OperationKind}
use Rattle.plir_core.specs.declared.ptr.IRNode.{IRNode}
use Rattle.plir_core.specs.declared.ptr.IRNode.TheVariants.{Operation, Region, BasicBlock}
use Rattle.plir_core.specs.ContextView.{ContextView, kind_of, op_at}
use Rattle.plir_core.specs.Texts.{node_text}
use Rattle.plir_iface.specs.Ids.{op_id}
use Rattle.plir_builtin.specs.Symbols.{name_held}

-- a space, `@` and a symbol's name, where there is one
abbrev pub name_behind : Option (List ℕ) → List ℕ
name_behind None = []
name_behind (Some x) = codes " @" ++ x

-- `own` gives the ids of the user's own kinds.
module _ {K : Type 0} (own : K → List ℕ) where
  -- the id of a kind of operations, where there is one
  abbrev pub id_of : Option (OpKind K) → List ℕ
  id_of None = []
  id_of (Some k) = op_id own k

  module _ {A T : Type 0} (s : ContextView K A T) where
    -- what stands behind the pointer of an operation: its id, and its name as a symbol, if it has one
    abbrev pub op_words : Ptr OperationKind → List ℕ
    op_words p = codes " " ++ (id_of (kind_of s p) ++ name_behind (name_held (op_at s p)))

    -- the name of an operation, as `op1v1 builtin.module @main`
    abbrev pub op_name : Ptr OperationKind → List ℕ
    op_name p = node_text (Operation p) ++ op_words p

    -- the name of a node: a region or a block has its pointer alone
    abbrev pub node_name : IRNode → List ℕ
    node_name (Operation p) = op_name p
    node_name (Region r) = node_text (Region r)
    node_name (BasicBlock b) = node_text (BasicBlock b)
