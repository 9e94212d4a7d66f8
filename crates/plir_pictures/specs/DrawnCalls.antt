-- The text of a call graph, in DOT.
use Rattle.std.specs.Prelude.{◌≡◌, ◌&&◌, ◌||◌, ℕ, nat_lt, Bool, not, cond, List, [], ◌++◌, length, codes}
use Rattle.std.specs.Prelude.{Option, Some, None}
use Rattle.std.specs.List.{flat_map, list_any}
use Rattle.plir_data.specs.declared.op_set.OpSet as op_set
use Rattle.plir_core.specs.declared.ptr.Ptr.{Ptr}
use Rattle.plir_core.specs.declared.ptr.Operation.{Operation as OperationKind}
use Rattle.plir_core.specs.declared.ptr.IRNode.{IRNode}
use Rattle.plir_core.specs.declared.ptr.IRNode.TheVariants.{Operation, Region, BasicBlock}
use Rattle.plir_core.specs.Contents.{OpView}
use Rattle.plir_core.specs.ContextView.{ContextView, kind_of, op_at}
use Rattle.plir_core.specs.Texts.{node_text}
use Rattle.plir_builtin.specs.Symbols.{is_symbol_kind, is_table_kind}
use Rattle.plir_symbols.specs.declared.call_edges.CallEdge.{CallEdge}
use Rattle.plir_symbols.specs.SymbolNames.{names_in}
use Rattle.plir_symbols.specs.CallGraph.{IsCallGraph, is_found}
use Rattle.plir_pictures.specs.Labels.{label_text}
use Rattle.plir_pictures.specs.Nested.{nested}
use Rattle.plir_pictures.specs.NodeNames.{op_name}

-- where an arrow ends: at a symbol, or at `nothing`
abbrev pub arrow_end : Option (Ptr OperationKind) → List ℕ
arrow_end None = codes "nothing"
arrow_end (Some p) = node_text (Operation p)

-- the line of an arrow: from the operation that uses a name to the symbol that bears it
abbrev pub arrow : CallEdge → List ℕ
arrow e = codes "  " ++ (node_text (Operation e.user) ++ (codes " -> " ++ (arrow_end e.symbol ++ codes ";\n")))

-- whether one of the arrows ends at an operation
abbrev pub is_end : List CallEdge → Ptr OperationKind → Bool
is_end es p = list_any (λ e. is_found p e.symbol) es

module _ {K A T : Type 0} (own : K → List ℕ) (s : ContextView K A T) where
  -- an operation's name, as a label
  abbrev pub name_label : Ptr OperationKind → List ℕ
  name_label p = codes "label=<" ++ (label_text (op_name own s p) ++ codes ">")

  -- the line of a box, in which the operation's name stands
  abbrev pub call_box : Ptr OperationKind → List ℕ
  call_box p = codes "  " ++ (node_text (Operation p) ++ (codes " [" ++ (name_label p ++ codes "];\n")))

  -- what opens the cluster of a symbol table, which is labelled with its name
  abbrev pub table_front : Ptr OperationKind → List ℕ
  table_front p = codes "  subgraph cluster_" ++ (node_text (Operation p) ++ (codes " {\n  " ++
      (name_label p ++ codes ";\n")))

module _ {K A T : Type 0} (own_table : K → Bool) (s : ContextView K A T) where
  -- whether an operation is a symbol table; `own_table` answers for the user's own kinds
  abbrev pub is_table : Ptr OperationKind → Bool
  is_table p = is_table_kind own_table (kind_of s p)

  -- what is drawn of a node behind what stands in it: the cluster of a symbol table is closed
  abbrev pub call_end : IRNode → List ℕ
  call_end (Operation p) = cond (is_table p) (codes "  }\n") []
  call_end (Region r) = []
  call_end (BasicBlock b) = []

module _ {D K A T E : Type 0} (o : op_set.Ghosts D K A T E) (names : OpView K A → List (List ℕ))
    (s : ContextView K A T) where
  -- an operation has a box: it uses a name, or is a symbol and no symbol table, or an arrow ends at it
  abbrev pub has_box : (ends : Ptr OperationKind → Bool) → Ptr OperationKind → Bool
  has_box ends p = nat_lt 0 (length (names_in names (op_at s p))) ||
      ((is_symbol_kind o.is_symbol (kind_of s p) && not (is_table o.is_symbol_table s p)) || ends p)

  -- what is drawn of a node in front of what stands in it: a symbol table opens a cluster, and an operation is a box,
  -- if it has one
  abbrev pub call_front : (ends : Ptr OperationKind → Bool) → IRNode → List ℕ
  call_front ends (Operation p) = cond (is_table o.is_symbol_table s p) (table_front o.kind_id s p) [] ++
      cond (has_box ends p) (call_box o.kind_id s p) []
  call_front ends (Region r) = []
  call_front ends (BasicBlock b) = []

  module _ (root : Ptr OperationKind) where
    -- the clusters of the symbol tables at and below the root, nested as these are, with the boxes of what stands there
    abbrev pub call_clusters : (ends : Ptr OperationKind → Bool) → List ℕ
    call_clusters ends = nested s (call_front ends) (call_end o.is_symbol_table s) (Operation root)

    -- A text draws the call graph of the tree under the root: the clusters with the boxes, and an arrow for each edge
    -- of the call graph, in their order.
    pub record IsDrawn (t : List ℕ) : Type 0 where
      pub edges : List CallEdge
      pub are_edges : IsCallGraph o.is_symbol o.is_symbol_table names s root edges
      pub is_text : t ≡ codes "digraph calls {\n  node [shape=box];\n" ++
          (call_clusters (is_end edges) ++ (flat_map arrow edges ++ codes "}\n"))
