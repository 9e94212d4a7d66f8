-- The boxes of a graph, with operations in rows.
use Rattle.std.specs.Prelude.{ℕ, Bool, ◌&&◌, not, cond, is_some, List, [], ◌++◌, codes}
use Rattle.std.specs.List.{flat_map}
use Rattle.plir_data.specs.declared.op_set.OpSet as op_set
use Rattle.plir_core.specs.declared.ptr.Ptr.{Ptr}
use Rattle.plir_core.specs.declared.ptr.Operation.{Operation as OperationKind}
use Rattle.plir_core.specs.declared.ptr.BasicBlock.{BasicBlock as BasicBlockKind}
use Rattle.plir_core.specs.declared.ptr.IRNode.{IRNode}
use Rattle.plir_core.specs.declared.ptr.IRNode.TheVariants.{Operation, Region, BasicBlock}
use Rattle.plir_core.specs.ContextView.{ContextView, children}
use Rattle.plir_core.specs.Texts.{node_text}
use Rattle.plir_store.specs.Members.{head}
use Rattle.plir_print.specs.HeaderAttrs.{has_header}
use Rattle.plir_print.specs.OpText.{block_front, op_text}
use Rattle.plir_pictures.specs.Labels.{label_text}
use Rattle.plir_pictures.specs.NodeNames.{op_name}
use Rattle.plir_pictures.specs.Seats.{home}

-- what opens the box of a node, and what closes it
abbrev pub box_front : IRNode → List ℕ
box_front n = codes "  " ++ (node_text n ++
    codes " [label=<<table border=\"0\" cellborder=\"1\" cellspacing=\"0\">\n")

abbrev pub box_end : List ℕ
box_end = codes "  </table>>];\n"

-- whether an operation has no regions, and the attributes that its text shows
abbrev pub shows_text : {K A T : Type 0} → ContextView K A T → Ptr OperationKind → Bool
shows_text s p = not (is_some (head (children s (Operation p)))) && has_header s p

module _ {D K A T E : Type 0} (o : op_set.Ghosts D K A T E) (s : ContextView K A T) where
  -- what the row of an operation shows: its text, or its name, if it has regions
  abbrev pub row_words : Ptr OperationKind → List ℕ
  row_words p = cond (shows_text s p) (op_text o s p) (op_name o.kind_id s p)

  -- the row of an operation; its port has the name of the operation's pointer
  abbrev pub row : Ptr OperationKind → List ℕ
  row p = codes "    <tr><td port=\"" ++ (node_text (Operation p) ++ (codes "\" align=\"left\" balign=\"left\">" ++
      (label_text (row_words p) ++ codes "</td></tr>\n")))

  -- the row of a node of a block, which is an operation
  abbrev pub row_at : IRNode → List ℕ
  row_at (Operation p) = row p
  row_at (Region r) = []
  row_at (BasicBlock b) = []

  -- the rows of the operations of a block, in their order
  abbrev pub rows : Ptr BasicBlockKind → List ℕ
  rows b = flat_map row_at (children s (BasicBlock b))

  -- the head of a block's box, at the port `top`: its name and its arguments, as its text has them
  abbrev pub title : Ptr BasicBlockKind → List ℕ
  title b = codes "    <tr><td port=\"top\" align=\"left\" bgcolor=\"gray90\">" ++
      (label_text (block_front o s b) ++ codes "</td></tr>\n")

  -- the box of a block: its head, and a row for each of its operations
  abbrev pub block_box : Ptr BasicBlockKind → List ℕ
  block_box b = box_front (BasicBlock b) ++ (title b ++ (rows b ++ box_end))

  -- the box of an operation alone: where it stands in a block, the box of that, with this one row
  abbrev pub op_box : Ptr OperationKind → List ℕ
  op_box p = box_front (home s (Operation p)) ++ (row p ++ box_end)
