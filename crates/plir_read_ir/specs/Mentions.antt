-- Who bears a name in the tree of an operation, and which names are used in it.
use Rattle.std.specs.Option.{option_eq}
use Rattle.std.specs.Prelude.{ℕ, suc, List, [], ◌∷◌, ◌++◌, ◌&&◌, Bool, if◌then◌else◌, Option, Some, None}
use Rattle.std.specs.Str.{bytes_eq}
use Rattle.plir_names.specs.Meanings.{meaning}
use Rattle.plir_names.specs.declared.names.Meaning.{Meaning}
use Rattle.plir_core.specs.ContextView.{ContextView, children}
use Rattle.plir_core.specs.Results.{result_of}
use Rattle.plir_core.specs.SameValue.{same_ptr}
use Rattle.plir_core.specs.declared.ptr.Ptr.{Ptr}
use Rattle.plir_core.specs.declared.ptr.Operation.{Operation as OperationKind}
use Rattle.plir_core.specs.declared.ptr.Region.{Region as RegionKind}
use Rattle.plir_core.specs.declared.ptr.BasicBlock.{BasicBlock as BlockKind}
use Rattle.plir_core.specs.declared.ptr.IRNode.{IRNode}
use Rattle.plir_core.specs.declared.ptr.IRNode.TheVariants.{Operation, Region, BasicBlock}
use Rattle.plir_core.specs.declared.value.Value.{Value}
use Rattle.plir_core.specs.declared.value.DefiningEntity.TheVariants.{Block}
use Rattle.plir_attr_text.specs.Terms.{TypeTerm, TypeTerms, no_types, type_before}
use Rattle.plir_read.specs.OpTerms.{BlockHead}
use Rattle.plir_read_own.specs.OwnTerms.{Signature, Uses}
use Rattle.plir_read_ir.specs.IrMeaning.{argument_words}
use Rattle.plir_read_ir.specs.IrTerms.{Front, bodied_front, constant_front, own_front, IrOp, ir_op}
use Rattle.plir_read_ir.specs.IrTerms.{IrRegions, no_regions, region_before, IrBlocks, no_blocks, block_before, IrOps}
use Rattle.plir_read_ir.specs.IrTerms.{no_ops, op_before}

-- A word in a scope: a name in the body of an operation, and a label in a region; in none, outside all of them.
abbrev pub WordIn : (X : Type 0) → Type 0
WordIn X = Option (Ptr X) × List ℕ

-- whether two are the same word in the same scope
abbrev pub same_word : {X : Type 0} → (a b : WordIn X) → Bool
same_word a b = option_eq same_ptr a.0 b.0 && bytes_eq a.1 b.1

-- Where an operation stands: in the body of this operation, in which its names are looked up, and in this region, in
-- which its labels are.
pub record Scope : Type 0 where
  pub body : Option (Ptr OperationKind)
  pub region : Option (Ptr RegionKind)

-- the scope of what stands in nothing
abbrev pub nowhere : Scope
nowhere = record { body = None; region = None }

-- What a text says of a name: a value bears it; a block bears it, as its label; an operand is named so, with the type
-- that is written for it; a successor is.
pub data Mention : Type 0 where
  value_bears : WordIn OperationKind → Value → Mention
  block_bears : WordIn RegionKind → Ptr BlockKind → Mention
  operand_named : WordIn OperationKind → TypeTerm → Mention
  successor_named : WordIn RegionKind → Mention

-- the argument of a block at a place, from 0
abbrev pub argument_of : Ptr BlockKind → ℕ → Value
argument_of b i = record { entity = Block b; index = i }

-- values bear these words in a body, by their places from i on
abbrev pub values_bear : Option (Ptr OperationKind) → (value : ℕ → Value) → (i : ℕ) → List (List ℕ) → List Mention
values_bear body value i [] = []
values_bear body value i (w ∷ ws) = value_bears (body, w) (value i) ∷ values_bear body value (suc i) ws

-- the results of a node bear them, and its arguments
abbrev pub results_bear : Option (Ptr OperationKind) → IRNode → List (List ℕ) → List Mention
results_bear body (Operation p) ws = values_bear body (result_of p) 0 ws
results_bear body (Region p) ws = []
results_bear body (BasicBlock p) ws = []

abbrev pub arguments_bear : Option (Ptr OperationKind) → IRNode → List (List ℕ) → List Mention
arguments_bear body (Operation p) ws = []
arguments_bear body (Region p) ws = []
arguments_bear body (BasicBlock p) ws = values_bear body (argument_of p) 0 ws

-- the node bears the label in a region
abbrev pub label_bears : Option (Ptr RegionKind) → IRNode → List ℕ → List Mention
label_bears region (Operation p) w = []
label_bears region (Region p) w = []
label_bears region (BasicBlock p) w = block_bears (region, w) p ∷ []

-- operands of these names and types, and successors of these labels
abbrev pub operands_named : Option (Ptr OperationKind) → List (List ℕ) → TypeTerms → List Mention
operands_named body [] ts = []
operands_named body (w ∷ ws) no_types = []
operands_named body (w ∷ ws) (type_before t ts) = operand_named (body, w) t ∷ operands_named body ws ts

abbrev pub successors_named : Option (Ptr RegionKind) → List (List ℕ) → List Mention
successors_named region [] = []
successors_named region (w ∷ ws) = successor_named (region, w) ∷ successors_named region ws

-- what an operation in a scope uses
abbrev pub uses_named : Scope → Uses → Signature → List Mention
uses_named at u t = operands_named at.body u.operands t.operand_types ++ successors_named at.region u.successors

-- a node as an operation, and as a region
abbrev pub op_of : IRNode → Option (Ptr OperationKind)
op_of (Operation p) = Some p
op_of (Region p) = None
op_of (BasicBlock p) = None

abbrev pub region_of : IRNode → Option (Ptr RegionKind)
region_of (Operation p) = None
region_of (Region p) = Some p
region_of (BasicBlock p) = None

-- `isolated` says of a kind whether names in its regions mean nothing that stands outside
module _ {K : Type 0} (isolated : K → Bool) where
  -- The body that the regions of the operation at n stand in: that of the operation itself, where it is a module, a
  -- function or of an isolated kind, else the one that the operation stands in.
  abbrev pub body_in : (around : Option (Ptr OperationKind)) → (n : IRNode) → Front K → Option (Ptr OperationKind)
  body_in around n (bodied_front h) = op_of n
  body_in around n (constant_front w a t) = around
  body_in around n (own_front h) = if isolated h.kind then op_of n else around

  -- what stands before the regions, and the head of a block
  abbrev pub front_mentions : Scope → IRNode → Front K → List Mention
  front_mentions at n (bodied_front h) = []
  front_mentions at n (constant_front w a t) = results_bear at.body n (w ∷ [])
  front_mentions at n (own_front h) = results_bear at.body n h.names ++ uses_named at h.uses h.signature

  abbrev pub head_mentions : Scope → IRNode → BlockHead → List Mention
  head_mentions at n b = label_bears at.region n b.0 ++ arguments_bear at.body n (argument_words b.1)

  -- What the written operation says at the node n, in the order of the text: each part at its node, where the nodes
  -- below stand as the parts are written.
  module _ {A T : Type 0} (s : ContextView K A T) where
    abbrev mutual
      pub op_mentions : Scope → IRNode → IrOp K → List Mention
      op_mentions at n (ir_op f rs) = front_mentions at n f ++
          regions_mentions (body_in at.body n f) (children s n) rs

      pub regions_mentions : Option (Ptr OperationKind) → List IRNode → IrRegions K → List Mention
      regions_mentions body ns no_regions = []
      regions_mentions body [] (region_before bs rs) = []
      regions_mentions body (n ∷ ns) (region_before bs rs) =
          blocks_mentions (record { body = body; region = region_of n }) (children s n) bs ++
          regions_mentions body ns rs

      pub blocks_mentions : Scope → List IRNode → IrBlocks K → List Mention
      blocks_mentions at ns no_blocks = []
      blocks_mentions at [] (block_before b os bs) = []
      blocks_mentions at (n ∷ ns) (block_before b os bs) = head_mentions at n b ++
          (ops_mentions at (children s n) os ++ blocks_mentions at ns bs)

      pub ops_mentions : Scope → List IRNode → IrOps K → List Mention
      ops_mentions at ns no_ops = []
      ops_mentions at [] (op_before o os) = []
      ops_mentions at (n ∷ ns) (op_before o os) = op_mentions at n o ++ ops_mentions at ns os

-- the values that bear names, and the blocks that bear labels, each with its word
abbrev pub values_in : List Mention → List (WordIn OperationKind × Value)
values_in [] = []
values_in (value_bears w v ∷ ms) = (w, v) ∷ values_in ms
values_in (block_bears l b ∷ ms) = values_in ms
values_in (operand_named w t ∷ ms) = values_in ms
values_in (successor_named l ∷ ms) = values_in ms

abbrev pub labels_in : List Mention → List (WordIn RegionKind × Ptr BlockKind)
labels_in [] = []
labels_in (value_bears w v ∷ ms) = labels_in ms
labels_in (block_bears l b ∷ ms) = (l, b) ∷ labels_in ms
labels_in (operand_named w t ∷ ms) = labels_in ms
labels_in (successor_named l ∷ ms) = labels_in ms

-- the names that are used
abbrev pub uses_in : List Mention → List Mention
uses_in [] = []
uses_in (value_bears w v ∷ ms) = uses_in ms
uses_in (block_bears l b ∷ ms) = uses_in ms
uses_in (operand_named w t ∷ ms) = operand_named w t ∷ uses_in ms
uses_in (successor_named l ∷ ms) = successor_named l ∷ uses_in ms

-- What a name means: the value that alone bears it in the body, be it before the use or behind it; and a label: the
-- block that alone bears it in the region.
abbrev pub value_meant : List Mention → WordIn OperationKind → Meaning Value
value_meant ms w = meaning same_word (values_in ms) w

abbrev pub block_meant : List Mention → WordIn RegionKind → Meaning (Ptr BlockKind)
block_meant ms l = meaning same_word (labels_in ms) l
