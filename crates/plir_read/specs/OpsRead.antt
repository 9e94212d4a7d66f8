-- What the reader's own functions answer, by the operations and blocks that are read.
use Rattle.std.specs.Borrow.{Bor}
use Rattle.std.specs.Prelude.{◌≡◌, ℕ, List, Option, Result, Ok, IfOk, length}
use Rattle.plir_core.specs.declared.ptr.Ptr.{Ptr}
use Rattle.plir_core.specs.declared.ptr.Operation.{Operation as OperationKind}
use Rattle.plir_core.specs.declared.ptr.Region.{Region as RegionKind}
use Rattle.plir_core.specs.declared.ptr.BasicBlock.{BasicBlock as BlockKind}
use Rattle.plir_core.specs.declared.ptr.IRNode.TheVariants.{Operation, BasicBlock}
use Rattle.plir_core.specs.ContextView.{ContextView}
use Rattle.plir_core.specs.Nodes.{Nodes}
use Rattle.plir_core.specs.Room.{NodeCount, one_op, IsFullFor, HaveCome}
use Rattle.plir_data.specs.Types.{TypeView}
use Rattle.plir_attr_text.specs.Names.{AreNamed}
use Rattle.plir_attr_text.specs.Terms.{TypeTerm}
use Rattle.plir_attr_text.specs.Wholes.{whole}
use Rattle.plir_attr_text.specs.declared.fault.Fault.{Fault}
use Rattle.plir_attr_text.specs.declared.fault.Stop.{Stop}
use Rattle.plir_read.specs.OpGrammar.{OpWithin, OpsWithin, BlockWithin, BodyWithin}
use Rattle.plir_read.specs.OpReading.{op_at, ops_at, block_at, blocks_at, bodied_at, header_at, named_constant_at}
use Rattle.plir_read.specs.OpTerms.{Header, OpTerm, op_term, BlockTerm, ops_of, blocks_of}
use Rattle.plir_read.specs.OpsStanding.{IsOpAt, IsBlockAt, IsConstantAt, HasOps, HasBlocks}
use Rattle.plir_read.specs.Room.{op_count, block_count, ops_count, blocks_count}
use Rattle.plir_read.specs.Room.{IsBegun}
use Rattle.plir_read.specs.Room.{HasNoRoom, LacksRoom}
use Rattle.plir_read.specs.Stopping.{ReadsOn, ReadsOnFirst, ReadsOnPast}
use Rattle.plir_read.specs.declared.heads.BodyKind.{BodyKind}

-- the nodes of several operations and blocks
abbrev pub list_count : List OpTerm → NodeCount
list_count os = ops_count (ops_of os)

abbrev pub body_count : List BlockTerm → NodeCount
body_count bs = blocks_count (blocks_of bs)

-- Behind the id of a module or a function comes its header, and there is no room in s for the operation with the blocks
-- that begin behind that.
pub record BodyBeginsTooMany {O B : Type 0} (s : Nodes O B) (n : ℕ) (k : BodyKind) (names : ℕ) (bytes : List ℕ) :
    Type 0 where
  pub none : 0 ≡ names
  pub header : Header
  pub behind : List ℕ
  pub is : header_at n k bytes ≡ Ok (header, behind)
  pub part : List BlockTerm
  pub begun : IsBegun (BodyWithin n) behind part
  pub full : IsFullFor s (op_count (op_term header (blocks_of part)))

-- From s to t an operation or a block was read, with at most n levels open, and stands in t at the pointer that is
-- answered, and its nodes are all that have come; or what is written has no room in s.
module _ {K A T : Type 0} (s t : ContextView K A T) (n : ℕ) where
  abbrev pub ReadsOp : (bytes : List ℕ) → Result (Ptr OperationKind × Bor (List ℕ)) Stop → Type 0
  ReadsOp bytes result = ReadsOnFirst (LacksRoom op_count (OpWithin n) s.nodes bytes (op_at n bytes))
      (λ p w. IsOpAt t (Operation p) w × HaveCome s.nodes t.nodes (op_count w)) result (op_at n bytes)

  -- a module or a function behind its id
  abbrev pub ReadsBodied : BodyKind → (names : ℕ) → (bytes : List ℕ) →
      Result (Ptr OperationKind × Bor (List ℕ)) Stop → Type 0
  ReadsBodied k names bytes result = ReadsOnFirst (BodyBeginsTooMany s.nodes n k names bytes ×
      HasNoRoom op_count s.nodes (bodied_at (op_at n) n k names bytes))
      (λ p w. IsOpAt t (Operation p) w × HaveCome s.nodes t.nodes (op_count w)) result
      (bodied_at (op_at n) n k names bytes)

  -- a constant behind its id, with these names before that
  abbrev pub ReadsConstant : (names : List (Option (List ℕ))) → (bytes : List ℕ) →
      Result (Ptr OperationKind × Bor (List ℕ)) Stop → Type 0
  ReadsConstant names bytes result = ReadsOnFirst ((c : _) × (named_constant_at n (length names) bytes ≡ Ok c) ×
      IsFullFor s.nodes one_op)
      (λ p c. IsConstantAt t (Operation p) names c × HaveCome s.nodes t.nodes one_op) result
      (named_constant_at n (length names) bytes)

  abbrev pub ReadsBlock : (bytes : List ℕ) → Result (Ptr BlockKind × Bor (List ℕ)) Stop → Type 0
  ReadsBlock bytes result = ReadsOnFirst (LacksRoom block_count (BlockWithin n) s.nodes bytes
      (block_at (op_at n) n bytes)) (λ p b. IsBlockAt t (BasicBlock p) b × HaveCome s.nodes t.nodes (block_count b))
      result (block_at (op_at n) n bytes)

  -- the operations of a block, and the blocks of a region
  abbrev pub ReadsOps : Ptr BlockKind → (bytes : List ℕ) → Result (Bor (List ℕ)) Stop → Type 0
  ReadsOps block bytes result = ReadsOnPast (LacksRoom list_count (OpsWithin n) s.nodes bytes (ops_at (op_at n) bytes))
      (λ os. HasOps t block os × HaveCome s.nodes t.nodes (list_count os)) result (ops_at (op_at n) bytes)

  abbrev pub ReadsBody : Ptr RegionKind → (bytes : List ℕ) → Result (Bor (List ℕ)) Stop → Type 0
  ReadsBody region bytes result = ReadsOnPast (LacksRoom body_count (BodyWithin n) s.nodes bytes
      (blocks_at (op_at n) n bytes)) (λ bs. HasBlocks t region bs × HaveCome s.nodes t.nodes (body_count bs)) result
      (blocks_at (op_at n) n bytes)

  -- an operation that the whole text stands for
  abbrev pub ReadsWhole : (bytes : List ℕ) → Result (Ptr OperationKind) Stop → Type 0
  ReadsWhole bytes result = ReadsOn (LacksRoom op_count (OpWithin n) s.nodes bytes (op_at n bytes))
      (λ p w. IsOpAt t (Operation p) w × HaveCome s.nodes t.nodes (op_count w)) result (whole (op_at n) bytes)

-- If it was read, each type that has come is held by what was read; `held` says which types that holds.
abbrev pub HoldsNew : {X Y T : Type 0} (held : TypeTerm → Y → Type 0) → Result X Stop → Result (Y × List ℕ) Fault →
    (old new : List (TypeView T)) → Type 0
HoldsNew held result read old new = IfOk result (λ x. (y : _) → read ≡ Ok y → AreNamed (λ t. held t y.0) old new)
