-- Operations of all kinds as they are read, with the first fault that is met.
use Rattle.std.specs.Prelude.{◌≡◌, ℕ, zero, suc, List, [], length, Bool, is_some, Option, Result, Ok, Err}
use Rattle.std.specs.Prelude.{if◌then◌else◌}
use Rattle.plir_attr_text.specs.Lists.{past_sign, sign_at, more_at, unless_closed}
use Rattle.plir_attr_text.specs.Reading.{Ends}
use Rattle.plir_attr_text.specs.Steps.{◌>>=◌, read_as}
use Rattle.plir_attr_text.specs.TypeReading.{word_at}
use Rattle.plir_attr_text.specs.Wholes.{whole}
use Rattle.plir_attr_text.specs.declared.fault.Fault.{Fault}
use Rattle.plir_attr_text.specs.declared.fault.Fault.TheVariants.{TooDeep, ForwardRefOpExistenceErr}
use Rattle.plir_attr_text.specs.declared.fault.Stop.{Stop}
use Rattle.plir_read.specs.OpReading.{ends_block, semicolon_at, brace_at, block_head_at, header_at, named}
use Rattle.plir_read.specs.OpReading.{named_constant_at, first_name}
use Rattle.plir_read.specs.OpTerms.{BlockHead}
use Rattle.plir_read.specs.declared.heads.BodyKind.{BodyKind}
use Rattle.plir_read.specs.declared.heads.HeadKind.TheVariants.{Bodied, Constant, ForwardRef}
use Rattle.plir_read_ir.specs.IrReading.{header_with, ir_opening_at, parts_at}
use Rattle.plir_read_ir.specs.IrTerms.{bodied_front, constant_front, own_front, IrOp, ir_op, no_regions, region_before}
use Rattle.plir_read_ir.specs.IrTerms.{blocks_of, regions_of}
use Rattle.plir_read_ir.specs.declared.openings.IrKind.{IrKind}
use Rattle.plir_read_ir.specs.declared.openings.IrKind.TheVariants.{Builtin, Own}

-- whether a region begins here: a brace comes next
unfoldable pub opens_region : List ℕ → Bool
opens_region bytes = is_some (past_sign 123 bytes)

-- what stands behind a region: one more, or what stands behind the regions
unfoldable pub another_at : List ℕ → Result (Bool × List ℕ) Fault
another_at bytes = Ok (opens_region bytes, bytes)

module _ {X : Type 0} (read : List ℕ → Result (X × List ℕ) Fault) where
  -- the operations of a block
  unfoldable pub ops_at : List ℕ → Result (List X × List ℕ) Fault
  ops_at bytes = if ends_block bytes then Ok ([], bytes) else more_at semicolon_at read (suc (length bytes)) bytes

  -- a block, with at most n levels in it
  unfoldable pub block_at : (n : ℕ) → List ℕ → Result ((BlockHead × List X) × List ℕ) Fault
  block_at n bytes = block_head_at n bytes >>= λ w. ops_at w.1 >>= λ os. Ok ((w.0, os.0), os.1)

  -- a region: blocks in braces, with at most n levels in it
  unfoldable pub region_at : (n : ℕ) → List ℕ → Result (List (BlockHead × List X) × List ℕ) Fault
  region_at n bytes = sign_at 123 bytes >>= λ start. unless_closed (past_sign 125 start)
      (more_at brace_at (block_at n) (suc (length start)) start)

  -- regions, one behind another, with at most n levels in them
  unfoldable pub regions_at : (n : ℕ) → List ℕ → Result (List (List (BlockHead × List X)) × List ℕ) Fault
  regions_at n bytes = if opens_region bytes then more_at another_at (region_at n) (suc (length bytes)) bytes
      else Ok ([], bytes)

module _ {K : Type 0} (read : List ℕ → Result (IrOp K × List ℕ) Fault) (n : ℕ) where
  -- a module or a function behind its id, where so many names stand before that: it has no result
  unfoldable pub bodied_at : BodyKind → (names : ℕ) → List ℕ → Result (IrOp K × List ℕ) Fault
  bodied_at k names bytes = named 0 names >>= λ u. header_at n k bytes >>= λ h. region_at read n h.1 >>=
      λ bs. Ok (ir_op (bodied_front h.0) (region_before (blocks_of bs.0) no_regions), bs.1)

  -- an own operation behind its id, with the names before that
  unfoldable pub own_at : (names : List (List ℕ)) → K → List ℕ → Result (IrOp K × List ℕ) Fault
  own_at ws k bytes = parts_at n (length ws) bytes >>= λ p. regions_at read n p.1 >>=
      λ rs. Ok (ir_op (own_front (header_with ws k p.0)) (regions_of rs.0), rs.1)

  -- An operation behind its id, with the names before that, and with at most n levels in it. A forward reference stands
  -- in no text.
  abbrev pub behind_id : (names : List (List ℕ)) → IrKind K → List ℕ → Result (IrOp K × List ℕ) Fault
  behind_id ws (Builtin (Bodied k)) bytes = bodied_at k (length ws) bytes
  behind_id ws (Builtin Constant) bytes = read_as (λ c. ir_op (constant_front (first_name ws) c.0 c.1) no_regions)
      (named_constant_at n (length ws) bytes)
  behind_id ws (Builtin ForwardRef) bytes = Err ForwardRefOpExistenceErr
  behind_id ws (Own k) bytes = own_at ws k bytes

module _ {K : Type 0} (find : List ℕ → Option K) where
  -- an operation, with at most n levels open: a word that comes where no level is left begins one that is too deep
  unfoldable pub ir_op_at : (n : ℕ) → List ℕ → Result (IrOp K × List ℕ) Fault
  ir_op_at zero bytes = word_at bytes >>= λ w. Err TooDeep
  ir_op_at (suc n) bytes = ir_opening_at find bytes >>= λ s. behind_id (ir_op_at n) n s.0.0 s.0.1 s.1

  -- With at most n levels open the text meets this fault: what has to stand there is looked for from left to right, as
  -- the grammar has it, and this is the first that is wrong. A level that is one too many comes before what is in it,
  -- and a number of names before what stands behind the id of a builtin operation; the numbers of an own operation are
  -- looked at where its types end.
  abbrev pub MeetsIr : (n : ℕ) → (text : List ℕ) → Fault → Type 0
  MeetsIr n text f = whole (ir_op_at n) text ≡ Err f

-- something was read, and this stands behind it; or the fault is met with which reading stopped, unless memory or room
-- for a node was wanting
abbrev pub ReadsUpTo : {X Y : Type 0} → (behind : X → List ℕ) → Result X Stop → Result (Y × List ℕ) Fault → Type 0
ReadsUpTo behind (Ok x) read = (y : _) × (read ≡ Ok (y, behind x))
ReadsUpTo behind (Err stop) read = Ends (Unit {0}) stop read
