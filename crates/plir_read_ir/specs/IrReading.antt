-- The parts of texts with own operations as they are read.
use Rattle.std.specs.Prelude.{ℕ, List, length, Option, Result, Ok, Err}
use Rattle.plir_attr_text.specs.Steps.{◌>>=◌, read_as}
use Rattle.plir_attr_text.specs.Terms.{EntryTerms}
use Rattle.plir_attr_text.specs.declared.fault.Fault.{Fault}
use Rattle.plir_read.specs.OpReading.{op_id}
use Rattle.plir_read.specs.declared.heads.HeadKind.{HeadKind}
use Rattle.plir_read_own.specs.OwnReading.{as_many_names, as_many_types, kind_at, names_before, typed_at, uses_at}
use Rattle.plir_read_own.specs.OwnTerms.{Uses, Signature, num_types, Header}
use Rattle.plir_read_ir.specs.declared.openings.IrKind.{IrKind}
use Rattle.plir_read_ir.specs.declared.openings.IrKind.TheVariants.{Builtin, Own}

-- ---- names of results, and the id

module _ {K : Type 0} (find : List ℕ → Option K) where
  -- what an id names: a builtin operation, else a kind of the set
  abbrev pub builtin_or : Result (HeadKind × List ℕ) Fault → Result (K × List ℕ) Fault →
      Result (IrKind K × List ℕ) Fault
  builtin_or (Ok k) own = Ok (Builtin k.0, k.1)
  builtin_or (Err f) own = read_as Own own

  unfoldable pub ir_kind_at : List ℕ → Result (IrKind K × List ℕ) Fault
  ir_kind_at bytes = builtin_or (op_id bytes) (kind_at find bytes)

  -- names of results, and an id
  unfoldable pub ir_opening_at : List ℕ → Result ((List (List ℕ) × IrKind K) × List ℕ) Fault
  ir_opening_at bytes = names_before bytes >>= λ ns. ir_kind_at ns.1 >>= λ k. Ok ((ns.0, k.0), k.1)

-- ---- what stands behind the id of an own operation

-- the numbers are right, where so many names stand before the id
unfoldable pub counted : (names : ℕ) → Uses → Signature → Result (Unit {0}) Fault
counted names u t = as_many_types (length u.operands) (num_types t.operand_types) >>=
    λ v. as_many_names (num_types t.result_types) names

-- what an own operation uses, its attributes and its types, with at most n levels in it
unfoldable pub parts_at : (n names : ℕ) → List ℕ → Result ((Uses × (EntryTerms × Signature)) × List ℕ) Fault
parts_at n names bytes = uses_at bytes >>= λ u. typed_at n u.1 >>= λ t. counted names u.0 t.0.1 >>=
    λ v. Ok ((u.0, t.0), t.1)

-- a header by its names, its kind and what stands behind its id
abbrev pub header_with : {K : Type 0} → List (List ℕ) → K → Uses × (EntryTerms × Signature) → Header K
header_with ws k p = record { names = ws; kind = k; uses = p.0; entries = p.1.0; signature = p.1.1 }
