-- What operations and blocks hold, as contracts see it.
use Rattle.std.specs.Prelude.{ℕ, List, Option}
use Rattle.plir_data.specs.AttrView.{AttrView}
use Rattle.plir_data.specs.declared.op_set.OpKind.{OpKind}
use Rattle.plir_data.specs.declared.location.Location.{Location}
use Rattle.plir_data.specs.declared.location.Location.TheVariants.{Unknown}
use Rattle.plir_core.specs.declared.ptr.Ptr.{Ptr}
use Rattle.plir_core.specs.declared.ptr.BasicBlock.{BasicBlock as BasicBlockKind}
use Rattle.plir_core.specs.declared.value.Value.{Value}

-- What an operation holds: its kind (K are the user's own), the types of its results by their handles, its operands,
-- its successors, its attributes by key (A are the user's own), and its place in a source text.
pub record OpView (K A : Type 0) : Type 0 where
  pub kind : OpKind K
  pub result_types : List ℕ
  pub operands : List Value
  pub successors : List (Ptr BasicBlockKind)
  pub attributes : List (List ℕ × AttrView A)
  pub location : Location

-- what an operation holds whose place in a source text is unknown
abbrev pub op_view : {K A : Type 0} → OpKind K → List ℕ → List Value → List (Ptr BasicBlockKind) →
    List (List ℕ × AttrView A) → OpView K A
op_view k ts vs bs es = record {
  kind = k;
  result_types = ts;
  operands = vs;
  successors = bs;
  attributes =
      es;
  location = Unknown;
}

-- What a block holds: its label, the types of its arguments by their handles, and its attributes by key.
pub record BlockView (A : Type 0) : Type 0 where
  pub label : Option (List ℕ)
  pub arg_types : List ℕ
  pub attributes : List (List ℕ × AttrView A)
