-- The names of values and blocks in texts.
use Rattle.std.specs.Prelude.{ℕ, List, ◌++◌, length, map, codes}
use Rattle.std.specs.List.{range_with_len}
use Rattle.std.specs.Fmt.{decimal}
use Rattle.plir_core.specs.declared.ptr.Ptr.{Ptr}
use Rattle.plir_core.specs.declared.ptr.Operation.{Operation as OperationKind}
use Rattle.plir_core.specs.declared.ptr.BasicBlock.{BasicBlock as BasicBlockKind}
use Rattle.plir_core.specs.declared.value.Value.{Value}
use Rattle.plir_core.specs.declared.value.DefiningEntity.{DefiningEntity}
use Rattle.plir_core.specs.declared.value.DefiningEntity.TheVariants.{Op, Block}
use Rattle.plir_core.specs.ContextView.{ContextView, label_of, types_from}
use Rattle.plir_core.specs.Texts.{pointer_text}
use Rattle.plir_walk.specs.GivenNames.{names_at, name_at}
use Rattle.plir_builtin.specs.ResultNames.{given_first, result_name}

module _ {K A T : Type 0} (s : ContextView K A T) where
  -- a label comes first, if there is one, then the pointer, as in `entry_block2v1`
  abbrev pub block_name : Ptr BasicBlockKind → List ℕ
  block_name b = given_first (label_of s b) ++ pointer_text (codes "block") b

  -- the given name, the pointer of the block, `_arg`, and the index, as in `x_block2v1_arg0`
  abbrev pub argument_name : Ptr BasicBlockKind → ℕ → List ℕ
  argument_name b i = given_first (name_at (names_at s (Block b)) i) ++ pointer_text (codes "block") b ++ codes "_arg"
      ++ decimal i

  -- the name of the value at an index among those that come from an operation or a block
  abbrev pub name_from : DefiningEntity → ℕ → List ℕ
  name_from (Op p) i = result_name s p i
  name_from (Block b) i = argument_name b i

  -- the name of a value
  abbrev pub value_name : Value → List ℕ
  value_name v = name_from v.entity v.index

  -- the values that come from an operation or a block, in order
  abbrev pub values_from : DefiningEntity → List Value
  values_from e = map (λ i. record { entity = e; index = i }) (range_with_len 0 (length (types_from s e)))

  -- the results of an operation, and the arguments of a block
  abbrev pub results_of : Ptr OperationKind → List Value
  results_of p = values_from (Op p)

  abbrev pub arguments_of : Ptr BasicBlockKind → List Value
  arguments_of b = values_from (Block b)
