-- What copies of operations hold.
use Rattle.std.specs.Prelude.{ℕ, List, Bool, ◌&&◌, Some, cond, nat_lt}
use Rattle.plir_data.specs.AttrView.{AttrView}
use Rattle.plir_data.specs.CallSites.{inlined_at}
use Rattle.plir_core.specs.declared.ptr.Ptr.{Ptr}
use Rattle.plir_core.specs.declared.ptr.BasicBlock.{BasicBlock as BlockKind}
use Rattle.plir_core.specs.declared.value.Value.{Value}
use Rattle.plir_core.specs.declared.value.DefiningEntity.{DefiningEntity}
use Rattle.plir_core.specs.declared.value.DefiningEntity.TheVariants.{Block}
use Rattle.plir_core.specs.Contents.{OpView, BlockView}
use Rattle.plir_core.specs.SameValue.{same_entity}
use Rattle.plir_copies.specs.Images.{Images, values_in, blocks_in, with_block}

-- the value at a place, from 0, of an operation or a block
abbrev pub value_at : DefiningEntity → ℕ → Value
value_at e i = record { entity = e; index = i }

-- whether a value is among the first n of an operation or a block
abbrev pub is_among_first : DefiningEntity → ℕ → Value → Bool
is_among_first e n v = same_entity e v.entity && nat_lt v.index n

-- the first n values of f stand in place of those of e, each in place of the one at its place; all else is as before
abbrev pub with_values_of : Images → (e f : DefiningEntity) → ℕ → Images
with_values_of m e f n = record m { value = λ v. cond (is_among_first e n v) (Some (value_at f v.index)) (m.value v) }

-- the block c and its first n arguments stand in place of b and its; all else is as before
abbrev pub with_block_of : Images → (b c : Ptr BlockKind) → ℕ → Images
with_block_of m b c n = with_block (with_values_of m (Block b) (Block c) n) b c

-- What the copy of an operation holds that holds o: the same, but what stands in place of operands and successors; and
-- where it was written, with the place of the call in place of which it stands.
abbrev pub op_under : {K A : Type 0} → Images → OpView K A → OpView K A
op_under m o = record o {
  operands = values_in m o.operands;
  successors = blocks_in m o.successors;
  location = inlined_at o.location m.call;
}

-- the same, but with the operands that it holds itself
abbrev pub bare_under : {K A : Type 0} → Images → OpView K A → OpView K A
bare_under m o = record o { successors = blocks_in m o.successors; location = inlined_at o.location m.call }

-- what an operation holds, with what stands in place of its operands, with what stands in place of its successors, and
-- with the location of a copy
abbrev pub with_operands_in : {K A : Type 0} → Images → OpView K A → OpView K A
with_operands_in m o = record o { operands = values_in m o.operands }

abbrev pub with_successors_in : {K A : Type 0} → Images → OpView K A → OpView K A
with_successors_in m o = record o { successors = blocks_in m o.successors }

abbrev pub located_in : {K A : Type 0} → Images → OpView K A → OpView K A
located_in m o = record o { location = inlined_at o.location m.call }

-- what a block holds, with other attributes
abbrev pub with_attributes : {A : Type 0} → List (List ℕ × AttrView A) → BlockView A → BlockView A
with_attributes es b = record b { attributes = es }
