-- What stands in place of values and blocks, and in place of which call copies stand.
use Rattle.std.specs.Prelude.{◌≡◌, List, map, Option, Some, None, cond}
use Rattle.std.specs.Option.{option_or, unwrap_or}
use Rattle.std.specs.HashMap.{get}
use Rattle.plir_data.specs.declared.location.Location.{Location}
use Rattle.plir_data.specs.declared.location.Location.TheVariants.{Unknown}
use Rattle.plir_core.specs.declared.ptr.Ptr.{Ptr}
use Rattle.plir_core.specs.declared.ptr.BasicBlock.{BasicBlock as BlockKind}
use Rattle.plir_core.specs.declared.ptr.IRNode.TheVariants.{BasicBlock}
use Rattle.plir_core.specs.declared.value.Value.{Value}
use Rattle.plir_core.specs.SameValue.{same_ptr, same_value}
use Rattle.plir_core.specs.ContextView.{ContextView, IsLive, IsValueLive}
use Rattle.plir_copies.specs.declared.value_map.ValueMap.{ValueMap}

-- What was put in place of each value and of each block, if anything was; and where the call was written in place of
-- which copies stand: nowhere, where they stand in place of none.
pub record Images : Type 0 where
  pub value : Value → Option Value
  pub block : Ptr BlockKind → Option (Ptr BlockKind)
  pub call : Location

-- what a map has put in place of values and blocks, and the call that it is for
abbrev pub images : ValueMap → Images
images m = record { value = get same_value m.values; block = get same_ptr m.blocks; call = m.call }

-- nothing stands in place of anything, of no call either
abbrev pub no_images : Images
no_images = record { value = λ v. None; block = λ b. None; call = Unknown }

-- copies stand in place of a call that was written here; all else is as before
abbrev pub for_call : Images → Location → Images
for_call m loc = record m { call = loc }

-- the value w stands in place of v; all else is as before
abbrev pub with_value : Images → Value → Value → Images
with_value m v w = record m { value = λ x. cond (same_value v x) (Some w) (m.value x) }

-- the block c stands in place of b; all else is as before
abbrev pub with_block : Images → Ptr BlockKind → Ptr BlockKind → Images
with_block m b c = record m { block = λ x. cond (same_ptr b x) (Some c) (m.block x) }

-- what stands in place of a value, and of a block: itself, where nothing was put there
abbrev pub value_in : Images → Value → Value
value_in m v = unwrap_or (m.value v) v

abbrev pub block_in : Images → Ptr BlockKind → Ptr BlockKind
block_in m b = unwrap_or (m.block b) b

-- the same of each of a list
abbrev pub values_in : Images → List Value → List Value
values_in m vs = map (value_in m) vs

abbrev pub blocks_in : Images → List (Ptr BlockKind) → List (Ptr BlockKind)
blocks_in m bs = map (block_in m) bs

-- what m has put in place counts, and else what n has; copies stand in place of the call of n
abbrev pub over : Images → Images → Images
over m n = record {
  value = λ v. option_or (m.value v) (n.value v);
  block = λ b. option_or (m.block b) (n.block b);
  call = n.call;
}

-- what was put in place of values and blocks is live
pub record AreImagesLive {K A T : Type 0} (s : ContextView K A T) (m : Images) : Type 0 where
  pub values : (v w : Value) → m.value v ≡ Some w → IsValueLive s w
  pub blocks : (b c : Ptr BlockKind) → m.block b ≡ Some c → IsLive s (BasicBlock c)
