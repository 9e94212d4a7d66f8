-- What is left where a value has come in place of another one.
use Rattle.std.specs.Prelude.{cond, map, option_map}
use Rattle.plir_store.specs.Table.{Cell}
use Rattle.plir_core.specs.declared.value.Value.{Value}
use Rattle.plir_core.specs.Contents.{OpView}
use Rattle.plir_core.specs.SameValue.{same_value}
use Rattle.plir_core.specs.ContextView.{ContextView}

-- w in place of v; any other value stays
abbrev pub replaced : Value → Value → Value → Value
replaced v w x = cond (same_value x v) w x

module _ {K A : Type 0} where
  -- what an operation holds, with w in place of each operand that is v
  abbrev pub op_replaced : Value → Value → OpView K A → OpView K A
  op_replaced v w o = record o { operands = map (replaced v w) o.operands }

  abbrev pub cell_replaced : Value → Value → Cell (OpView K A) → Cell (OpView K A)
  cell_replaced v w c = record { version = c.version; content = option_map (op_replaced v w) c.content }

module _ {K A T : Type 0} where
  -- the context with w in place of each operand that is v, and all else as it was
  abbrev pub with_uses_replaced : ContextView K A T → Value → Value → ContextView K A T
  with_uses_replaced s v w = record s {
    nodes = record s.nodes
        { ops = record s.nodes.ops { slots = map (cell_replaced v w) s.nodes.ops.slots } };
  }
