-- What a context becomes where one value has come in place of another one as an operand.
use Rattle.std.specs.Prelude.{◌≡◌, ◌+◌, ◌↔◌, ◌⊎◌, option_map}
use Rattle.plir_core.specs.declared.ptr.Ptr.{Ptr}
use Rattle.plir_core.specs.declared.ptr.Operation.{Operation as OperationKind}
use Rattle.plir_core.specs.declared.value.Value.{Value}
use Rattle.plir_core.specs.ContextView.{ContextView, is_value_live, type_of_value, op_at}
use Rattle.plir_core.specs.Held.{KeepsNodes}
use Rattle.plir_core.specs.Replaced.{op_replaced}
use Rattle.plir_core.specs.ValueUses.{HasUses, num_uses_of}

module _ {K A T : Type 0} where
  -- the value is used in t if it is in s, and as often
  pub record SameUses (s t : ContextView K A T) (x : Value) : Type 0 where
    pub has : HasUses t x ↔ HasUses s x
    pub count : num_uses_of t x ≡ num_uses_of s x

  -- From s to t each operand that was v is w, and nothing else has changed.
  pub record IsRewired (s t : ContextView K A T) (v w : Value) : Type 0 where
    -- the same nodes stand where they stood
    pub keeps : KeepsNodes s t
    -- an operation holds what it held, with w in place of each operand that was v
    pub ops : (p : Ptr OperationKind) → op_at t p ≡ option_map (op_replaced v w) (op_at s p)
    -- a block holds what it held
    pub blocks : t.nodes.blocks ≡ s.nodes.blocks
    pub regions : t.nodes.regions ≡ s.nodes.regions
    -- the same slots of operations are free, in their order
    pub free : t.nodes.ops.free ≡ s.nodes.ops.free
    -- the same values are live, of the same types
    pub values : (x : Value) → is_value_live t x ≡ is_value_live s x
    pub value_types : (x : Value) → type_of_value t x ≡ type_of_value s x
    -- nothing uses v any more, unless w is v
    pub gone : (v ≡ w → ⊥) → HasUses t v → ⊥
    -- w is used where v or w was
    pub used : HasUses t w ↔ (HasUses s v ⊎ HasUses s w)
    pub count : (v ≡ w → ⊥) → num_uses_of t w ≡ num_uses_of s v + num_uses_of s w
    -- any other value is used as before
    pub others : (x : Value) → (x ≡ v → ⊥) → (x ≡ w → ⊥) → SameUses s t x
