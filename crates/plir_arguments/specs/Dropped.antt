-- An argument of a block that is dropped: the block is made anew without it.
use Rattle.std.specs.Prelude.{◌≡◌, ◌<◌, ◌++◌, ◌∷◌, ◌-◌, ℕ, Bool, ◌&&◌, not, nat_eq, nat_lt, cond, true, false, List, Option}
use Rattle.std.specs.Prelude.{Some, None, length, option_and_then, option_map, remove}
use Rattle.plir_data.specs.AttrView.{AttrView}
use Rattle.plir_data.specs.Dictionary.{dict_get}
use Rattle.plir_data.specs.Keys.{names_key}
use Rattle.plir_core.specs.declared.ptr.Ptr.{Ptr}
use Rattle.plir_core.specs.declared.ptr.Operation.{Operation as OperationKind}
use Rattle.plir_core.specs.declared.ptr.BasicBlock.{BasicBlock as BlockKind}
use Rattle.plir_core.specs.declared.ptr.IRNode.{IRNode}
use Rattle.plir_core.specs.declared.ptr.IRNode.TheVariants.{Operation, BasicBlock}
use Rattle.plir_core.specs.declared.value.Value.{Value}
use Rattle.plir_core.specs.declared.value.DefiningEntity.TheVariants.{Block}
use Rattle.plir_core.specs.Contents.{OpView, BlockView}
use Rattle.plir_core.specs.ContextView.{ContextView, IsLive, arg_types_of, block_at, children, given_out, is_live, limit}
use Rattle.plir_core.specs.ContextView.{first_child, op_at, parent_of}
use Rattle.plir_core.specs.ValueUses.{HasUses}
use Rattle.plir_copies.specs.Copied.{is_among_first, value_at}
use Rattle.plir_inline.specs.Given.{with_operands_by}
use Rattle.plir_walk.specs.GivenNames.{Names, named, names_of, remove_name}
use Rattle.plir_flow.specs.Branches.{Range as Places}
use Rattle.plir_flow_sets.specs.Branches.{forwarded_to}
use Rattle.plir_arguments.specs.Removed.{is_told}
use Rattle.plir_arguments.specs.Turned.{GoesTo, IsTurned, NeverGoesTo}

-- ---- which arguments can be dropped

-- a block stands in a region, and is not the first block there
pub record StandsBehind {K A T : Type 0} (s : ContextView K A T) (b : Ptr BlockKind) : Type 0 where
  pub over : IRNode
  pub here : parent_of s (BasicBlock b) ≡ Some over
  pub not_first : first_child s over ≡ Some (BasicBlock b) → ⊥

module _ {K A T : Type 0} (removes : ℕ → OpView K A → Bool) (forwards : ℕ → OpView K A → Option Places)
    (s : ContextView K A T) (b : Ptr BlockKind) where
  -- The operation p, whose successor k is the block b, can forward one value less to it: it forwards one for each
  -- argument, the set says that one may be taken out, and no other successor of it is b.
  pub record CanForwardLess (p : Ptr OperationKind) (k : ℕ) : Type 0 where
    pub told : is_told (removes k) s p ≡ true
    pub as_many : length (forwarded_to forwards s p k) ≡ length (arg_types_of s b)
    pub once : (j : ℕ) → GoesTo s p j b → j ≡ k

  -- The argument of the block b at place i can be dropped: nothing uses it, b is not the first block of its region, and
  -- each operation that branches to b can forward one value less to it.
  pub record CanDrop (i : ℕ) : Type 0 where
    pub live : IsLive s (BasicBlock b)
    pub below : i < length (arg_types_of s b)
    pub behind : StandsBehind s b
    pub unused : HasUses s (value_at (Block b) i) → ⊥
    pub branches : (p : Ptr OperationKind) (k : ℕ) → IsLive s (Operation p) → GoesTo s p k b → CanForwardLess p k

-- ---- what is left

-- an argument's place once the one at place i is gone: those behind it have moved down
abbrev pub moved_down : ℕ → ℕ → ℕ
moved_down i j = cond (nat_lt i j) (j - 1) j

-- what a value has become: one of the first n arguments of b, but for that at place i, the argument of c at the place
-- to which that has moved; any other value itself
abbrev pub moved : (b c : Ptr BlockKind) (i n : ℕ) → Value → Value
moved b c i n v = cond (is_among_first (Block b) n v && not (nat_eq v.index i))
    (value_at (Block c) (moved_down i v.index)) v

module _ {A : Type 0} where
  -- attributes with these names, if there are any to be put
  abbrev pub renamed : Option Names → List (List ℕ × AttrView A) → List (List ℕ × AttrView A)
  renamed None es = es
  renamed (Some ns) es = named ns es

  -- the names that are left where names are given, without that at a place
  abbrev pub names_left : List (List ℕ × AttrView A) → ℕ → Option Names
  names_left es i = option_map (λ ns. remove_name ns i) (option_and_then names_of (dict_get es names_key))

  -- attributes without the name of the argument at a place, if names are given; where none is left none are given
  abbrev pub without_name : List (List ℕ × AttrView A) → ℕ → List (List ℕ × AttrView A)
  without_name es i = renamed (names_left es i) es

  -- what a block holds, without its argument at a place
  abbrev pub without_argument : ℕ → BlockView A → BlockView A
  without_argument i b = record b { arg_types = remove b.arg_types i; attributes = without_name b.attributes i }

-- From s to t the block b is gone, and the new block c stands in its place, with its operations and all that it held,
-- but without its argument at place i. What branched to b branches to c and forwards one value less to it; what used
-- another argument of b uses that of c. Nothing else has changed.
pub record IsDropped {K A T : Type 0} (keys : List (List ℕ)) (forwards : ℕ → OpView K A → Option Places)
    (s t : ContextView K A T) (b : Ptr BlockKind) (i : ℕ) (c : Ptr BlockKind) : Type 0 where
  pub new : is_live s (BasicBlock c) ≡ false
  pub fresh : given_out s (BasicBlock c) ≡ false
  pub gone : is_live t (BasicBlock b) ≡ false
  pub made : IsLive t (BasicBlock c)
  pub held : block_at t c ≡ option_map (without_argument i) (block_at s b)
  pub here : (over : IRNode) (xs ys : List IRNode) → children s over ≡ xs ++ BasicBlock b ∷ ys →
      children t over ≡ xs ++ BasicBlock c ∷ ys
  pub body : children t (BasicBlock c) ≡ children s (BasicBlock b)
  pub branches : (p : Ptr OperationKind) (k : ℕ) (o : OpView K A) → IsLive s (Operation p) → GoesTo s p k b →
      op_at s p ≡ Some o → (o' : OpView K A) × IsTurned keys forwards c i k o o' ×
      (op_at t p ≡ Some (with_operands_by (moved b c i (length (arg_types_of s b))) o'))
  pub ops : (p : Ptr OperationKind) → IsLive s (Operation p) → NeverGoesTo s p b →
      op_at t p ≡ option_map (with_operands_by (moved b c i (length (arg_types_of s b)))) (op_at s p)
  pub blocks : (x : Ptr BlockKind) → IsLive s (BasicBlock x) → (x ≡ b → ⊥) → block_at t x ≡ block_at s x
  pub live : (n : IRNode) → (n ≡ BasicBlock b → ⊥) → (n ≡ BasicBlock c → ⊥) → is_live t n ≡ is_live s n
  pub children : (n : IRNode) → IsLive s n → (n ≡ BasicBlock b → ⊥) → (parent_of s (BasicBlock b) ≡ Some n → ⊥) →
      children t n ≡ children s n
  pub given_out : (n : IRNode) → given_out s n ≡ true → given_out t n ≡ true
  pub types : t.types ≡ s.types
  pub limit : limit t ≡ limit s
