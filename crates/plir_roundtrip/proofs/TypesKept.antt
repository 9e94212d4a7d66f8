-- Types that are held are live, and named in what was read as they were where they were written.
use Rattle.std.proofs.Common.{◌≡◌, ℕ, ◌+◌, ◌<◌, List, All, length, map, Option}
use Rattle.std.proofs.Common.{Some, None, refl, sym, ap, subst, arith}
use Rattle.std.specs.Prelude.{slice_get}
use Rattle.std.proofs.lemmas.Bool.{and_parts}
use Rattle.std.proofs.lemmas.Option.{slice_get_within, get_or_from_slice_get}
use Rattle.plir_data.specs.TypeTree.{tree_of}
use Rattle.plir_data.specs.Types.{IsTypeTable, AllLive, IsLive as IsTypeLive}
use Rattle.plir_data.specs.declared.op_set.OpSet as op_set
use Rattle.plir_core.specs.Contents.{OpView, BlockView}
use Rattle.plir_core.specs.ContextView.{ContextView, op_at, block_at}
use Rattle.plir_core.specs.ContextView.{result_types_of, results_in, operands_of, operands_in}
use Rattle.plir_core.specs.ContextView.{arg_types_of, arguments_in}
use Rattle.plir_core.specs.WellFormed.{IsWellFormed}
use Rattle.plir_core.specs.declared.ptr.Ptr.{Ptr}
use Rattle.plir_core.specs.declared.ptr.Operation.{Operation as OperationKind}
use Rattle.plir_core.specs.declared.ptr.BasicBlock.{BasicBlock as BlockKind}
use Rattle.plir_core.specs.declared.value.DefiningEntity.TheVariants.{Block}
use Rattle.plir_attr_text.specs.Names.{Grows, Names}
use Rattle.plir_attr_text.specs.Writable.{IsBuiltin}
use Rattle.plir_attr_text.specs.laws.SameNames.{same_handles}
use Rattle.plir_print.specs.ValueNames.{arguments_of, results_of}
use Rattle.plir_read.specs.Heads.{argument_types}
use Rattle.plir_roundtrip.specs.Readable.{IsBlockReadable}
use Rattle.plir_roundtrip.specs.Written.{some_type_term, argument_term}
use Rattle.plir_roundtrip.specs.IrWritten.{types_written}
use Rattle.plir_roundtrip.proofs.OpParts.{at_first}
use Rattle.plir_roundtrip.proofs.MeantAgain.{type_stays, handle_again}
use Rattle.plir_roundtrip.proofs.OpSame.{typed}
use Rattle.plir_roundtrip.proofs.OwnSame.{results_typed}
use Rattle.plir_roundtrip.specs.Readable.{AreValuesReadable}
use Rattle.plir_core.specs.declared.value.DefiningEntity.TheVariants.{Op}
use Rattle.plir_attr_text.specs.Names.{NamesAll}
use Rattle.plir_roundtrip.proofs.OpParts.{HoldsConstant}
use Rattle.plir_core.specs.ContextView.{IsValueLive, entity_node, is_live, type_of_value, types_from}
use Rattle.plir_core.specs.declared.value.Value.{Value}
use Rattle.plir_core.specs.declared.value.DefiningEntity.{DefiningEntity}
use Rattle.plir_roundtrip.specs.ReadableParts.{IsValueReadable}
use Rattle.std.proofs.lemmas.Bool.{ltb-true}
use Rattle.std.specs.Prelude.{nat_lt}
use Rattle.std.proofs.Common.{get_or}
use Rattle.std.proofs.lemmas.Option.{slice_get-get_or}

module _ {D K A T E : Type 0} (o : op_set.Ghosts D K A T E) (s : ContextView K A T)
    (whole : IsWellFormed o.attr_handles s) where
  pub operands_live : (p : Ptr OperationKind) → All (IsValueLive s) (operands_of s p)
  operands_live p = at (op_at s p) refl
    where
      at : (v : Option (OpView K A)) → op_at s p ≡ v → All (IsValueLive s) (operands_in v)
      at None e = λ k d lt. absurd (omega (arith, lt))
      at (Some v) e = (whole.holds.ops p.slot v e).operands

module _ {D K A T E : Type 0} (o : op_set.Ghosts D K A T E) (s t : ContextView K A T)
    (whole : IsWellFormed o.attr_handles s) (g : Grows s.types t.types)
    (table : IsTypeTable o.type_handles t.types) where
  -- ---- what nodes hold is live

  pub results_live : (p : Ptr OperationKind) → AllLive s.types (result_types_of s p)
  results_live p = at (op_at s p) refl
    where
      at : (v : Option (OpView K A)) → op_at s p ≡ v → AllLive s.types (results_in v)
      at None e = λ k d lt. absurd (omega (arith, lt))
      at (Some v) e = (whole.holds.ops p.slot v e).result_types

  pub arguments_live : (b : Ptr BlockKind) → AllLive s.types (arg_types_of s b)
  arguments_live b = at (block_at s b) refl
    where
      at : (v : Option (BlockView A)) → block_at s b ≡ v → AllLive s.types (arguments_in v)
      at None e = λ k d lt. absurd (omega (arith, lt))
      at (Some v) e = (whole.holds.blocks b.slot v e).arg_types

  -- a type of a list of live builtin ones is named in t as it was in s
  pub type_kept : (hs : List ℕ) → AllLive s.types hs → All (λ h. IsBuiltin (tree_of s.types h)) hs → (h k : ℕ)
      → slice_get hs k ≡ Some h → Names t.types h (some_type_term s.types (slice_get hs k))
  type_kept hs lives builtins h k e =
      let within = slice_get_within hs k h e in
      let is = get_or_from_slice_get hs k h 0 e in
      let live : IsTypeLive s.types h = subst (λ z. IsTypeLive s.types z) is (lives k 0 within) in
      let builtin : IsBuiltin (tree_of s.types h) =
      subst (λ z. IsBuiltin (tree_of s.types z)) is (builtins k 0 within) in
      subst (λ z. Names t.types h (some_type_term s.types z)) (sym e)
      (type_stays o.type_handles s.types t.types g table h live builtin)

  -- ---- the types that are read are the ones that are held

  pub argument_types_same : (b : Ptr BlockKind) → IsBlockReadable s b → (hs : List ℕ)
      → NamesAll t.types hs (argument_types (map (argument_term s) (arguments_of s b))) → hs ≡ arg_types_of s b
  argument_types_same b r hs named =
      same_handles o.type_handles t.types table (argument_types (map (argument_term s) (arguments_of s b))) hs
      (arg_types_of s b) named (typed s t b (arg_types_of s b) 0
      (λ i lt. ap (slice_get (arg_types_of s b)) (let e : 0 + i ≡ i = omega arith in e))
      (type_kept (arg_types_of s b) (arguments_live b) r.arguments.types))

  pub own_types_same : (p : Ptr OperationKind) → AreValuesReadable s (Op p) → (hs : List ℕ)
      → NamesAll t.types hs (types_written s (results_of s p)) → hs ≡ result_types_of s p
  own_types_same p r hs named =
      same_handles o.type_handles t.types table (types_written s (results_of s p)) hs (result_types_of s p) named
      (results_typed s t p (result_types_of s p) 0
      (λ i lt. ap (slice_get (result_types_of s p)) (let e : 0 + i ≡ i = omega arith in e))
      (type_kept (result_types_of s p) (results_live p) r.types))

  pub constant_type_same : (p : Ptr OperationKind) (c : HoldsConstant s p) → AreValuesReadable s (Op p) → (h : ℕ)
      → Names t.types h (some_type_term s.types (slice_get (result_types_of s p) 0)) → h ≡ c.handle
  constant_type_same p c r h named =
      let first : slice_get (result_types_of s p) 0 ≡ Some c.handle = ap (λ (l : List ℕ). slice_get l 0) c.result in
      let live = at_first (IsTypeLive s.types) (result_types_of s p) c.handle c.result (results_live p) in
      let builtin : IsBuiltin (tree_of s.types c.handle) =
      at_first (λ z. IsBuiltin (tree_of s.types z)) (result_types_of s p) c.handle c.result r.types in
      handle_again o.type_handles s.types t.types g table (slice_get (result_types_of s p) 0) c.handle h first live
      builtin named

  -- ---- values that are used

  -- the type of a live value of a builtin type is named in t as it was in s
  pub record IsTypedUse (v : Value) : Type 0 where
    pub handle : ℕ
    pub held : type_of_value s v ≡ Some handle
    pub named : Names t.types handle (some_type_term s.types (type_of_value s v))

  types_live : (e : DefiningEntity) → AllLive s.types (types_from s e)
  types_live (Op p) = results_live p
  types_live (Block b) = arguments_live b

  pub typed_use : (v : Value) → IsValueLive s v → IsValueReadable s v.entity v.index → IsTypedUse v
  typed_use v live r =
      let hs = types_from s v.entity in
      let within : v.index < length hs =
      ltb-true v.index (length hs) (and_parts (is_live s (entity_node v.entity)) (nat_lt v.index (length hs)) live).1 in
      let h = get_or hs v.index 0 in
      let held : slice_get hs v.index ≡ Some h = slice_get-get_or hs v.index 0 within in
      let alive : IsTypeLive s.types h = types_live v.entity v.index 0 within in
      record {
        handle = h;
        held = held;
        named =
            subst (λ z. Names t.types h (some_type_term s.types z)) (sym held)
            (type_stays o.type_handles s.types t.types g table h alive (r.0 h held));
      }
