-- What stands where the text of an operation was read is the same tree.
use Rattle.std.proofs.Common.{◌≡◌, ℕ, suc, ◌+◌, ◌<◌, Bool, true, false, List, [], ◌∷◌, length, map, Option, Some}
use Rattle.std.proofs.Common.{is_some, refl, sym, ap, subst, ◌∙◌, arith}
use Rattle.std.specs.List.{range_with_len}
use Rattle.std.specs.Prelude.{slice_get}
use Rattle.plir_data.specs.AttrView as views
use Rattle.plir_data.specs.AttrView.{AttrView, leaf}
use Rattle.plir_data.specs.DictLaws.{get-put, get-other}
use Rattle.plir_data.specs.Dictionary.{dict_get, is_key}
use Rattle.plir_data.specs.declared.op_set.OpKind.{OpKind}
use Rattle.plir_data.specs.declared.op_set.OpKind.TheVariants.{Module, Func, Constant}
use Rattle.plir_data.specs.declared.op_set.OpSet as op_set
use Rattle.plir_data.specs.Keys.{func_type_key, names_key, symbol_key, value_key}
use Rattle.plir_core.specs.declared.ptr.Ptr.{Ptr}
use Rattle.plir_core.specs.declared.ptr.Operation.{Operation as OperationKind}
use Rattle.plir_core.specs.declared.ptr.BasicBlock.{BasicBlock as BlockKind}
use Rattle.plir_core.specs.declared.ptr.IRNode.{IRNode}
use Rattle.plir_core.specs.declared.ptr.IRNode.TheVariants.{Operation, Region, BasicBlock}
use Rattle.plir_core.specs.declared.value.Value.{Value}
use Rattle.plir_core.specs.declared.value.DefiningEntity.TheVariants.{Op, Block}
use Rattle.plir_core.specs.Contents.{OpView, BlockView, op_view}
use Rattle.plir_core.specs.ContextView.{ContextView, kind_of, kind_in, op_at, block_at, attributes_of, attributes_in}
use Rattle.plir_core.specs.ContextView.{result_types_of, results_in, operands_in, successors_in, arg_types_of}
use Rattle.plir_attr_text.specs.Names.{Names, NamesAll}
use Rattle.plir_walk.specs.GivenNames.{names_at, names_in, name_at}
use Rattle.plir_builtin.specs.BuiltinOps.{value_of}
use Rattle.plir_builtin.specs.ResultNames.{result_name}
use Rattle.plir_builtin.specs.Symbols.{name_held}
use Rattle.plir_print.specs.Dictionaries.{is_in_header, shown}
use Rattle.plir_read.specs.Heads.{module_attributes, func_attributes, constant_op, constant_attributes}
use Rattle.plir_read.specs.Heads.{names_attributes, argument_types, result_names}
use Rattle.plir_read.specs.OpsStanding.{HoldsOp, HoldsBlock}
use Rattle.plir_roundtrip.specs.Readable.{IsBodyReadable, IsConstantReadable, IsOpReadable}
use Rattle.plir_roundtrip.specs.SameTree.{HoldSame, IsSameOp}
use Rattle.plir_roundtrip.specs.Written.{some_type_term, argument_term, symbol_of}
use Rattle.plir_roundtrip.proofs.NamesAgain.{no_others, constant_names_again}
use Rattle.plir_roundtrip.proofs.OpParts.{HoldsConstant}
use Rattle.plir_roundtrip.proofs.PrintedNames.{result_name_given}
use Rattle.plir_roundtrip.proofs.EntriesShown.{key_is, other_bytes, name_there, shown_there}

-- ---- which node it is

module _ {K A T : Type 0} (t : ContextView K A T) where
  pub op_held : (y : IRNode) (v : OpView K A) → HoldsOp t y v
      → (q : Ptr OperationKind) × (y ≡ Operation q) × (op_at t q ≡ Some v)
  op_held (Operation q) v h = (q, refl, h)
  op_held (Region r) v h = absurd h
  op_held (BasicBlock b) v h = absurd h

  pub block_held : (y : IRNode) (v : BlockView A) → HoldsBlock t y v
      → (c : Ptr BlockKind) × (y ≡ BasicBlock c) × (block_at t c ≡ Some v)
  block_held (BasicBlock c) v h = (c, refl, h)
  block_held (Region r) v h = absurd h
  block_held (Operation q) v h = absurd h

-- ---- the same under each key

module _ {D K A T E : Type 0} (o : op_set.Ghosts D K A T E) (s : ContextView K A T) (p : Ptr OperationKind)
    (b : IsBodyReadable s p) where
  -- what is shown of an operation whose header shows no more than two keys
  shown_same : (k : List ℕ) → is_in_header (kind_of s p) k ≡ false → is_key k names_key ≡ false
      → dict_get (attributes_of s p) k ≡ dict_get (shown o s p) k
  shown_same k e f = sym (shown_there o s.types (kind_of s p) (attributes_of s p) k b.entries e f)

  name_same : is_some (name_held (op_at s p)) ≡ true → (k : List ℕ) → is_key k symbol_key ≡ true
      → dict_get (attributes_of s p) k ≡ dict_get (module_attributes (symbol_of s p) (shown o s p)) k
  name_same e k is =
      let same : k ≡ symbol_key = key_is k symbol_key is in
      subst (λ z. dict_get (attributes_of s p) z ≡ dict_get (module_attributes (symbol_of s p) (shown o s p)) z)
      (sym same)
      (name_there (dict_get (attributes_of s p) symbol_key) e
      ∙ sym (get-put (shown o s p) symbol_key (leaf (views.identifier (symbol_of s p)))))

  pub module_holds_same : kind_of s p ≡ Some Module → is_some (name_held (op_at s p)) ≡ true
      → HoldSame (attributes_of s p) (module_attributes (symbol_of s p) (shown o s p))
  module_holds_same kind e k other = at (is_key k symbol_key) refl
    where
      at : (u : Bool) → is_key k symbol_key ≡ u
          → dict_get (attributes_of s p) k ≡ dict_get (module_attributes (symbol_of s p) (shown o s p)) k
      at true is = name_same e k is
      at false is =
          shown_same k (subst (λ z. is_in_header z k ≡ false) (sym kind) (other_bytes k symbol_key is)) other
          ∙ sym (get-other (shown o s p) symbol_key k (leaf (views.identifier (symbol_of s p))) is)

  pub func_holds_same : kind_of s p ≡ Some Func → is_some (name_held (op_at s p)) ≡ true → (h : ℕ)
      → dict_get (attributes_of s p) func_type_key ≡ Some (leaf (views.type_of h))
      → HoldSame (attributes_of s p) (func_attributes (symbol_of s p) h (shown o s p))
  func_holds_same kind e h type k other = at (is_key k func_type_key) (is_key k symbol_key) refl refl
    where
      front : List (List ℕ × AttrView A)
      front = module_attributes (symbol_of s p) (shown o s p)

      at : (u v : Bool) → is_key k func_type_key ≡ u → is_key k symbol_key ≡ v
          → dict_get (attributes_of s p) k ≡ dict_get (func_attributes (symbol_of s p) h (shown o s p)) k
      at true v is name =
          let same : k ≡ func_type_key = key_is k func_type_key is in
          subst (λ z. dict_get (attributes_of s p) z ≡ dict_get (func_attributes (symbol_of s p) h (shown o s p)) z)
          (sym same) (type ∙ sym (get-put front func_type_key (leaf (views.type_of h))))
      at false true is name = name_same e k name ∙ sym (get-other front func_type_key k (leaf (views.type_of h)) is)
      at false false is name =
          shown_same k (subst (λ z. is_in_header z k ≡ false) (sym kind)
          (rw (other_bytes k symbol_key name, other_bytes k func_type_key is) refl)) other
          ∙ sym (get-other (shown o s p) symbol_key k (leaf (views.identifier (symbol_of s p))) name)
          ∙ sym (get-other front func_type_key k (leaf (views.type_of h)) is)

module _ {K A T : Type 0} (s : ContextView K A T) (p : Ptr OperationKind) (r : IsConstantReadable s p) where
  constant_holds_same : (ns : List (Option (List ℕ))) (x : AttrView A) → value_of s p ≡ Some x
      → HoldSame (attributes_of s p) (constant_attributes ns x)
  constant_holds_same ns x held k other = at (is_key k value_key) refl
    where
      at : (u : Bool) → is_key k value_key ≡ u → dict_get (attributes_of s p) k ≡ dict_get (constant_attributes ns x) k
      at true is =
          let same : k ≡ value_key = key_is k value_key is in
          subst (λ z. dict_get (attributes_of s p) z ≡ dict_get (constant_attributes ns x) z) (sym same)
          (held ∙ sym (get-put (names_attributes ns) value_key x))
      at false is =
          r.only k (rw (is, other) refl) ∙ sym (no_others A ns k other)
          ∙ sym (get-other (names_attributes ns) value_key k x is)

-- ---- one node

module _ {K A T : Type 0} (s t : ContextView K A T) where
  pub body_same : (kind : OpKind K) (p q : Ptr OperationKind) (es : List (List ℕ × AttrView A))
      → kind_of s p ≡ Some kind → IsOpReadable s p → IsBodyReadable s p → op_at t q ≡ Some (op_view kind [] [] [] es)
      → HoldSame (attributes_of s p) es → IsSameOp s t p q
  body_same kind p q es is readable b held same = record {
    kind = is ∙ sym (ap kind_in held);
    results = record {
      types = b.results ∙ sym (ap results_in held);
      names =
          λ i lt. absurd (let none : i < 0 = subst (λ (l : List ℕ). i < length l) b.results lt in omega (arith, none));
      attributes = λ k other. same k other ∙ sym (ap (λ z. dict_get (attributes_in z) k) held);
    };
    operands = (readable.operands, ap operands_in held);
    successors = (readable.successors, ap successors_in held);
  }

  pub constant_same : (p q : Ptr OperationKind) (c : HoldsConstant s p) → kind_of s p ≡ Some Constant → IsOpReadable s p
      → IsConstantReadable s p → op_at t q ≡ Some (constant_op (result_names (result_name s p 0 ∷ [])) c.value c.handle)
      → IsSameOp s t p q
  constant_same p q c is readable r held = record {
    kind = is ∙ sym (ap kind_in held);
    results = record {
      types = c.result ∙ sym (ap results_in held);
      names = names;
      attributes =
          λ k other.
          constant_holds_same s p r ns c.value c.held k other ∙ sym (ap (λ z. dict_get (attributes_in z) k) held);
    };
    operands = (readable.operands, ap operands_in held);
    successors = (readable.successors, ap successors_in held);
  }
    where
      ns : List (Option (List ℕ))
      ns = result_names (result_name s p 0 ∷ [])

      first : name_at (names_at s (Op p)) 0 ≡ name_at (names_at t (Op q)) 0
      first =
          let lt : 0 < length (result_types_of s p) =
          subst (λ (l : List ℕ). 0 < length l) (sym c.result) (omega arith) in
          sym (ap (λ z. name_at (names_in (attributes_in z)) 0) held ∙ constant_names_again A ns c.value 0
          ∙ result_name_given s p 0 (readable.results.names 0 lt))

      names : (i : ℕ) → i < length (result_types_of s p) → name_at (names_at s (Op p)) i ≡ name_at (names_at t (Op q)) i
      names i lt =
          let one : i < 1 = subst (λ (l : List ℕ). i < length l) c.result lt in
          let zero_is : i ≡ 0 = omega (arith, one) in
          subst (λ k. name_at (names_at s (Op p)) k ≡ name_at (names_at t (Op q)) k) (sym zero_is) first

-- ---- the arguments of a block

module _ {K A T : Type 0} (s t : ContextView K A T) (b : Ptr BlockKind) where
  abbrev pub value_of_place : ℕ → Value
  value_of_place i = record { entity = Block b; index = i }

  pub typed : (hs : List ℕ) (a : ℕ) → ((i : ℕ) → i < length hs → slice_get (arg_types_of s b) (a + i) ≡ slice_get hs i)
      → ((h k : ℕ) → slice_get (arg_types_of s b) k ≡ Some h
      → Names t.types h (some_type_term s.types (slice_get (arg_types_of s b) k)))
      → NamesAll t.types hs (argument_types (map (argument_term s) (map value_of_place (range_with_len a (length hs)))))
  typed [] a same each = refl
  typed (h ∷ hs) a same each =
      let here : slice_get (arg_types_of s b) a ≡ Some h =
      ap (slice_get (arg_types_of s b)) (let e : a ≡ a + 0 = omega arith in e) ∙ same 0 (omega arith) in (
        h,
        hs,
        each h a here,
        typed hs (a + 1) (λ i lt. ap (slice_get (arg_types_of s b))
            (let e : a + 1 + i ≡ a + suc i = omega arith in e) ∙ same (suc i) (omega (arith, lt))) each,
        refl,
      )
