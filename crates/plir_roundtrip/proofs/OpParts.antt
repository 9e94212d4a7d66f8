-- Parts of the text of an operation that are told in one way by both readers: types, attributes, heads of blocks.
use Rattle.std.proofs.Common.{◌≡◌, ℕ, ◌+◌, ◌<◌, true, List, [], ◌∷◌, ◌++◌, codes, length, map, Option, Some, None}
use Rattle.std.proofs.Common.{is_some, refl, sym, ap, subst, ◌∙◌, arith, append_assoc, append-nil, get_or}
use Rattle.std.proofs.Common.{option_and_then, All}
use Rattle.std.specs.List.{range_with_len}
use Rattle.std.specs.Prelude.{slice_get, nat_eq}
use Rattle.std.proofs.lemmas.Bool.{and_parts, eqb-true}
use Rattle.std.proofs.lemmas.Option.{slice_get-get_or}
use Rattle.plir_data.specs.AttrCalls.{type_in_attr}
use Rattle.plir_data.specs.AttrView as views
use Rattle.plir_data.specs.AttrView.{AttrView, leaf}
use Rattle.plir_data.specs.Dictionary.{dict_get}
use Rattle.plir_data.specs.Identifier.{is_identifier}
use Rattle.plir_data.specs.Keys.{func_type_key, symbol_key}
use Rattle.plir_data.specs.TypeTree.{tree_of}
use Rattle.plir_data.specs.declared.op_set.OpKind.{OpKind}
use Rattle.plir_data.specs.declared.op_set.OpKind.TheVariants.{Constant}
use Rattle.plir_data.specs.declared.op_set.OpSet as op_set
use Rattle.plir_core.specs.declared.ptr.Ptr.{Ptr}
use Rattle.plir_core.specs.declared.ptr.Operation.{Operation as OperationKind}
use Rattle.plir_core.specs.declared.ptr.BasicBlock.{BasicBlock as BlockKind}
use Rattle.plir_core.specs.declared.ptr.IRNode.TheVariants.{Operation}
use Rattle.plir_core.specs.declared.value.Value.{Value}
use Rattle.plir_core.specs.declared.value.DefiningEntity.TheVariants.{Op, Block}
use Rattle.plir_core.specs.ContextView.{ContextView, children, op_at, attributes_of, result_types_of}
use Rattle.plir_core.specs.ContextView.{arg_types_of}
use Rattle.plir_attr_text.specs.AttrGrammar.{Spells}
use Rattle.plir_attr_text.specs.Tokens.{Token}
use Rattle.plir_attr_text.specs.TypeGrammar.{SpellsType}
use Rattle.plir_attr_text.specs.Writable.{IsBuiltin, IsWritable, entry_terms}
use Rattle.plir_attr_text.specs.laws.AttrsShown.{attr-shown}
use Rattle.plir_attr_text.specs.laws.Runs.{Shown, Tail}
use Rattle.plir_attr_text.specs.laws.TypesShown.{type-shown}
use Rattle.plir_builtin.specs.BuiltinOps.{func_type_of, value_of}
use Rattle.plir_builtin.specs.ResultNames.{result_name}
use Rattle.plir_builtin.specs.Symbols.{name_held}
use Rattle.plir_print.specs.Dictionaries.{shown}
use Rattle.plir_print.specs.HeaderAttrs.{has_header_of}
use Rattle.plir_print.specs.Headers.{names_text, some_type_text, some_attr_text, header_of}
use Rattle.plir_print.specs.OpText.{equals_behind, space_behind, line_of, dictionary_of, results_text, argument_text}
use Rattle.plir_print.specs.OpText.{block_front}
use Rattle.plir_print.specs.ValueNames.{arguments_of}
use Rattle.plir_read.specs.OpGrammar.{SpellsDictionary, SpellsArgument, SpellsBlockHead}
use Rattle.plir_roundtrip.specs.Readable.{IsBodyReadable}
use Rattle.plir_roundtrip.specs.Readable.{IsEntryReadable, IsBlockReadable}
use Rattle.plir_roundtrip.specs.Written.{some_type_term, some_attr_term, argument_term, block_head_term, symbol_of}
use Rattle.plir_roundtrip.proofs.Children.{in_row}
use Rattle.plir_roundtrip.proofs.EntriesShown.{at_key, name_there, type_there}
use Rattle.plir_roundtrip.proofs.Joined.{Then}
use Rattle.plir_roundtrip.proofs.PartsShown.{AreWritable, entries-shown, argument-shown, arguments-shown}
use Rattle.plir_roundtrip.proofs.PartsShown.{block_head-shown}
use Rattle.plir_roundtrip.proofs.PartsShown.{behind_dictionary, behind_none}
use Rattle.plir_roundtrip.proofs.PrintedNames.{block_name_good, argument_name_good}

-- ---- constants

-- what a constant with its header holds
pub record HoldsConstant {K A T : Type 0} (s : ContextView K A T) (p : Ptr OperationKind) : Type 0 where
  pub value : AttrView A
  pub held : value_of s p ≡ Some value
  pub handle : ℕ
  pub result : result_types_of s p ≡ handle ∷ []

some_one : {X : Type 0} (o : Option X) → is_some o ≡ true → (x : X) × (o ≡ Some x)
some_one None e = absurd cc
some_one (Some x) e = (x, refl)

one_alone : (xs : List ℕ) → length xs ≡ 1 → (x : ℕ) × (xs ≡ x ∷ [])
one_alone [] e = absurd (omega (arith, e))
one_alone (x ∷ []) e = (x, refl)
one_alone (x ∷ y ∷ xs) e = absurd (omega (arith, e))

pub constant_there : {K A T : Type 0} (s : ContextView K A T) (p : Ptr OperationKind)
    → has_header_of s (Some Constant) p ≡ true → HoldsConstant s p
constant_there s p e =
    let ends = and_parts (is_some (value_of s p)) (nat_eq (length (result_types_of s p)) 1) e in
    let v = some_one (value_of s p) ends.0 in
    let h = one_alone (result_types_of s p) (eqb-true (length (result_types_of s p)) 1 ends.1) in
    record { value = v.0; held = v.1; handle = h.0; result = h.1 }

-- what is said of all of one is said of it
pub at_first : (P : ℕ → Type 0) (xs : List ℕ) (x : ℕ) → xs ≡ x ∷ [] → All P xs → P x
at_first P xs x e all = subst (All P) e all 0 x (omega arith)

-- ---- types, attributes, and heads of blocks

module _ {D K A T E : Type 0} (o : op_set.Ghosts D K A T E) (s : ContextView K A T) where
  -- a type, and an attribute, where there is one
  pub some_type-shown : (x : Option ℕ) (h : ℕ) → x ≡ Some h → IsBuiltin (tree_of s.types h)
      → Shown (SpellsType (some_type_term s.types x)) (some_type_text o s x)
  some_type-shown x h e b =
      subst (λ z. Shown (SpellsType (some_type_term s.types z)) (some_type_text o s z)) (sym e)
      (type-shown o.type_id o.type_body_text s.types h b)

  pub some_attr-shown : (x : Option (AttrView A)) (a : AttrView A) → x ≡ Some a → IsWritable s.types a
      → Shown (Spells (some_attr_term s.types x)) (some_attr_text o s x)
  some_attr-shown x a e w =
      subst (λ z. Shown (Spells (some_attr_term s.types z)) (some_attr_text o s z)) (sym e)
      (attr-shown o.attr_id o.attr_text o.type_id o.type_body_text s.types a w)

  -- the head of a block
  argument_shown : (b : Ptr BlockKind) → IsBlockReadable s b → (i : ℕ) → i < length (arg_types_of s b)
      → Shown (SpellsArgument (argument_term s (record { entity = Block b; index = i })))
      (argument_text o s (record { entity = Block b; index = i }))
  argument_shown b r i lt =
      let v : Value = record { entity = Block b; index = i } in
      argument-shown (argument_term s v) (argument_name_good s b i (r.arguments.names i lt))
      (some_type-shown (slice_get (arg_types_of s b) i) (get_or (arg_types_of s b) i 0)
      (slice_get-get_or (arg_types_of s b) i 0 lt) (r.arguments.types i 0 lt))

  pub block_front-shown : (b : Ptr BlockKind) → IsBlockReadable s b
      → Shown (SpellsBlockHead (block_head_term s b)) (block_front o s b)
  block_front-shown b r =
      block_head-shown _ (map (argument_term s) (arguments_of s b)) (block_name_good s b r.label)
      (arguments-shown (argument_term s) (argument_text o s) (arguments_of s b) (λ v h.
      let p = in_row (λ i. record { entity = Block b; index = i }) 0 (length (arg_types_of s b)) v h in
      subst (λ z. Shown (SpellsArgument (argument_term s z)) (argument_text o s z)) (sym p.2)
      (argument_shown b r p.0 (omega (arith, p.1)))))

  -- a dictionary on a line of its own
  pub dictionary-shown : {F : List Token → Type 0} {more : List ℕ} (n : ℕ) (es : List (List ℕ × AttrView A))
      → AreWritable s.types es → Shown F more → Tail F more
      → Tail (Then (SpellsDictionary (entry_terms s.types (views.entries_of es))) F)
      (32 ∷ (line_of o s.types n es ++ more))
  dictionary-shown n [] w p m = behind_none p
  dictionary-shown n (e ∷ es) w p m =
      behind_dictionary (entry_terms s.types (views.entries_of (e ∷ es))) (n + 2)
      (entries-shown o.attr_id o.attr_text o.type_id o.type_body_text s.types (e ∷ es) w) m

  no_results : (p : Ptr OperationKind) → result_types_of s p ≡ [] → results_text s p ≡ []
  no_results p e =
      ap (λ (hs : List ℕ). let vs = map (λ i. record { entity = Op p; index = i }) (range_with_len 0 (length hs)) in
      names_text s vs ++ equals_behind vs) e

  pub one_result : (p : Ptr OperationKind) (h : ℕ) → result_types_of s p ≡ h ∷ []
      → results_text s p ≡ result_name s p 0 ++ codes " = "
  one_result p h e =
      ap (λ (hs : List ℕ). let vs = map (λ i. record { entity = Op p; index = i }) (range_with_len 0 (length hs)) in
      names_text s vs ++ equals_behind vs) e ∙ ap (λ l. l ++ codes " = ") (append-nil (result_name s p 0))

  -- the text of an operation of a kind, where `below` is that of its regions
  abbrev pub text_by : (n : ℕ) → (below : List ℕ) → Option (OpKind K) → Ptr OperationKind → List ℕ
  text_by n below kind p =
      (results_text s p ++ (header_of o s kind p ++
      (space_behind kind (children s (Operation p)) ++ dictionary_of o s.types kind n (shown o s p)))) ++ below

  pub regroup : (n : ℕ) (header more : List ℕ) (p : Ptr OperationKind) → result_types_of s p ≡ []
      → (results_text s p ++ (header ++ (32 ∷ line_of o s.types n (shown o s p)))) ++ more ≡
      header ++ (32 ∷ (line_of o s.types n (shown o s p) ++ more))
  regroup n header more p e =
      ap (λ z. (z ++ (header ++ (32 ∷ line_of o s.types n (shown o s p)))) ++ more) (no_results p e)
      ∙ append_assoc header (32 ∷ line_of o s.types n (shown o s p)) more

  -- the name of a module or a function
  pub symbol_good : (p : Ptr OperationKind) → IsBodyReadable s p → is_some (name_held (op_at s p)) ≡ true
      → is_identifier (symbol_of s p) ≡ true
  symbol_good p r e =
      (at_key (IsEntryReadable s.types) (attributes_of s p) symbol_key (leaf (views.identifier (symbol_of s p)))
      r.entries (name_there (dict_get (attributes_of s p) symbol_key) e)).1

  -- the type of a function
  pub func_type_there : (p : Ptr OperationKind) → IsBodyReadable s p → is_some (func_type_of s p) ≡ true
      → (h : ℕ) × (func_type_of s p ≡ Some h) × IsWritable {A = A} s.types (leaf (views.type_of h)) ×
      (dict_get (attributes_of s p) func_type_key ≡ Some (leaf (views.type_of h)))
  func_type_there p r e = by (dict_get (attributes_of s p) func_type_key) refl e
    where
      by : (g : Option (AttrView A)) → dict_get (attributes_of s p) func_type_key ≡ g
          → is_some (option_and_then type_in_attr g) ≡ true
          → (h : ℕ) × (option_and_then type_in_attr g ≡ Some h) × IsWritable {A = A} s.types (leaf (views.type_of h)) ×
          (g ≡ Some (leaf (views.type_of h)))
      by None f e = absurd cc
      by (Some x) f e =
          let t = type_there x e in
          let is = ap (λ z. Some z) t.1 in (
            t.0,
            ap (option_and_then type_in_attr) is,
            (at_key (IsEntryReadable s.types) (attributes_of s p)
                func_type_key (leaf (views.type_of t.0)) r.entries (f ∙ is)).1,
            is,
          )
