-- What is read as the reader holds it, and what operations and blocks hold that are made of it.
use Rattle.std.specs.Prelude.{◌≡◌, ℕ, map, List, [], ◌∷◌, Option, is_none, if◌then◌else◌}
use Rattle.std.specs.List.{list_all}
use Rattle.plir_data.specs.AttrView.{AttrView, leaf, identifier, type_of, given_names}
use Rattle.plir_data.specs.Dictionary.{dict_put}
use Rattle.plir_data.specs.Types.{TypeView, IsLive as IsTypeLive}
use Rattle.plir_data.specs.declared.op_set.OpKind.TheVariants as kinds
use Rattle.plir_data.specs.Keys.{func_type_key, names_key, symbol_key, value_key}
use Rattle.plir_core.specs.Contents.{OpView, BlockView, op_view}
use Rattle.plir_attr_text.specs.Names.{Names, NamesAll}
use Rattle.plir_attr_text.specs.Meaning.{IsMeant, IsDictMeant}
use Rattle.plir_attr_text.specs.Terms.{TypeTerm, TypeTerms, types_of, AttrTerm}
use Rattle.plir_read.specs.OpTerms.{Head, module_head, func_head, Header, Argument, BlockHead}
use Rattle.plir_read.specs.Suffixes.{given_name}
use Rattle.plir_read.specs.declared.names.Suffix.TheVariants as Suffix
use Rattle.plir_read.specs.declared.arguments.Arguments.{Arguments}
use Rattle.plir_read.specs.declared.arguments.BlockHeadData.{BlockHeadData}
use Rattle.plir_read.specs.declared.heads.HeadKind.{HeadKind}
use Rattle.plir_read.specs.declared.openings.Opening.{Opening}
use Rattle.plir_read.specs.declared.heads.HeadData.{HeadData}
use Rattle.plir_read.specs.declared.heads.HeadData.TheVariants.{Module, Func}

module _ {T : Type 0} where
  -- the header that is held is the one that is written
  abbrev pub IsHead : List (TypeView T) → HeadData → Head → Type 0
  IsHead types (Module name) (module_head w) = name ≡ w
  IsHead types (Module name) (func_head w t) = ⊥
  IsHead types (Func name handle) (module_head w) = ⊥
  IsHead types (Func name handle) (func_head w t) = (name ≡ w) × Names types handle t

  -- its type is one of the table
  abbrev pub IsHeadLive : List (TypeView T) → HeadData → Type 0
  IsHeadLive types (Module name) = Unit {0}
  IsHeadLive types (Func name handle) = IsTypeLive types handle

-- What a header says wins over the entries of its dictionary.
module _ {A : Type 0} where
  -- the attributes of a module and of a function, by the name, the type, and the entries of the dictionary
  abbrev pub module_attributes : List ℕ → List (List ℕ × AttrView A) → List (List ℕ × AttrView A)
  module_attributes w entries = dict_put entries symbol_key (leaf (identifier w))

  abbrev pub func_attributes : List ℕ → ℕ → List (List ℕ × AttrView A) → List (List ℕ × AttrView A)
  func_attributes w handle entries = dict_put (module_attributes w entries) func_type_key (leaf (type_of handle))

module _ {K A : Type 0} where
  -- what a module and a function hold
  abbrev pub module_op : List ℕ → List (List ℕ × AttrView A) → OpView K A
  module_op w entries = op_view kinds.Module [] [] [] (module_attributes w entries)

  abbrev pub func_op : List ℕ → ℕ → List (List ℕ × AttrView A) → OpView K A
  func_op w handle entries = op_view kinds.Func [] [] [] (func_attributes w handle entries)

  -- what an operation with this header holds
  abbrev pub op_with : HeadData → List (List ℕ × AttrView A) → OpView K A
  op_with (Module name) entries = module_op name entries
  op_with (Func name handle) entries = func_op name handle entries

-- the header that is held is the one that is written
pub record IsHeader {A T : Type 0} (types : List (TypeView T)) (head : HeadData) (entries : List (List ℕ × AttrView A))
    (h : Header) : Type 0 where
  pub head_is : IsHead types head h.0
  pub dictionary : IsDictMeant types h.1 entries

-- the names that are given to results
abbrev pub result_names : List (List ℕ) → List (Option (List ℕ))
result_names ws = map (given_name Suffix.OpResult) ws

-- what an operation begins with, as it is held: the names of results that are written, and what the id names
pub record IsOpening (held : Opening) (written : List (List ℕ) × HeadKind) : Type 0 where
  pub names : held.names.items ≡ result_names written.0
  pub kind : held.kind ≡ written.1

-- the types and the names of arguments
abbrev pub argument_types : List Argument → TypeTerms
argument_types as_ = types_of (map (λ (a : Argument). a.1) as_)

abbrev pub argument_names : List Argument → List (Option (List ℕ))
argument_names as_ = map (λ (a : Argument). given_name Suffix.Argument a.0) as_

-- the attributes of a block whose arguments, or an operation whose results, have these names: none, if no name is set
abbrev pub names_attributes : {A : Type 0} → List (Option (List ℕ)) → List (List ℕ × AttrView A)
names_attributes names = if list_all is_none names then [] else dict_put [] names_key (leaf (given_names names))

-- the value of a constant and the type of its result are those that are written
pub record IsConstant {A T : Type 0} (types : List (TypeView T)) (value : AttrView A) (handle : ℕ)
    (c : AttrTerm × TypeTerm) : Type 0 where
  pub meant : IsMeant types c.0 value
  pub typed : Names types handle c.1

-- what a constant holds, by the names of its result, its value, and the handle of its result's type
module _ {A : Type 0} where
  abbrev pub constant_attributes : List (Option (List ℕ)) → AttrView A → List (List ℕ × AttrView A)
  constant_attributes names value = dict_put (names_attributes names) value_key value

  abbrev pub constant_op : {K : Type 0} → List (Option (List ℕ)) → AttrView A → ℕ → OpView K A
  constant_op names value handle = op_view kinds.Constant (handle ∷ []) [] [] (constant_attributes names value)

-- the argument that is held is the one that is written
abbrev pub IsArgument : {T : Type 0} → List (TypeView T) → Option (List ℕ) × ℕ → Argument → Type 0
IsArgument types held a = (held.0 ≡ given_name Suffix.Argument a.0) × Names types held.1 a.1

-- the arguments that are held are those that are written
pub record AreArguments {T : Type 0} (types : List (TypeView T)) (held : Arguments) (as_ : List Argument) : Type 0 where
  pub typed : NamesAll types held.types.items (argument_types as_)
  pub named : held.names.items ≡ argument_names as_

-- the head of a block that is held is the one that is written
pub record IsBlockHead {T : Type 0} (types : List (TypeView T)) (held : BlockHeadData) (b : BlockHead) : Type 0 where
  pub label : held.label ≡ given_name Suffix.Block b.0
  pub arguments : AreArguments types held.arguments b.1

-- what a block with this head holds
abbrev pub block_with : {A : Type 0} → BlockHeadData → BlockView A
block_with h = record {
  label = h.label;
  arg_types = h.arguments.types.items;
  attributes =
      names_attributes h.arguments.names.items;
}

-- what a block holds by its written head and the handles of its arguments' types
abbrev pub written_block : {A : Type 0} → BlockHead → List ℕ → BlockView A
written_block b handles = record {
  label = given_name Suffix.Block b.0;
  arg_types = handles;
  attributes =
      names_attributes (argument_names b.1);
}
