-- The attributes that the text of an operation shows.
use Rattle.std.specs.Prelude.{ℕ, Bool, false, ◌||◌, not, List, ◌++◌, codes, Option, Some}
use Rattle.std.specs.List.{filter}
use Rattle.std.specs.Str.{bytes_eq}
use Rattle.plir_data.specs.AttrCalls.{is_outlined}
use Rattle.plir_data.specs.AttrView.{AttrView}
use Rattle.plir_data.specs.Types.{TypeView}
use Rattle.plir_data.specs.declared.op_set.OpKind.{OpKind}
use Rattle.plir_data.specs.declared.op_set.OpKind.TheVariants.{Module, Func}
use Rattle.plir_data.specs.declared.op_set.OpSet as op_set
use Rattle.plir_data.specs.Keys.{func_type_key, symbol_key}
use Rattle.plir_core.specs.declared.ptr.Ptr.{Ptr}
use Rattle.plir_core.specs.declared.ptr.Operation.{Operation as OperationKind}
use Rattle.plir_core.specs.ContextView.{ContextView, attributes_of, kind_of}
use Rattle.plir_attr_text.specs.OpSetTexts.{pair_text}
use Rattle.plir_data.specs.TextParts.{parted}

-- whether the attribute under a key stands in the header, of an operation of a kind that has its dictionary apart
abbrev pub is_in_header : {K : Type 0} → Option (OpKind K) → (key : List ℕ) → Bool
is_in_header (Some Module) key = bytes_eq key symbol_key
is_in_header (Some Func) key = bytes_eq key symbol_key || bytes_eq key func_type_key
is_in_header _ key = false

module _ {D K A T E : Type 0} (o : op_set.Ghosts D K A T E) where
  -- whether an entry is shown: it neither stands in the header nor is outlined
  abbrev pub is_shown : Option (OpKind K) → List ℕ × AttrView A → Bool
  is_shown kind e = not (is_in_header kind e.0 || is_outlined o.attr_outlined e.1)

  -- the entries that are shown
  abbrev pub shown_of : Option (OpKind K) → List (List ℕ × AttrView A) → List (List ℕ × AttrView A)
  shown_of kind es = filter (is_shown kind) es

  -- the attributes of an operation that are shown
  abbrev pub shown : ContextView K A T → Ptr OperationKind → List (List ℕ × AttrView A)
  shown s p = shown_of (kind_of s p) (attributes_of s p)

  module _ (types : List (TypeView T)) where
    -- keys with their attributes, as the text of an attribute has them
    abbrev pub entries_text : List (List ℕ × AttrView A) → List ℕ
    entries_text es = parted (codes ", ") (pair_text o types) es

    -- the entries of an operation of a kind that are shown
    abbrev pub shown_text : OpKind K → List (List ℕ × AttrView A) → List ℕ
    shown_text kind es = entries_text (shown_of (Some kind) es)

    -- entries in brackets
    abbrev pub dictionary_text : List (List ℕ × AttrView A) → List ℕ
    dictionary_text es = codes "[" ++ (entries_text es ++ codes "]")

  abbrev pub dictionary : ContextView K A T → Ptr OperationKind → List ℕ
  dictionary s p = dictionary_text s.types (shown s p)
