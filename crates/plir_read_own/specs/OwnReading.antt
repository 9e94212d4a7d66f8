-- Headers of own operations as they are read.
use Rattle.std.specs.Prelude.{ℕ, suc, List, [], length, Option, Some, None, Result, Ok, Err, nat_eq, if◌then◌else◌}
use Rattle.plir_attr_text.specs.Steps.{◌>>=◌, read_as}
use Rattle.plir_attr_text.specs.Lists.{sign_at, separator_at, more_at, items_at}
use Rattle.plir_attr_text.specs.Terms.{EntryTerms, entries_of}
use Rattle.plir_attr_text.specs.TypeReading.{word_at, function_at, type_at}
use Rattle.plir_attr_text.specs.AttrReading.{name_at, entry_at, attr_at}
use Rattle.plir_attr_text.specs.declared.fault.Fault.{Fault}
use Rattle.plir_attr_text.specs.declared.fault.Fault.TheVariants.{Unexpected, NResultsVerifyErr}
use Rattle.plir_read_own.specs.OwnTerms.{Uses, Signature, num_types, Header}
use Rattle.plir_read_own.specs.OwnGrammar.{has_point}
use Rattle.plir_read_own.specs.declared.uses.NameList.{NameList}
use Rattle.plir_read_own.specs.declared.uses.NameList.TheVariants.{Operands, Successors}

-- ---- names of results, and the id

-- names with commas between them, up to `=`
unfoldable pub names_at : List ℕ → Result (List (List ℕ) × List ℕ) Fault
names_at bytes = more_at (separator_at 61) name_at (suc (length bytes)) bytes

abbrev pub if_name : List ℕ → Result (List ℕ × List ℕ) Fault → Result (List (List ℕ) × List ℕ) Fault
if_name bytes (Ok w) = names_at bytes
if_name bytes (Err f) = Ok ([], bytes)

-- the names that stand before an id, if a name comes first
unfoldable pub names_before : List ℕ → Result (List (List ℕ) × List ℕ) Fault
names_before bytes = if_name bytes (name_at bytes)

module _ {K : Type 0} (find : List ℕ → Option K) where
  abbrev pub if_found : Option K → Result K Fault
  if_found (Some k) = Ok k
  if_found None = Err Unexpected

  -- the kind that a word names
  unfoldable pub kind_of : List ℕ → Result K Fault
  kind_of w = if has_point w then if_found (find w) else Err Unexpected

  unfoldable pub kind_at : List ℕ → Result (K × List ℕ) Fault
  kind_at bytes = word_at bytes >>= λ w. kind_of w.0 >>= λ k. Ok (k, w.1)

  -- names of results, and the id of a kind
  unfoldable pub opening_at : List ℕ → Result ((List (List ℕ) × K) × List ℕ) Fault
  opening_at bytes = names_before bytes >>= λ ns. kind_at ns.1 >>= λ k. Ok ((ns.0, k.0), k.1)

-- ---- operands and successors

-- `^label`
unfoldable pub label_at : List ℕ → Result (List ℕ × List ℕ) Fault
label_at bytes = sign_at 94 bytes >>= λ start. name_at start

-- one name of a list, and the brackets around the list
abbrev pub listed_at : NameList → List ℕ → Result (List ℕ × List ℕ) Fault
listed_at Operands bytes = name_at bytes
listed_at Successors bytes = label_at bytes

abbrev pub opening_of : NameList → ℕ
opening_of Operands = 40
opening_of Successors = 91

abbrev pub closing_of : NameList → ℕ
closing_of Operands = 41
closing_of Successors = 93

-- names in a list
unfoldable pub list_at : NameList → List ℕ → Result (List (List ℕ) × List ℕ) Fault
list_at list bytes = items_at (opening_of list) (closing_of list) (listed_at list) bytes

-- `(operand, operand) [^label, ^label]`
unfoldable pub uses_at : List ℕ → Result (Uses × List ℕ) Fault
uses_at bytes = list_at Operands bytes >>= λ os. list_at Successors os.1 >>=
    λ ss. Ok (record { operands = os.0; successors = ss.0 }, ss.1)

-- ---- attributes and types

-- `<(TYPE, TYPE)->(TYPE)>`, with at most n levels in it
unfoldable pub signature_at : (n : ℕ) → List ℕ → Result (Signature × List ℕ) Fault
signature_at n bytes = read_as (λ t. record { operand_types = t.0; result_types = t.1 }) (function_at (type_at n) bytes)

-- `[key = ATTR, key = ATTR]`, with at most n levels in it
unfoldable pub entries_at : (n : ℕ) → List ℕ → Result (EntryTerms × List ℕ) Fault
entries_at n bytes = read_as entries_of (items_at 91 93 (entry_at (attr_at n)) bytes)

-- `[key = ATTR, key = ATTR]: <(TYPE, TYPE)->(TYPE)>`, with at most n levels in it
unfoldable pub typed_at : (n : ℕ) → List ℕ → Result ((EntryTerms × Signature) × List ℕ) Fault
typed_at n bytes = entries_at n bytes >>= λ es. sign_at 58 es.1 >>= λ colon. signature_at n colon >>=
    λ t. Ok ((es.0, t.0), t.1)

-- ---- headers

-- as many types as operands, and as many names as results
unfoldable pub as_many_types : (operands types : ℕ) → Result (Unit {0}) Fault
as_many_types operands types = if nat_eq operands types then Ok tt else Err Unexpected

unfoldable pub as_many_names : (results names : ℕ) → Result (Unit {0}) Fault
as_many_names results names = if nat_eq results names then Ok tt else Err (NResultsVerifyErr results names)

-- the numbers of a header are right
unfoldable pub counted : (names : List (List ℕ)) → Uses → Signature → Result (Unit {0}) Fault
counted names u t = as_many_types (length u.operands) (num_types t.operand_types) >>=
    λ v. as_many_names (num_types t.result_types) (length names)

module _ {K : Type 0} (find : List ℕ → Option K) where
  -- A header, with at most n levels in it. The numbers of types are looked at when all is read.
  unfoldable pub header_at : (n : ℕ) → List ℕ → Result (Header K × List ℕ) Fault
  header_at n bytes = opening_at find bytes >>= λ o. uses_at o.1 >>= λ u. typed_at n u.1 >>=
      λ t. counted o.0.0 u.0 t.0.1 >>= λ v. Ok (
        record { names = o.0.0; kind = o.0.1; uses = u.0; entries = t.0.0; signature = t.0.1 },
        t.1,
      )
