-- Attributes as they are read.
use Rattle.std.specs.Prelude.{ℕ, zero, suc, ◌-◌, ◌%◌, ◌^◌, List, Bool, true, false, Option, Some, None, Result, Ok, Err}
use Rattle.std.specs.Prelude.{codes, nat_lt, nat_le, if◌then◌else◌}
use Rattle.std.specs.Str.{bytes_eq, is_utf8}
use Rattle.plir_data.specs.{Identifier.is_identifier, declared.types.Signedness.Signedness, Integers.is_width}
use Rattle.plir_attr_text.specs.{Steps.◌>>=◌, Steps.read_as, Strings.string_at}
use Rattle.plir_attr_text.specs.Terms as terms
use Rattle.plir_attr_text.specs.Tokens.{Token, word, digits, signed, quoted, arrow, sign, look}
use Rattle.plir_attr_text.specs.declared.fault.Fault.TheVariants.{Unexpected, TooDeep, IntegerOutOfRange}
use Rattle.plir_attr_text.specs.declared.fault.Fault.TheVariants.{IntegerWidthUnsupported}
use Rattle.plir_attr_text.specs.{Terms.AttrTerm, Terms.attrs_of, Terms.entries_of, Lists.sign_at, Lists.past_sign}
use Rattle.plir_attr_text.specs.{Lists.items_at, TypeReading.word_at, TypeReading.integer_at, TypeReading.type_at}
use Rattle.plir_attr_text.specs.{Levels.level_at, declared.fault.Fault.Fault, declared.attr_words.AttrKind.AttrKind}
use Rattle.plir_attr_text.specs.declared.attr_words.AttrKind.TheVariants as kinds

-- the kind of attribute that an id names
unfoldable pub attr_kind : List ℕ → Result AttrKind Fault
attr_kind w =
    if bytes_eq w (codes "builtin.identifier") then Ok kinds.Identifier
    else if bytes_eq w (codes "builtin.string") then Ok kinds.String
    else if bytes_eq w (codes "builtin.bool") then Ok kinds.Bool
    else if bytes_eq w (codes "builtin.integer") then Ok kinds.Integer
    else if bytes_eq w (codes "builtin.dict") then Ok kinds.Dict
    else if bytes_eq w (codes "builtin.vec") then Ok kinds.Vec
    else if bytes_eq w (codes "builtin.unit") then Ok kinds.Unit
    else if bytes_eq w (codes "builtin.type") then Ok kinds.TypeOf
    else if bytes_eq w (codes "builtin.operand_segment_sizes") then Ok kinds.OperandSegmentSizes
    else if bytes_eq w (codes "builtin.given_names") then Ok kinds.GivenNames
    else Err Unexpected

unfoldable pub attr_head : List ℕ → Result (AttrKind × List ℕ) Fault
attr_head bytes = word_at bytes >>= λ w. attr_kind w.0 >>= λ k. Ok (k, w.1)

unfoldable pub name_at : List ℕ → Result (List ℕ × List ℕ) Fault
name_at bytes = word_at bytes >>= λ w. if is_identifier w.0 then Ok (w.0, w.1) else Err Unexpected

unfoldable pub bool_at : List ℕ → Result (Bool × List ℕ) Fault
bool_at bytes = word_at bytes >>= λ w. if bytes_eq w.0 (codes "true") then Ok (true, w.1)
    else if bytes_eq w.0 (codes "false") then Ok (false, w.1) else Err Unexpected

-- a string
unfoldable pub text_at : List ℕ → Result (List ℕ × List ℕ) Fault
text_at bytes = sign_at 34 bytes >>= λ inside. string_at inside >>= λ s. if is_utf8 s.0 then Ok (s.0, s.1)
    else Err Unexpected

abbrev pub as_size : Token → List ℕ → Result (ℕ × List ℕ) Fault
as_size (digits n) rest = if nat_lt n (2 ^ 32) then Ok (n, rest) else Err IntegerOutOfRange
as_size (word w) rest = Err Unexpected
as_size (signed s n) rest = Err Unexpected
as_size (quoted q) rest = Err Unexpected
as_size arrow rest = Err Unexpected
as_size (sign b) rest = Err Unexpected

-- the size of a segment
unfoldable pub size_at : List ℕ → Result (ℕ × List ℕ) Fault
size_at bytes = look bytes >>= λ t. as_size t.0 t.1

abbrev pub unless_unset : Option (List ℕ) → (set : Result (Option (List ℕ) × List ℕ) Fault) →
    Result (Option (List ℕ) × List ℕ) Fault
unless_unset (Some rest) set = Ok (None, rest)
unless_unset None set = set

-- a given name, or `?`
unfoldable pub given_name_at : List ℕ → Result (Option (List ℕ) × List ℕ) Fault
given_name_at bytes = unless_unset (past_sign 63 bytes) (name_at bytes >>= λ w. Ok (Some w.0, w.1))

-- ---- integers

abbrev pub as_literal : Token → List ℕ → Result ((Bool × ℕ) × List ℕ) Fault
as_literal (digits n) rest = Ok ((false, n), rest)
as_literal (signed s n) rest = Ok ((s, n), rest)
as_literal (word w) rest = Err Unexpected
as_literal (quoted q) rest = Err Unexpected
as_literal arrow rest = Err Unexpected
as_literal (sign b) rest = Err Unexpected

-- a literal: whether it is negative, and its magnitude
unfoldable pub literal_at : List ℕ → Result ((Bool × ℕ) × List ℕ) Fault
literal_at bytes = look bytes >>= λ t. as_literal t.0 t.1

-- the bits of a literal in a width
unfoldable pub bits_of : (negative : Bool) → (magnitude width : ℕ) → Result ℕ Fault
bits_of true m w = if nat_le m (2 ^ (w - 1)) then Ok ((2 ^ w - m) % 2 ^ w) else Err IntegerOutOfRange
bits_of false m w = if nat_lt m (2 ^ w) then Ok m else Err IntegerOutOfRange

unfoldable pub value_of : (negative : Bool) → (magnitude width : ℕ) → Result ℕ Fault
value_of s m w = if is_width w then bits_of s m w else Err IntegerWidthUnsupported

-- a type, which is a level, and the bits of a value of it, with at most n levels in it
unfoldable pub value_at : (n : ℕ) → List ℕ → Result (((Signedness × ℕ) × ℕ) × List ℕ) Fault
value_at n bytes =
    sign_at 60 bytes >>= λ start. literal_at start >>= λ v. sign_at 58 v.1 >>= λ colon. level_at n colon >>=
    λ u. integer_at colon >>= λ t. sign_at 62 t.1 >>= λ end. value_of v.0.0 v.0.1 t.0.1 >>= λ b. Ok ((t.0, b), end)

-- ---- attributes in attributes

-- a key and its attribute
unfoldable pub entry_at : (read : List ℕ → Result (AttrTerm × List ℕ) Fault) → List ℕ →
    Result ((List ℕ × AttrTerm) × List ℕ) Fault
entry_at read bytes = name_at bytes >>= λ k. sign_at 61 k.1 >>= λ behind. read behind >>= λ x. Ok ((k.0, x.0), x.1)

-- what stands behind an id, where at most n levels stand in it, and `read` reads the attributes in it
abbrev pub attr_body : (n : ℕ) → (read : List ℕ → Result (AttrTerm × List ℕ) Fault) → AttrKind → List ℕ →
    Result (AttrTerm × List ℕ) Fault
attr_body n read kinds.Identifier bytes = read_as terms.identifier (name_at bytes)
attr_body n read kinds.String bytes = read_as terms.string (text_at bytes)
attr_body n read kinds.Bool bytes = read_as terms.bool (bool_at bytes)
attr_body n read kinds.Integer bytes = read_as (λ v. terms.integer v.0.0 v.0.1 v.1) (value_at n bytes)
attr_body n read kinds.Dict bytes = read_as (λ es. terms.dict (entries_of es)) (items_at 91 93 (entry_at read) bytes)
attr_body n read kinds.Vec bytes = read_as (λ xs. terms.vec (attrs_of xs)) (items_at 91 93 read bytes)
attr_body n read kinds.Unit bytes = Ok (terms.unit, bytes)
attr_body n read kinds.TypeOf bytes = read_as terms.type (type_at n bytes)
attr_body n read kinds.OperandSegmentSizes bytes = read_as terms.operand_segment_sizes (items_at 91 93 size_at bytes)
attr_body n read kinds.GivenNames bytes = read_as terms.given_names (items_at 91 93 given_name_at bytes)

-- an attribute, with at most n levels open: a word that comes where no level is left begins one that is too deep
unfoldable pub attr_at : (n : ℕ) → List ℕ → Result (AttrTerm × List ℕ) Fault
attr_at zero bytes = word_at bytes >>= λ w. Err TooDeep
attr_at (suc n) bytes = attr_head bytes >>= λ h. attr_body n (attr_at n) h.0 h.1
