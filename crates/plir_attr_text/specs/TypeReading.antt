-- Types as they are read.
use Rattle.std.specs.Prelude.{ℕ, zero, suc, ◌^◌, List, [], ◌∷◌, Result, Ok, Err, codes, nat_eq, nat_lt, if◌then◌else◌}
use Rattle.std.specs.Str.{bytes_eq}
use Rattle.plir_data.specs.declared.types.Signedness.TheVariants.{Signed, Unsigned, Signless}
use Rattle.plir_data.specs.{Identifier.is_digit, declared.types.Signedness.Signedness}
use Rattle.plir_attr_text.specs.Bytes.{front, begins, all_pass, value_after}
use Rattle.plir_attr_text.specs.Terms.{TypeTerm, integer_type, function_type, unit_type, TypeTerms, types_of}
use Rattle.plir_attr_text.specs.Tokens.{Token, word, digits, signed, quoted, arrow, sign, look}
use Rattle.plir_attr_text.specs.declared.fault.Fault.TheVariants.{Unexpected, TooDeep, IntegerOutOfRange}
use Rattle.plir_attr_text.specs.declared.words.TypeKind.{TypeKind}
use Rattle.plir_attr_text.specs.declared.words.TypeKind.TheVariants.{Integer, Function, Unit}
use Rattle.plir_attr_text.specs.{Steps.◌>>=◌, Lists.sign_at, Lists.items_at, declared.fault.Fault.Fault}

abbrev pub as_word : Token → List ℕ → Result (List ℕ × List ℕ) Fault
as_word (word w) rest = Ok (w, rest)
as_word (digits n) rest = Err Unexpected
as_word (signed s n) rest = Err Unexpected
as_word (quoted q) rest = Err Unexpected
as_word arrow rest = Err Unexpected
as_word (sign b) rest = Err Unexpected

unfoldable pub word_at : List ℕ → Result (List ℕ × List ℕ) Fault
word_at bytes = look bytes >>= λ t. as_word t.0 t.1

abbrev pub as_arrow : Token → List ℕ → Result (List ℕ) Fault
as_arrow arrow rest = Ok rest
as_arrow (word w) rest = Err Unexpected
as_arrow (digits n) rest = Err Unexpected
as_arrow (signed s n) rest = Err Unexpected
as_arrow (quoted q) rest = Err Unexpected
as_arrow (sign b) rest = Err Unexpected

unfoldable pub arrow_at : List ℕ → Result (List ℕ) Fault
arrow_at bytes = look bytes >>= λ t. as_arrow t.0 t.1

-- the kind of type that an id names
unfoldable pub type_kind : List ℕ → Result TypeKind Fault
type_kind w = if bytes_eq w (codes "builtin.integer") then Ok Integer else if bytes_eq w (codes "builtin.function")
    then Ok Function else if bytes_eq w (codes "builtin.unit") then Ok Unit else Err Unexpected

-- digits of a width, that fill their word
unfoldable pub width_of : Signedness → List ℕ → Result (Signedness × ℕ) Fault
width_of s ds =
    if begins is_digit ds then (if nat_lt (value_after 0 (front is_digit ds)) (2 ^ 32)
    then (if all_pass is_digit ds then Ok (s, value_after 0 (front is_digit ds)) else Err Unexpected)
    else Err IntegerOutOfRange)
    else Err Unexpected

-- a word that is `si`, `ui` or `i` and a width
unfoldable pub integer_of : List ℕ → Result (Signedness × ℕ) Fault
integer_of [] = Err Unexpected
integer_of (a ∷ []) = Err Unexpected
integer_of (a ∷ b ∷ ds) =
    if nat_eq a 105 then width_of Signless (b ∷ ds)
    else if nat_eq b 105 then (if nat_eq a 115 then width_of Signed ds else if nat_eq a 117 then width_of Unsigned ds
    else Err Unexpected)
    else Err Unexpected

-- an integer type behind its id
unfoldable pub integer_at : List ℕ → Result ((Signedness × ℕ) × List ℕ) Fault
integer_at bytes = word_at bytes >>= λ w. integer_of w.0 >>= λ t. Ok (t, w.1)

-- a function type behind its id, where `read` reads the types in it
unfoldable pub function_at : (read : List ℕ → Result (TypeTerm × List ℕ) Fault) → List ℕ →
    Result ((TypeTerms × TypeTerms) × List ℕ) Fault
function_at read bytes =
    sign_at 60 bytes >>= λ start. items_at 40 41 read start >>= λ as_. arrow_at as_.1 >>=
    λ behind. items_at 40 41 read behind >>= λ rs. sign_at 62 rs.1 >>= λ end. Ok (
      (types_of as_.0, types_of rs.0),
      end,
    )

unfoldable pub type_head : List ℕ → Result (TypeKind × List ℕ) Fault
type_head bytes = word_at bytes >>= λ w. type_kind w.0 >>= λ k. Ok (k, w.1)

-- what stands behind an id
abbrev pub type_body : (read : List ℕ → Result (TypeTerm × List ℕ) Fault) → TypeKind → List ℕ →
    Result (TypeTerm × List ℕ) Fault
type_body read Integer bytes = integer_at bytes >>= λ x. Ok (integer_type x.0.0 x.0.1, x.1)
type_body read Function bytes = function_at read bytes >>= λ x. Ok (function_type x.0.0 x.0.1, x.1)
type_body read Unit bytes = Ok (unit_type, bytes)

-- a type, with at most n levels open: a word that comes where no level is left begins one that is too deep
unfoldable pub type_at : (n : ℕ) → List ℕ → Result (TypeTerm × List ℕ) Fault
type_at zero bytes = word_at bytes >>= λ w. Err TooDeep
type_at (suc n) bytes = type_head bytes >>= λ h. type_body (type_at n) h.0 h.1
