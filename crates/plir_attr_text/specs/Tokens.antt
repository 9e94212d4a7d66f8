-- A text as tokens, with white space between them.
use Rattle.std.specs.Prelude.{◌≡◌, ℕ, List, [], ◌∷◌, Bool, ◌||◌, ◌&&◌, nat_eq, Result, Ok, Err, if◌then◌else◌}
use Rattle.plir_data.specs.Identifier.{is_letter, is_digit}
use Rattle.plir_attr_text.specs.Bytes.{is_blank, front, past, word_front, word_past, begins, tail_of, value_after}
use Rattle.plir_attr_text.specs.declared.fault.Fault.TheVariants.{Unexpected}
use Rattle.plir_attr_text.specs.{Strings.IsQuoted, declared.fault.Fault.Fault}

pub data Token : Type 0 where
  -- an identifier, an id, or the letters and digits of an integer type
  word : List ℕ → Token
  -- digits, by the number that they write
  digits : ℕ → Token
  -- a `+` or `-` and, at once behind it, digits
  signed : (negative : Bool) (magnitude : ℕ) → Token
  -- a string, by what is quoted
  quoted : List ℕ → Token
  -- `->`
  arrow : Token
  -- any other character, that stands for itself
  sign : ℕ → Token

abbrev pub is_mark : ℕ → Bool
is_mark b = nat_eq b 45 || nat_eq b 43

abbrev pub number_of : List ℕ → ℕ
number_of bytes = value_after 0 (front is_digit bytes)

-- The token that begins at the first byte, and what stands behind it. A string begins as the sign `"`. A second point
-- in a word is a sign behind it, and so is one with no name behind it.
abbrev pub token_at : List ℕ → Result (Token × List ℕ) Fault
token_at [] = Err Unexpected
token_at (b ∷ bs) =
    if is_letter b then Ok (word (b ∷ word_front bs), word_past bs)
    else if is_digit b then Ok (digits (number_of (b ∷ bs)), past is_digit (b ∷ bs))
    else if is_mark b && begins is_digit bs then Ok (signed (nat_eq b 45) (number_of bs), past is_digit bs)
    else if nat_eq b 45 && begins (λ c. nat_eq c 62) bs then Ok (arrow, tail_of bs)
    else Ok (sign b, bs)

-- the first token of a text, behind white space, as it is seen before a string is looked into
unfoldable pub look : List ℕ → Result (Token × List ℕ) Fault
look bytes = token_at (past is_blank bytes)

-- the token stands first in the text, and rest is what stands behind it
abbrev pub Takes : List ℕ → Token → List ℕ → Type 0
Takes bytes (quoted q) rest = (inside : List ℕ) × (look bytes ≡ Ok (sign 34, inside)) × IsQuoted inside q rest
Takes bytes (word w) rest = look bytes ≡ Ok (word w, rest)
Takes bytes (digits n) rest = look bytes ≡ Ok (digits n, rest)
Takes bytes (signed s n) rest = look bytes ≡ Ok (signed s n, rest)
Takes bytes arrow rest = look bytes ≡ Ok (arrow, rest)
Takes bytes (sign b) rest = look bytes ≡ Ok (sign b, rest)

-- these tokens stand first in the text, and rest is what stands behind them
abbrev pub Begins : List ℕ → List Token → List ℕ → Type 0
Begins bytes [] rest = bytes ≡ rest
Begins bytes (t ∷ ts) rest = (more : List ℕ) × Takes bytes t more × Begins more ts rest

-- the text is these tokens, with white space around them
pub record IsTokens (bytes : List ℕ) (ts : List Token) : Type 0 where
  pub rest : List ℕ
  pub begins : Begins bytes ts rest
  pub blank : past is_blank rest ≡ []
