-- Strings: what stands between two `"`, with escapes.
use Rattle.std.specs.Prelude.{ℕ, zero, suc, List, [], ◌∷◌, ◌++◌, length, Bool, ◌&&◌, nat_eq, nat_le, nat_lt, ◌||◌, ◌≡◌}
use Rattle.std.specs.Prelude.{Option, Some, None, Result, Ok, Err, if◌then◌else◌, encode_utf8}
use Rattle.std.specs.List.{concat}
use Rattle.plir_attr_text.specs.Bytes.{is_hex, front, past, hex_after}
use Rattle.plir_attr_text.specs.declared.fault.Fault.TheVariants.{Unexpected, BadEscape}
use Rattle.plir_attr_text.specs.{Steps.◌>>=◌, declared.fault.Fault.Fault}

-- the number of a character
abbrev pub is_scalar : ℕ → Bool
is_scalar n = nat_lt n 55296 || (nat_le 57344 n && nat_lt n 1114112)

-- one to six hexadecimal digits that write the number of a character
abbrev pub is_code : List ℕ → Bool
is_code ds = nat_le 1 (length ds) && (nat_le (length ds) 6 && is_scalar (hex_after 0 ds))

-- the `}` behind hexadecimal digits
abbrev pub closed_code : List ℕ → List ℕ → Result (ℕ × List ℕ) Fault
closed_code ds [] = Err Unexpected
closed_code ds (b ∷ bs) = if nat_eq b 125 && is_code ds then Ok (hex_after 0 ds, bs) else Err BadEscape

-- what stands behind `\u`
unfoldable pub code_at : List ℕ → Result (ℕ × List ℕ) Fault
code_at [] = Err Unexpected
code_at (b ∷ bs) = if nat_eq b 123 then closed_code (front is_hex bs) (past is_hex bs) else Err BadEscape

-- what stands behind a `\`: the character that is meant, and what stands behind it
unfoldable pub escape_at : List ℕ → Result (ℕ × List ℕ) Fault
escape_at [] = Err Unexpected
escape_at (b ∷ bs) =
    if nat_eq b 34 then Ok (34, bs)
    else if nat_eq b 92 then Ok (92, bs)
    else if nat_eq b 110 then Ok (10, bs)
    else if nat_eq b 116 then Ok (9, bs)
    else if nat_eq b 114 then Ok (13, bs)
    else if nat_eq b 48 then Ok (0, bs)
    else if nat_eq b 117 then code_at bs
    else Err BadEscape

-- one step in a string: the bytes that are meant, or none at the `"` that ends it
unfoldable pub unit_at : List ℕ → Result (Option (List ℕ) × List ℕ) Fault
unit_at [] = Err Unexpected
unit_at (b ∷ bs) =
    if nat_eq b 34 then Ok (None, bs)
    else if nat_eq b 92 then (escape_at bs >>= λ x. Ok (Some (encode_utf8 x.0), x.1))
    else Ok (Some (b ∷ []), bs)

-- The text begins with these units and the `"` that ends them, and rest is what stands behind it.
abbrev pub AreUnits : List ℕ → List (List ℕ) → List ℕ → Type 0
AreUnits bytes [] rest = unit_at bytes ≡ Ok (None, rest)
AreUnits bytes (u ∷ us) rest = (more : List ℕ) × (unit_at bytes ≡ Ok (Some u, more)) × AreUnits more us rest

-- q is what is quoted behind a `"`, up to the one that ends it, and rest is what stands behind that.
abbrev pub IsQuoted : List ℕ → List ℕ → List ℕ → Type 0
IsQuoted bytes q rest = (us : List (List ℕ)) × (concat us ≡ q) × AreUnits bytes us rest

-- What a reader makes of it, step by step.

-- bytes before what is quoted
abbrev pub behind : List ℕ → Result (List ℕ × List ℕ) Fault → Result (List ℕ × List ℕ) Fault
behind front read = read >>= λ x. Ok (front ++ x.0, x.1)

abbrev pub onward : (List ℕ → Result (List ℕ × List ℕ) Fault) → Option (List ℕ) → List ℕ →
    Result (List ℕ × List ℕ) Fault
onward read None rest = Ok ([], rest)
onward read (Some front) rest = behind front (read rest)

-- what is quoted up to the `"`, in less than n steps, and what stands behind that
unfoldable pub content_at : ℕ → List ℕ → Result (List ℕ × List ℕ) Fault
content_at zero bytes = Err Unexpected
content_at (suc n) bytes = unit_at bytes >>= λ u. onward (content_at n) u.0 u.1

-- what is quoted behind a `"`
unfoldable pub string_at : List ℕ → Result (List ℕ × List ℕ) Fault
string_at bytes = content_at (suc (length bytes)) bytes
