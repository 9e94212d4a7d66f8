-- Strings and lists as they are printed.
use Rattle.std.specs.Prelude.{ℕ, ◌+◌, ◌/◌, ◌%◌, List, [], ◌∷◌, ◌++◌, Bool, ◌||◌, nat_eq, nat_lt, if◌then◌else◌, codes}
use Rattle.std.specs.Prelude.{Option, Some, None, encode_utf8}

-- a hexadecimal digit, in lower case
abbrev pub hex_digit : ℕ → ℕ
hex_digit n = if nat_lt n 10 then 48 + n else 87 + n

-- a number below 256 in hexadecimal digits, without leading zeros
abbrev pub hex : ℕ → List ℕ
hex n = if nat_lt n 16 then hex_digit n ∷ [] else hex_digit (n / 16) ∷ hex_digit (n % 16) ∷ []

-- a character that has no sign of its own
abbrev pub is_control : ℕ → Bool
is_control b = nat_lt b 32 || nat_eq b 127

-- A byte of a string: `"`, `\`, line feed, tab, carriage return and NUL by their short escapes, other control
-- characters by their number, any other as itself.
abbrev pub escape : ℕ → List ℕ
escape b =
    if nat_eq b 34 then codes "\\\""
    else if nat_eq b 92 then codes "\\\\"
    else if nat_eq b 10 then codes "\\n"
    else if nat_eq b 9 then codes "\\t"
    else if nat_eq b 13 then codes "\\r"
    else if nat_eq b 0 then codes "\\0"
    else if is_control b then codes "\\u{" ++ (hex b ++ codes "}")
    else b ∷ []

abbrev pub escaped : List ℕ → List ℕ
escaped [] = []
escaped (b ∷ bs) = escape b ++ escaped bs

-- the same of a character
abbrev pub escape_char : ℕ → List ℕ
escape_char c = if nat_lt c 128 then escape c else encode_utf8 c

-- a string with its quotes
abbrev pub quotation : List ℕ → List ℕ
quotation s = codes "\"" ++ (escaped s ++ codes "\"")

-- a given name, or `?`
abbrev pub name_or_mark : Option (List ℕ) → List ℕ
name_or_mark (Some w) = w
name_or_mark None = codes "?"
