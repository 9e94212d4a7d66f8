-- What an identifier is.
use Rattle.std.specs.Prelude.{ℕ, List, [], ◌∷◌, Bool, false, ◌||◌, ◌&&◌, nat_eq, nat_le}
use Rattle.std.specs.List.{list_all}

-- a byte from low to high
abbrev pub is_between : ℕ → ℕ → ℕ → Bool
is_between low high b = nat_le low b && nat_le b high

-- an ASCII letter or `_`
abbrev pub is_letter : ℕ → Bool
is_letter b = is_between 97 122 b || (is_between 65 90 b || nat_eq b 95)

-- an ASCII digit
abbrev pub is_digit : ℕ → Bool
is_digit b = is_between 48 57 b

-- letters, digits and `_`
abbrev pub all_in_identifier : List ℕ → Bool
all_in_identifier bs = list_all (λ b. is_letter b || is_digit b) bs

-- a letter or `_`, and then letters, digits and `_`
abbrev pub is_identifier : List ℕ → Bool
is_identifier [] = false
is_identifier (b ∷ bs) = is_letter b && all_in_identifier bs
