-- Kinds of bytes, and fronts of texts.
use Rattle.std.specs.Prelude.{ℕ, ◌+◌, ◌-◌, ◌*◌, List, [], ◌∷◌, Bool, true, false, ◌||◌, ◌&&◌, nat_eq, nat_le}
use Rattle.std.specs.Prelude.{if◌then◌else◌}
use Rattle.plir_data.specs.Identifier.{is_between, is_letter, is_digit}

-- space, tab, line feed or carriage return
abbrev pub is_blank : ℕ → Bool
is_blank b = nat_eq b 32 || (nat_eq b 9 || (nat_eq b 10 || nat_eq b 13))

-- a letter, a digit or `_`
abbrev pub is_in_name : ℕ → Bool
is_in_name b = is_letter b || is_digit b

-- the same, or `.`
abbrev pub is_in_word : ℕ → Bool
is_in_word b = is_letter b || (is_digit b || nat_eq b 46)

-- a hexadecimal digit
abbrev pub is_hex : ℕ → Bool
is_hex b = is_digit b || (is_between 97 102 b || is_between 65 70 b)

-- the longest front whose bytes all pass
abbrev pub front : (ℕ → Bool) → List ℕ → List ℕ
front p [] = []
front p (b ∷ bs) = if p b then b ∷ front p bs else []

-- what stands behind that front
abbrev pub past : (ℕ → Bool) → List ℕ → List ℕ
past p [] = []
past p (b ∷ bs) = if p b then past p bs else b ∷ bs

-- the first byte passes
abbrev pub begins : (ℕ → Bool) → List ℕ → Bool
begins p [] = false
begins p (b ∷ bs) = p b

-- a point, and a name behind it
abbrev pub is_point : ℕ → List ℕ → Bool
is_point b bs = nat_eq b 46 && begins is_letter bs

-- What a word goes on with: letters, digits and `_`, and one `.` among them with a name behind it, as an id has it.
abbrev pub word_front : List ℕ → List ℕ
word_front [] = []
word_front (b ∷ bs) = if is_in_name b then b ∷ word_front bs else if is_point b bs then b ∷ front is_in_name bs else []

-- what stands behind that
abbrev pub word_past : List ℕ → List ℕ
word_past [] = []
word_past (b ∷ bs) = if is_in_name b then word_past bs else if is_point b bs then past is_in_name bs else b ∷ bs

-- what stands behind the first byte
abbrev pub tail_of : List ℕ → List ℕ
tail_of [] = []
tail_of (b ∷ bs) = bs

abbrev pub all_pass : (ℕ → Bool) → List ℕ → Bool
all_pass p [] = true
all_pass p (b ∷ bs) = p b && all_pass p bs

-- one digit or more
abbrev pub is_digits : List ℕ → Bool
is_digits bs = begins is_digit bs && all_pass is_digit bs

-- the number that digits write behind those of n
abbrev pub value_after : ℕ → List ℕ → ℕ
value_after n [] = n
value_after n (d ∷ ds) = value_after (10 * n + (d - 48)) ds

-- what a hexadecimal digit counts
abbrev pub hex_value : ℕ → ℕ
hex_value b = if nat_le b 57 then b - 48 else if nat_le b 70 then b - 55 else b - 87

-- the number that hexadecimal digits write behind those of n
abbrev pub hex_after : ℕ → List ℕ → ℕ
hex_after n [] = n
hex_after n (d ∷ ds) = hex_after (16 * n + hex_value d) ds
