-- Names in texts. A name is printed with a suffix that says where its bearer stands, and read without it.
use Rattle.std.specs.Prelude.{ℕ, List, [], ◌∷◌, length, take, drop, Bool, true, false, ◌&&◌, nat_eq, if◌then◌else◌}
use Rattle.std.specs.Prelude.{Option, Some, None, option_map, option_and_then, codes}
use Rattle.std.specs.Str.{bytes_eq}
use Rattle.plir_data.specs.Identifier.{is_digit}
use Rattle.plir_attr_text.specs.Bytes.{begins, past}
use Rattle.plir_read.specs.declared.names.Suffix.{Suffix}
use Rattle.plir_read.specs.declared.names.Suffix.TheVariants.{Block, Argument, OpResult}

-- what stands behind letters
unfoldable pub behind_letters : List ℕ → List ℕ → Option (List ℕ)
behind_letters letters w = if bytes_eq (take (length letters) w) letters then Some (drop (length letters) w) else None

-- what stands behind one digit or more
unfoldable pub behind_digits : List ℕ → Option (List ℕ)
behind_digits w = if begins is_digit w then Some (past is_digit w) else None

-- what stands behind letters and a number
unfoldable pub behind_number : List ℕ → List ℕ → Option (List ℕ)
behind_number letters w = option_and_then behind_digits (behind_letters letters w)

-- what stands behind a pointer, as `block2v1` or `op3v1`
unfoldable pub behind_pointer : (letters : List ℕ) → List ℕ → Option (List ℕ)
behind_pointer letters w = option_and_then (behind_number (codes "v")) (behind_number letters w)

-- what stands behind a pointer, letters and a number, as `block2v1_arg0` or `op3v1_res0`
unfoldable pub behind_place : (letters place : List ℕ) → List ℕ → Option (List ℕ)
behind_place letters place w = option_and_then (behind_number place) (behind_pointer letters w)

abbrev pub is_nothing : Option (List ℕ) → Bool
is_nothing (Some []) = true
is_nothing (Some (b ∷ bs)) = false
is_nothing None = false

-- whether this is a suffix: `block2v1` of a block, `block2v1_arg0` of an argument, `op3v1_res0` of a result
unfoldable pub is_suffix : Suffix → List ℕ → Bool
is_suffix Block w = is_nothing (behind_pointer (codes "block") w)
is_suffix Argument w = is_nothing (behind_place (codes "block") (codes "_arg") w)
is_suffix OpResult w = is_nothing (behind_place (codes "op") (codes "_res") w)

-- whether this is `_` and a suffix
abbrev pub is_joined_suffix : Suffix → List ℕ → Bool
is_joined_suffix kind [] = false
is_joined_suffix kind (b ∷ bs) = nat_eq b 95 && is_suffix kind bs

-- what stands before `_` and a suffix
abbrev pub before_suffix : Suffix → List ℕ → Option (List ℕ)
before_suffix kind [] = None
before_suffix kind (b ∷ bs) = if is_joined_suffix kind (b ∷ bs) then Some [] else option_map (λ w. b ∷ w)
    (before_suffix kind bs)

abbrev pub unless_empty : List ℕ → Option (List ℕ)
unless_empty [] = None
unless_empty (b ∷ bs) = Some (b ∷ bs)

abbrev pub without_suffix : List ℕ → Option (List ℕ) → Option (List ℕ)
without_suffix w None = Some w
without_suffix w (Some front) = unless_empty front

-- The name that is given: what stands before `_` and a suffix, or the whole; a suffix alone gives none.
unfoldable pub given_name : Suffix → List ℕ → Option (List ℕ)
given_name kind w = if is_suffix kind w then None else without_suffix w (before_suffix kind w)
