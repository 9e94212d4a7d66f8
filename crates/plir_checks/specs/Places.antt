-- Which line a word means.
use Rattle.std.specs.Prelude.{◌+◌, ◌-◌, ◌==◌, ◌&&◌, ℕ, Bool, List, Option, Some, None, codes, cond, drop, length}
use Rattle.std.specs.Prelude.{nat_eq}
use Rattle.std.specs.Prelude.{nat_le, not, option_map}
use Rattle.std.specs.Char.{is_ascii_digit}
use Rattle.std.specs.List.{list_all, starts_with}
use Rattle.std.specs.Str.{bytes_eq}
use Rattle.std.specs.Str.Parse.{digits_value}

-- one to nine digits
abbrev pub are_digits : List ℕ → Bool
are_digits text = (not (length text == 0) && nat_le (length text) 9) && list_all is_ascii_digit text

-- the number that one to nine digits write
abbrev pub number_of : List ℕ → Option ℕ
number_of text = cond (are_digits text) (Some (digits_value 10 text)) None

-- the line that `@+N` or `@-N` means in the line of a number: so many further on or back, and 0 if there is none
abbrev pub line_further : ℕ → List ℕ → Option ℕ
line_further own word =
    cond (starts_with nat_eq word (codes "@+")) (option_map (λ n. own + n) (number_of (drop 2 word)))
    (cond (starts_with nat_eq word (codes "@-")) (option_map (λ n. own - n) (number_of (drop 2 word))) None)

-- The line that a word means in the line of a number: no word that line, `@above` and `@below` those beside it.
abbrev pub line_meant : ℕ → List ℕ → Option ℕ
line_meant own word =
    cond (length word == 0) (Some own)
    (cond (bytes_eq word (codes "@above")) (Some (own - 1))
    (cond (bytes_eq word (codes "@below")) (Some (own + 1)) (line_further own word)))
