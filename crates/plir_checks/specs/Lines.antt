-- The lines of a text, and what comments say.
use Rattle.std.specs.Prelude.{◌==◌, ◌-◌, ℕ, List, [], Option, Some, None, codes, cond, drop, length, nat_eq, take}
use Rattle.std.specs.Char.{is_ascii_whitespace}
use Rattle.std.specs.List.{prefix_len, slice_split, starts_with, suffix_len}
use Rattle.std.specs.Option.{option_and_then}
use denote.Ref.{Bor}

-- what stands between the line feeds
abbrev pub lines_of : List ℕ → List (List ℕ)
lines_of text = slice_split (λ b. b == 10) text

-- the lines that are left: those of what stands behind a line feed, if there was one
abbrev pub lines_left : Option (Bor (List ℕ)) → List (List ℕ)
lines_left None = []
lines_left (Some rest) = lines_of rest.now

-- a text without the blanks before its first other character
abbrev pub behind_blanks : List ℕ → List ℕ
behind_blanks text = drop (prefix_len is_ascii_whitespace text) text

-- a text without the blanks around it
abbrev pub trimmed : List ℕ → List ℕ
trimmed text =
    let rest = behind_blanks text in
    take (length rest - suffix_len is_ascii_whitespace rest) rest

-- what stands behind a word at the front of a text, without the blanks around it
abbrev pub behind_word : List ℕ → List ℕ → Option (List ℕ)
behind_word word text = cond (starts_with nat_eq text word) (Some (trimmed (drop (length word) text))) None

-- what a comment says: what stands behind `//` at the front of the line
abbrev pub comment_of : List ℕ → Option (List ℕ)
comment_of line = behind_word (codes "//") (trimmed line)

-- what a comment says behind a word
abbrev pub said : List ℕ → List ℕ → Option (List ℕ)
said word line = option_and_then (behind_word word) (comment_of line)
