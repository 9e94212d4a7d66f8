-- A text with spaces for its comments.
use Rattle.std.specs.Prelude.{ℕ, List, chars, cond, is_some, length, map, replicate}
use Rattle.std.specs.List.{join_with_byte}
use Rattle.plir_checks.specs.Lines.{comment_of, lines_of}

-- so many spaces
abbrev pub spaces : ℕ → List ℕ
spaces n = replicate n 32

-- a line, or as many spaces as it has characters if it is a comment
abbrev pub blanked_line : List ℕ → List ℕ
blanked_line line = cond (is_some (comment_of line)) (spaces (length (chars line))) line

-- a text with spaces for each line that is a comment
abbrev pub blanked : List ℕ → List ℕ
blanked text = join_with_byte 10 (map blanked_line (lines_of text))
