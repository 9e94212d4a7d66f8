-- The parts of an input.
use Rattle.std.specs.Prelude.{◌==◌, ℕ, Bool, List, codes, map}
use Rattle.std.specs.List.{join_with_byte, slice_split}
use Rattle.std.specs.Str.{bytes_eq}

-- what stands between the line feeds
abbrev pub lines_of : List ℕ → List (List ℕ)
lines_of bytes = slice_split (λ b. b == 10) bytes

-- a line stands between two parts
abbrev pub is_mark : List ℕ → Bool
is_mark line = bytes_eq line (codes "// -----")

-- The parts: what stands between the lines that are marks, each line but the last of a part with its line feed.
abbrev pub parts_of : List ℕ → List (List ℕ)
parts_of bytes = map (join_with_byte 10) (slice_split is_mark (lines_of bytes))
