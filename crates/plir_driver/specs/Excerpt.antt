-- A line of a text, and a caret below one of its characters.
use Rattle.std.specs.Prelude.{ℕ, zero, suc, ◌-◌, ◌==◌, false, List, [], ◌∷◌, ◌++◌, cond, codes, chars, take, replicate}
use Rattle.std.specs.Prelude.{unwrap_or}
use Rattle.std.specs.List.{after_first, before_first, flat_map}
use Rattle.unicode_width.specs.Width.{char_width}

-- what stands before the first line feed
abbrev pub first_line : List ℕ → List ℕ
first_line text = before_first (λ b. b == 10) text

-- what stands behind so many line feeds; nothing, where there are fewer
abbrev pub behind : ℕ → List ℕ → List ℕ
behind zero text = text
behind (suc feeds) text = behind feeds (after_first (λ b. b == 10) text)

-- so many spaces
abbrev pub spaces : ℕ → List ℕ
spaces n = replicate n 32

-- How many columns a terminal gives a character: none to one that is put over the one before it, two to a wide one, as
-- Unicode has it outside East Asian texts. A control character counts one.
abbrev pub columns_of : ℕ → ℕ
columns_of c = unwrap_or (char_width false c) 1

-- below a tab stands a tab, below any other character as many spaces as it has columns
abbrev pub below : ℕ → List ℕ
below c = cond (c == 9) (9 ∷ []) (spaces (columns_of c))

-- The line of a number from 1, and on the next line a caret below the character of a number from 1.
abbrev pub excerpt_of : (text : List ℕ) → (line column : ℕ) → List ℕ
excerpt_of text line column =
    let shown = first_line (behind (line - 1) text) in
    shown ++ (codes "\n" ++ (flat_map below (take (column - 1) (chars shown)) ++ codes "^\n"))
