-- A line has a text, where each run of blanks counts as one space.
use Rattle.std.specs.Prelude.{ℕ, Bool, true, false, List, [], ◌∷◌, ◌||◌, cond, nat_eq}
use Rattle.std.specs.Char.{is_ascii_whitespace}
use Rattle.std.specs.List.{starts_with}

-- a text with one space for each run of blanks, but for blanks at its front if it stands behind one
abbrev pub squeezed_behind : Bool → List ℕ → List ℕ
squeezed_behind behind_blank [] = []
squeezed_behind behind_blank (b ∷ bs) =
    cond (is_ascii_whitespace b)
    (cond behind_blank (squeezed_behind true bs) (32 ∷ squeezed_behind true bs))
    (b ∷ squeezed_behind false bs)

-- a text with one space for each run of blanks
abbrev pub squeezed : List ℕ → List ℕ
squeezed bs = squeezed_behind false bs

-- a line begins with a text, where each run of blanks counts as one space in both
abbrev pub begins : List ℕ → List ℕ → Bool
begins line text = starts_with nat_eq (squeezed line) (squeezed text)

-- a line, from some place on, begins with a text, where each run of blanks counts as one space in both
abbrev pub has_text : List ℕ → List ℕ → Bool
has_text [] text = begins [] text
has_text (b ∷ bs) text = begins (b ∷ bs) text || has_text bs text
