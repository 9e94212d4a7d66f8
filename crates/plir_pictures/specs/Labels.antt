-- Texts as the labels of a graph have them.
use Rattle.std.specs.Prelude.{ℕ, List, [], ◌∷◌, ◌++◌, nat_eq, nat_lt, if◌then◌else◌, codes, encode_utf8}

-- A byte of a label: `&`, `<` and `>` by their names in HTML, a line feed as a new line, any other as itself.
abbrev pub mark_of : ℕ → List ℕ
mark_of b =
    if nat_eq b 38 then codes "&amp;"
    else if nat_eq b 60 then codes "&lt;"
    else if nat_eq b 62 then codes "&gt;"
    else if nat_eq b 10 then codes "<br/>"
    else b ∷ []

-- a text as a label
abbrev pub label_text : List ℕ → List ℕ
label_text [] = []
label_text (b ∷ bs) = mark_of b ++ label_text bs

-- the same of a character
abbrev pub mark_of_char : ℕ → List ℕ
mark_of_char c = if nat_lt c 128 then mark_of c else encode_utf8 c
