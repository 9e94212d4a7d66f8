-- What stands before and behind the first place of a word in a text.
use Rattle.std.specs.Prelude.{ℕ, Bool, List, [], ◌∷◌, Option, Some, None, cond, drop, is_some, length, nat_eq}
use Rattle.std.specs.Prelude.{option_map}
use Rattle.std.specs.List.{starts_with}

-- what stands before the first place of a word in a text, and what stands behind it
abbrev pub cut_at : List ℕ → List ℕ → Option (List ℕ × List ℕ)
cut_at word [] = cond (starts_with nat_eq [] word) (Some ([], [])) None
cut_at word (b ∷ bs) =
    cond (starts_with nat_eq (b ∷ bs) word) (Some ([], drop (length word) (b ∷ bs)))
    (option_map (λ p. (b ∷ p.0, p.1)) (cut_at word bs))

-- a text has a word in it
abbrev pub has_word : List ℕ → List ℕ → Bool
has_word word text = is_some (cut_at word text)
