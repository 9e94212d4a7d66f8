-- Names that references lead to: as many, and one by one.
use Rattle.std.proofs.Common.{◌≡◌, ◌<◌, ℕ, List, length, map, get_or, Some, Bor, option_map, sym, ap, ◌∙◌}
use Rattle.std.specs.Prelude.{slice_get}
use Rattle.std.proofs.lemmas.List.{length-map}
use Rattle.std.proofs.lemmas.Option.{slice_get-get_or, slice_get-map}

-- what references are to
abbrev pub texts : List (Bor (List ℕ)) → List (List ℕ)
texts ns = map (λ n. n.now) ns

module _ (ns : List (Bor (List ℕ))) (xs : List (List ℕ)) (told : texts ns ≡ xs) where
  pub told-many : length ns ≡ length xs
  told-many = sym (length-map {A = Bor (List ℕ)} {B = List ℕ} ns (λ n. n.now)) ∙ ap length told

  pub told-at : (i : ℕ) (n : Bor (List ℕ)) → i < length ns → n ≡ get_or ns i n → slice_get xs i ≡ Some n.now
  told-at i n below is =
      ap (λ z. slice_get z i) (sym told)
      ∙ slice_get-map (λ (m : Bor (List ℕ)). m.now) ns i
      ∙ ap (option_map (λ (m : Bor (List ℕ)). m.now)) (slice_get-get_or ns i n below)
      ∙ ap (λ (m : Bor (List ℕ)). Some m.now) (sym is)
