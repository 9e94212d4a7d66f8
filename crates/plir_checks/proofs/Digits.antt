-- Digits, as far as a loop has come.
use Rattle.std.proofs.Common.{◌≡◌, ◌+◌, ◌-◌, ◌*◌, ◌^◌, ◌<◌, ◌≤◌, ◌&&◌, ℕ, suc, true, List, arith, sym, ap, ◌∙◌}
use Rattle.std.proofs.Common.{get_or, length, take}
use Rattle.std.proofs.Math.Nat.{pow-suc}
use Rattle.std.proofs.lemmas.Int.Digits.{digits_value_more}
use Rattle.std.proofs.lemmas.List.Folds.{list_all_more}
use Rattle.std.proofs.lemmas.Str.{digit_value_digit}
use Rattle.std.specs.Char.{digit_value, is_ascii_digit}
use Rattle.std.specs.List.{list_all}
use Rattle.std.specs.Str.Parse.{digits_value}

-- one digit more
module _ (ds : List ℕ) (i v : ℕ) (below : i < length ds) (low : 48 ≤ get_or ds i 0) (high : get_or ds i 0 ≤ 57) where
  pub more_value : v ≡ digits_value 10 (take i ds) → v * 10 + (get_or ds i 0 - 48) ≡ digits_value 10 (take (i + 1) ds)
  more_value e =
      let d : get_or ds i 0 - 48 ≡ digit_value (get_or ds i 0) =
      omega (arith, digit_value_digit (get_or ds i 0) (low, high)) in
      ap (λ w. w * 10 + (get_or ds i 0 - 48)) e
      ∙ ap (λ w. digits_value 10 (take i ds) * 10 + w) d
      ∙ sym (digits_value_more 10 ds i below)

  pub more_digits : list_all is_ascii_digit (take i ds) ≡ true → is_ascii_digit (get_or ds i 0) ≡ true →
      list_all is_ascii_digit (take (i + 1) ds) ≡ true
  more_digits all is =
      list_all_more is_ascii_digit ds i 0 below ∙ ap (λ v. v && is_ascii_digit (get_or ds i 0)) all ∙ is

  pub more_small : v < 10 ^ i → v * 10 + (get_or ds i 0 - 48) < 10 ^ (i + 1)
  more_small small =
      let one : i + 1 ≡ suc i = omega arith in
      let e : 10 ^ (i + 1) ≡ 10 ^ i * 10 = ap (λ k. 10 ^ k) one ∙ pow-suc 10 i in
      omega (arith, e)
