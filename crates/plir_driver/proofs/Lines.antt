-- The lines of a text, as far as a loop has come.
use Rattle.std.proofs.Common.{◌≡◌, ℕ, zero, suc, ◌+◌, ◌-◌, ◌<◌, ◌≤◌, ◌==◌, List, [], length, arith, refl, sym, ap, ◌∙◌}
use Rattle.std.proofs.Common.{◌++◌, ◌∷◌, take, encode_utf8}
use Rattle.std.proofs.lemmas.List.{append_assoc, append-nil, drop_all}
use Rattle.std.proofs.lemmas.Str.{cons_from_encodes, length-le-encodes}
use Rattle.std.proofs.Math.Seq.{take-nil}
use Rattle.std.specs.List.{after_first, flat_map, position_or_len}
use Rattle.std.specs.Str.{encode_utf8_all}
use Rattle.plir_driver.specs.Excerpt.{behind, below}

behind-nothing : (n : ℕ) → behind n [] ≡ []
behind-nothing zero = refl
behind-nothing (suc n) = behind-nothing n

-- one line feed further
pub behind_feed : (n : ℕ) (bs : List ℕ) → 0 < n → behind n bs ≡ behind (n - 1) (after_first (λ b. b == 10) bs)
behind_feed zero bs l = absurd (omega (arith, l))
behind_feed (suc n) bs l =
    let e : n ≡ suc n - 1 = omega arith in
    ap (λ k. behind k (after_first (λ b. b == 10) bs)) e

-- where there is none
pub behind_last : (n : ℕ) (bs : List ℕ) → 0 < n → position_or_len (λ b. b == 10) bs ≡ length bs → behind n bs ≡ []
behind_last n bs l none =
    behind_feed n bs l
    ∙ ap (behind (n - 1)) (drop_all (position_or_len (λ b. b == 10) bs + 1) bs (omega (arith, none)))
    ∙ behind-nothing (n - 1)

-- a step of the loop over line feeds
pub ruleset feeds = (behind_feed, behind_last)

-- What stands below characters is put, up to what stands below the first `left` of those that the rest spells.
pub record Remains (old all now : List ℕ) (left : ℕ) (rest : List ℕ) : Type 0 where
  pub come : List ℕ
  pub spell : encode_utf8_all come ≡ rest
  pub put : now ++ flat_map below (take left come) ≡ old ++ flat_map below all

module _ (old all : List ℕ) where
  pub remains_next : (now next : List ℕ) (left c : ℕ) (rest rest' : List ℕ) → Remains old all now left rest →
      (left ≡ 0 → ⊥) → rest ≡ encode_utf8 c ++ rest' → next ≡ now ++ below c → Remains old all next (left - 1) rest'
  remains_next now next zero c rest rest' h some step put = absurd (some refl)
  remains_next now next (suc left) c rest rest' h some step put =
      let f = cons_from_encodes h.come rest' c (h.spell ∙ step) in
      let less : suc left - 1 ≡ left = omega arith in
      record {
        come = f.0;
        spell = f.2;
        put =
            ap (λ k. next ++ flat_map below (take k f.0)) less
            ∙ ap (λ z. z ++ flat_map below (take left f.0)) put
            ∙ append_assoc now (below c) (flat_map below (take left f.0))
            ∙ sym (ap (λ z. now ++ flat_map below (take (suc left) z)) f.1)
            ∙ h.put;
      }

  pub remains_full : (now : List ℕ) (left : ℕ) (rest : List ℕ) → Remains old all now left rest → left ≡ 0 →
      now ≡ old ++ flat_map below all
  remains_full now left rest h none =
      sym (append-nil now) ∙ sym (ap (λ k. now ++ flat_map below (take k h.come)) none) ∙ h.put

  pub remains_end : (now : List ℕ) (left : ℕ) (rest : List ℕ) → Remains old all now left rest → length rest ≡ 0 →
      now ≡ old ++ flat_map below all
  remains_end now left rest h none = sym (append-nil now) ∙ ap (λ z. now ++ flat_map below z) (sym nothing) ∙ h.put
    where
      nothing : take left h.come ≡ []
      nothing = by h.come (omega (arith, length-le-encodes h.come, ap length h.spell, none))
        where
          by : (xs : List ℕ) → length xs ≤ 0 → take left xs ≡ []
          by [] l = take-nil left
          by (x ∷ xs) l = absurd (omega (arith, l))
