-- Values of integers.
use Rattle.std.proofs.Common.{◌≡◌, ℕ, ◌<◌, ◌≤◌, ◌-◌, ◌%◌, ◌^◌, Bool, true, false, Ok, sym, ap, subst, ◌∙◌}
use Rattle.std.proofs.{Math.Nat.mod-eq_of_lt, Math.Nat.mod-lt, lemmas.Nat.pow_pos}
use Rattle.plir_attr_text.specs.{AttrGrammar.IsBits, AttrReading.bits_of, AttrReading.value_of}
use Rattle.plir_attr_text.specs.{laws.LeavesAgain.value_of_again, laws.LeavesFound.bits_found, laws.StepLaws.done}

pub bits-below : (s : Bool) (m w b : ℕ) → IsBits s m w b → b < 2 ^ w
bits-below true m w b h = subst (λ (n : ℕ). n < 2 ^ w) (sym h.1) (mod-lt (2 ^ w - m) (pow_pos w))
bits-below false m w b h = subst (λ (n : ℕ). n < 2 ^ w) (sym h.1) h.0

-- the bits modulo two to the width are the bits
pub value_made : (s : Bool) (m w b n : ℕ) → 1 ≤ w → w ≤ 64 → bits_of s m w ≡ Ok b → n ≡ b % 2 ^ w →
    value_of s m w ≡ Ok n
value_made s m w b n some few e is =
    let bits = bits_found s m w b e in
    value_of_again s m w b some few bits ∙ ap (λ (x : ℕ). done x) (sym (is ∙ mod-eq_of_lt (bits-below s m w b bits)))
