-- A law of identifiers, proved beside their words so that the crates above can cite it: they are ASCII. No contract
-- cites this module.
use Rattle.std.proofs.Common.{◌≡◌, ℕ, zero, suc, ◌<◌, ◌||◌, true, List, [], ◌∷◌, arith}
use Rattle.std.proofs.lemmas.Bool.{and_parts}
use Rattle.std.proofs.lemmas.Bool.Decides.{nat_tests}
use Rattle.std.specs.Str.{IsAscii}
use Rattle.plir_data.specs.Identifier.{is_letter, is_digit, all_in_identifier, is_identifier}

letter_small : (b : ℕ) → is_letter b ≡ true → b < 128
letter_small b h = grind (arith, nat_tests)

name_small : (b : ℕ) → (is_letter b || is_digit b) ≡ true → b < 128
name_small b h = grind (arith, nat_tests)

name_ascii : (bs : List ℕ) → all_in_identifier bs ≡ true → IsAscii bs
name_ascii [] h i = omega arith
name_ascii (b ∷ bs) h zero = name_small b (and_parts (is_letter b || is_digit b) (all_in_identifier bs) h).0
name_ascii (b ∷ bs) h (suc i) = name_ascii bs (and_parts (is_letter b || is_digit b) (all_in_identifier bs) h).1 i

pub identifier_ascii : (bs : List ℕ) → is_identifier bs ≡ true → IsAscii bs
identifier_ascii [] h i = omega arith
identifier_ascii (b ∷ bs) h zero = letter_small b (and_parts (is_letter b) (all_in_identifier bs) h).0
identifier_ascii (b ∷ bs) h (suc i) = name_ascii bs (and_parts (is_letter b) (all_in_identifier bs) h).1 i
