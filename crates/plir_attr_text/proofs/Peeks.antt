-- What the first byte of a token tells of it.
use Rattle.std.proofs.Common.{◌≡◌, ℕ, Bool, true, false, true≢false, List, [], ◌∷◌, Some, None, cond, nat_eq, refl, sym}
use Rattle.std.specs.Prelude.{◌&&◌, if◌then◌else◌, Result, Ok, Err}
use Rattle.plir_data.specs.Identifier.{is_letter, is_digit}
use Rattle.plir_attr_text.specs.Bytes.{past, word_front, word_past, begins, tail_of}
use Rattle.plir_attr_text.specs.Tokens.{Token, word, digits, signed, arrow, sign, token_at, is_mark, number_of}
use Rattle.plir_attr_text.specs.{declared.fault.Fault.Fault, declared.fault.Fault.TheVariants.Unexpected}
use Rattle.plir_attr_text.specs.{Lists.behind_sign, Levels.if_level, Steps.◌>>=◌, TypeReading.as_word}

-- a token that begins with another byte is not the sign
pub other-sign : (b : ℕ) (xs : List ℕ) → begins (λ c. nat_eq c b) xs ≡ false → None ≡ behind_sign b (token_at xs)
other-sign b [] e = refl
other-sign b (x ∷ xs) e =
    at (is_letter x) (is_digit x) (is_mark x && begins is_digit xs) (nat_eq x 45 && begins (λ c. nat_eq c 62) xs)
  where
    at : (l d m a : Bool) → None ≡ behind_sign b (if l then Ok (word (x ∷ word_front xs), word_past xs)
        else if d then Ok (digits (number_of (x ∷ xs)), past is_digit (x ∷ xs))
        else if m then Ok (signed (nat_eq x 45) (number_of xs), past is_digit xs)
        else if a then Ok (arrow, tail_of xs)
        else Ok (sign x, xs))
    at true d m a = refl
    at false true m a = refl
    at false false true a = refl
    at false false false true = refl
    at false false false false = λ i. cond (sym e i) (Some xs) None

abbrev pub begun : ℕ → Result (Token × List ℕ) Fault → Result (Unit {0}) Fault
begun n t = (t >>= λ u. as_word u.0 u.1) >>= λ w. if_level n

-- a level begins with a letter
pub letter-level : (n : ℕ) (xs : List ℕ) → begins is_letter xs ≡ true → begun n (token_at xs) ≡ if_level n
letter-level n [] e = absurd (true≢false (sym e))
letter-level n (x ∷ xs) e = λ i. begun n (if e i then Ok (word (x ∷ word_front xs), word_past xs)
    else if is_digit x then Ok (digits (number_of (x ∷ xs)), past is_digit (x ∷ xs))
    else if is_mark x && begins is_digit xs then Ok (signed (nat_eq x 45) (number_of xs), past is_digit xs)
    else if nat_eq x 45 && begins (λ c. nat_eq c 62) xs then Ok (arrow, tail_of xs)
    else Ok (sign x, xs))

-- and with nothing else
pub other-level : (n : ℕ) (xs : List ℕ) → begins is_letter xs ≡ false → begun n (token_at xs) ≡ Err Unexpected
other-level n [] e = refl
other-level n (x ∷ xs) e =
    at (is_letter x) e (is_digit x) (is_mark x && begins is_digit xs) (nat_eq x 45 && begins (λ c. nat_eq c 62) xs)
  where
    at : (l : Bool) → l ≡ false → (d m a : Bool) → begun n (if l then Ok (word (x ∷ word_front xs), word_past xs)
        else if d then Ok (digits (number_of (x ∷ xs)), past is_digit (x ∷ xs))
        else if m then Ok (signed (nat_eq x 45) (number_of xs), past is_digit xs)
        else if a then Ok (arrow, tail_of xs)
        else Ok (sign x, xs)) ≡ Err Unexpected
    at true k d m a = absurd (true≢false k)
    at false k true m a = refl
    at false k false true a = refl
    at false k false false true = refl
    at false k false false false = refl
