-- Tokens, and how much of the text they take.
use Rattle.std.proofs.Common.{◌≡◌, ℕ, suc, ◌+◌, ◌-◌, ◌*◌, ◌≤◌, Bool, true, false, cond, ◌||◌, not, nat_eq, List}
use Rattle.std.proofs.Common.{[], ◌∷◌, ◌++◌, length, get_or, take, drop, Ok, refl, sym, ap, subst, ◌∙◌}
use Rattle.std.proofs.Common.{length-append, arith}
use Rattle.std.proofs.lemmas.List.{take_all}
use Rattle.plir_data.specs.Identifier.{is_letter, is_digit}
use Rattle.plir_attr_text.specs.Bytes.{is_in_name, is_point, front, past, word_front, word_past, value_after, hex_value}
use Rattle.plir_attr_text.specs.Bytes.{hex_after}
use Rattle.plir_attr_text.specs.{Bytes.is_blank, Tokens.word, Tokens.sign, Tokens.token_at, Tokens.look}
use Rattle.plir_attr_text.specs.laws.StepLaws.{done}

-- a byte that is a token of its own, whatever stands behind it
abbrev pub is_lone : ℕ → Bool
is_lone b = not (is_blank b || (is_letter b || (is_digit b || (nat_eq b 45 || nat_eq b 43))))

neither : (a b : Bool) → not (a || b) ≡ true → (a ≡ false) × (not b ≡ true)
neither true b e = absurd cc
neither false b e = (refl, e)

none : (a : Bool) → not a ≡ true → a ≡ false
none true e = absurd cc
none false e = refl

pub look-sign : (b : ℕ) → is_lone b ≡ true → (rest : List ℕ) → look (b ∷ rest) ≡ Ok (sign b, rest)
unfolding look
look-sign b lone rest =
    let blank = neither (is_blank b) (is_letter b || (is_digit b || (nat_eq b 45 || nat_eq b 43))) lone in
    let letter = neither (is_letter b) (is_digit b || (nat_eq b 45 || nat_eq b 43)) blank.1 in
    let digit = neither (is_digit b) (nat_eq b 45 || nat_eq b 43) letter.1 in
    let minus = neither (nat_eq b 45) (nat_eq b 43) digit.1 in
    let plus = none (nat_eq b 43) minus.1 in
    rw (blank.0, letter.0, digit.0, minus.0, plus) refl

choice-length : (t : Bool) (xs ys : List ℕ) (n : ℕ) → length xs ≤ n → length ys ≤ n → length (cond t xs ys) ≤ n
choice-length true xs ys n p q = p
choice-length false xs ys n p q = q

pub past-length : (p : ℕ → Bool) (bytes : List ℕ) → length (past p bytes) ≤ length bytes
past-length p [] = omega arith
past-length p (b ∷ bs) = choice-length (p b) (past p bs) (b ∷ bs) (suc (length bs)) (omega (arith, past-length p bs))
    (omega arith)

taken-step : (t : Bool) (b : ℕ) (bs past_bs front_bs : List ℕ) → length past_bs ≤ length bs →
    take (length bs - length past_bs) bs ≡ front_bs
    → take (suc (length bs) - length (cond t past_bs (b ∷ bs))) (b ∷ bs) ≡ cond t (b ∷ front_bs) []
taken-step true b bs past_bs front_bs le e =
    let k : suc (length bs) - length past_bs ≡ suc (length bs - length past_bs) = omega arith in
    rw k (ap (λ (x : List ℕ). b ∷ x) e)
taken-step false b bs past_bs front_bs le e = let k : suc (length bs) - suc (length bs) ≡ 0 = omega arith in rw k refl

-- the front, as what stands before the rest
pub front-taken : (p : ℕ → Bool) (bytes : List ℕ) → take (length bytes - length (past p bytes)) bytes ≡ front p bytes
front-taken p [] = refl
front-taken p (b ∷ bs) = taken-step (p b) b bs (past p bs) (front p bs) (past-length p bs) (front-taken p bs)

-- more digits make no smaller number
pub value_after-ge : (n : ℕ) (ds : List ℕ) → n ≤ value_after n ds
value_after-ge n [] = omega arith
value_after-ge n (d ∷ ds) = omega (arith, value_after-ge (10 * n + (d - 48)) ds)

pub value_after-over : (n : ℕ) (ds : List ℕ) (total k : ℕ) → 1 ≤ length ds → value_after n ds ≡ total →
    k ≤ 10 * n + (get_or ds 0 0 - 48) → k ≤ total
value_after-over n [] total k le e h = absurd (omega arith)
value_after-over n (d ∷ ds) total k le e h = let g : 10 * n + (d - 48) ≤ total =
    subst (λ (t : ℕ). 10 * n + (d - 48) ≤ t) e (value_after-ge (10 * n + (d - 48)) ds) in omega arith

pub hex_after-ge : (n : ℕ) (ds : List ℕ) → n ≤ hex_after n ds
hex_after-ge n [] = omega arith
hex_after-ge n (d ∷ ds) = omega (arith, hex_after-ge (16 * n + hex_value d) ds)

pub hex_after-over : (n : ℕ) (ds : List ℕ) (total k : ℕ) → 1 ≤ length ds → hex_after n ds ≡ total →
    k ≤ 16 * n + hex_value (get_or ds 0 0) → k ≤ total
hex_after-over n [] total k le e h = absurd (omega arith)
hex_after-over n (d ∷ ds) total k le e h = let g : 16 * n + hex_value d ≤ total =
    subst (λ (t : ℕ). 16 * n + hex_value d ≤ t) e (hex_after-ge (16 * n + hex_value d) ds) in omega (arith, h, g)

-- `[b, tail @ ..]`, as the check writes the tail
pub tail_is : (bytes : List ℕ) → take (length bytes - 1) (drop 1 bytes) ≡ drop 1 bytes
tail_is [] = refl
tail_is (b ∷ bs) = take_all (suc (length bs) - 1) bs (omega arith)

-- ---- words

front-joined : (p : ℕ → Bool) (bytes : List ℕ) → front p bytes ++ past p bytes ≡ bytes
front-joined p [] = refl
front-joined p (b ∷ bs) = at (p b) (front p bs) (past p bs) (front-joined p bs)
  where
    at : (t : Bool) (xs ys : List ℕ) → xs ++ ys ≡ bs → cond t (b ∷ xs) [] ++ cond t ys (b ∷ bs) ≡ b ∷ bs
    at true xs ys e = ap (λ (l : List ℕ). b ∷ l) e
    at false xs ys e = refl

word-joined : (bytes : List ℕ) → word_front bytes ++ word_past bytes ≡ bytes
word-joined [] = refl
word-joined (b ∷ bs) = at (is_in_name b) (is_point b bs) (word_front bs) (word_past bs) (front is_in_name bs)
    (past is_in_name bs) (word-joined bs) (front-joined is_in_name bs)
  where
    at : (t u : Bool) (ws vs xs ys : List ℕ) → ws ++ vs ≡ bs → xs ++ ys ≡ bs → cond t (b ∷ ws)
        (cond u (b ∷ xs) []) ++ cond t vs (cond u ys (b ∷ bs)) ≡ b ∷ bs
    at true u ws vs xs ys e f = ap (λ (l : List ℕ). b ∷ l) e
    at false true ws vs xs ys e f = ap (λ (l : List ℕ). b ∷ l) f
    at false false ws vs xs ys e f = refl

pub word_past-length : (bytes : List ℕ) → length (word_past bytes) ≤ length bytes
word_past-length bytes = omega (
  arith,
  length-append (word_front bytes) (word_past bytes),
  ap length (word-joined bytes),
)

-- the front of two lists, as what stands before the second
front-of : (xs ys : List ℕ) → take (length (xs ++ ys) - length ys) (xs ++ ys) ≡ xs
front-of [] ys = let k : length ys - length ys ≡ 0 = omega arith in rw k refl
front-of (x ∷ xs) ys =
    let k : suc (length (xs ++ ys)) - length ys ≡ suc (length (xs ++ ys) - length ys) =
    omega (arith, length-append xs ys) in
    rw k (ap (λ (l : List ℕ). x ∷ l) (front-of xs ys))

-- a word, as the reader takes it
pub word_taken : (bytes : List ℕ) → 1 ≤ length bytes → is_letter (get_or bytes 0 0) ≡ true
    → token_at bytes ≡ Ok (
      word (take (length bytes - length (word_past (drop 1 bytes))) bytes),
      word_past (drop 1 bytes),
    )
word_taken [] le h = absurd (omega arith)
word_taken (b ∷ bs) le h =
    let k : suc (length bs) - length (word_past bs) ≡ suc (length bs - length (word_past bs)) =
    omega (arith, word_past-length bs) in
    let e : take (length bs - length (word_past bs)) bs ≡ word_front bs =
    subst (λ (l : List ℕ). take (length l - length (word_past bs)) l ≡ word_front bs) (word-joined bs)
    (front-of (word_front bs) (word_past bs)) in
    let made : token_at (b ∷ bs) ≡ Ok (word (b ∷ word_front bs), word_past bs) = rw h refl in
    let taken : take (suc (length bs) - length (word_past bs)) (b ∷ bs) ≡ b ∷ word_front bs =
    rw k (ap (λ (l : List ℕ). b ∷ l) e) in
    made ∙ ap (λ (l : List ℕ). done (word l, word_past bs)) (sym taken)

pub word-length : (bytes : List ℕ) → length (word_past (drop 1 bytes)) ≤ length bytes
word-length [] = omega arith
word-length (b ∷ bs) = omega (arith, word_past-length bs)
