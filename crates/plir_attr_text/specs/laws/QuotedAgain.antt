-- What is quoted is read back.
use Rattle.std.proofs.Common.{◌≡◌, ℕ, ◌/◌, ◌%◌, ◌<◌, nat_eq, nat_lt, Bool, true, false, cond, List, [], ◌∷◌, ◌++◌}
use Rattle.std.proofs.Common.{Option, Some, Result, Ok, refl, sym, ap, subst, ◌∙◌, arith, append_assoc, append-nil}
use Rattle.std.proofs.lemmas.Bool.Decides.{nat_tests, Decides-eqb, Decides-ltb}
use Rattle.std.proofs.lemmas.Str.{encode_ascii}
use Rattle.std.specs.{Prelude.codes, Prelude.encode_utf8, Str.IsUtf8}
use Rattle.plir_attr_text.specs.Bytes.{is_hex, front, all_pass, hex_value, hex_after}
use Rattle.plir_attr_text.specs.Strings.{is_scalar, is_code, code_at, escape_at, unit_at, string_at}
use Rattle.plir_attr_text.specs.Written.{hex_digit, hex, is_control, escape, escaped, quotation}
use Rattle.plir_attr_text.specs.laws.Quoted.{GoesOn, starts, ends, goes_on, quoted-found}
use Rattle.plir_attr_text.specs.laws.Printed.{front-run, past-run}
use Rattle.plir_attr_text.specs.{declared.fault.Fault.Fault, Tokens.quoted, Tokens.sign, Tokens.look}
use Rattle.plir_attr_text.specs.{AttrGrammar.SpellsString, laws.Runs.Shown, laws.StepLaws.done}

-- ---- hexadecimal digits

digit_hex : (n : ℕ) → n < 16 → is_hex (hex_digit n) ≡ true
digit_hex n lt = grind (arith, nat_tests)

digit_value : (n : ℕ) → n < 16 → hex_value (hex_digit n) ≡ n
digit_value n lt = grind (arith, nat_tests)

small_scalar : (b : ℕ) → b < 128 → is_scalar b ≡ true
small_scalar b lt = grind (arith, nat_tests)

hex_all : (b : ℕ) → b < 128 → all_pass is_hex (hex b) ≡ true
hex_all b lt = at (nat_lt b 16) refl
  where
    at : (t : Bool) → nat_lt b 16 ≡ t → all_pass is_hex (cond t (hex_digit b ∷ []) (hex_digit (b / 16) ∷
        hex_digit (b % 16) ∷ [])) ≡ true
    at true e = rw (digit_hex b ((Decides-ltb b 16).0 e)) refl
    at false e = rw (digit_hex (b / 16) (omega (arith, lt)), digit_hex (b % 16) (omega arith)) refl

hex_read : (b : ℕ) → b < 128 → hex_after 0 (hex b) ≡ b
hex_read b lt = at (nat_lt b 16) refl
  where
    at : (t : Bool) → nat_lt b 16 ≡ t →
        hex_after 0 (cond t (hex_digit b ∷ []) (hex_digit (b / 16) ∷ hex_digit (b % 16) ∷ [])) ≡ b
    at true e = rw (digit_value b ((Decides-ltb b 16).0 e)) (omega arith)
    at false e = rw (digit_value (b / 16) (omega (arith, lt)), digit_value (b % 16) (omega arith)) (omega arith)

hex_code : (b : ℕ) → b < 128 → is_code (hex b) ≡ true
hex_code b lt = at (nat_lt b 16) refl (ap is_scalar (hex_read b lt) ∙ small_scalar b lt)
  where
    at : (t : Bool) → nat_lt b 16 ≡ t →
        is_scalar (hex_after 0 (cond t (hex_digit b ∷ []) (hex_digit (b / 16) ∷ hex_digit (b % 16) ∷ []))) ≡ true →
        is_code (cond t (hex_digit b ∷ []) (hex_digit (b / 16) ∷ hex_digit (b % 16) ∷ [])) ≡ true
    at true e s = s
    at false e s = s

-- the number of a control character
number_read : (b : ℕ) (rest : List ℕ) → b < 128 → code_at (123 ∷ (hex b ++ 125 ∷ rest)) ≡ Ok (b, rest)
unfolding code_at
number_read b rest lt =
    rw (
      front-run is_hex (hex b) (125 ∷ rest) (hex_all b lt) refl,
      past-run is_hex (hex b) (125 ∷ rest) (hex_all b lt) refl,
      hex_code b lt,
      hex_read b lt,
    ) refl

-- ---- escapes

abbrev step : ℕ → List ℕ → Result (Option (List ℕ) × List ℕ) Fault
step b rest = Ok (Some (b ∷ []), rest)

meant : (b : ℕ) (rest : List ℕ) → b < 128 → done {A = Option (List ℕ) × List ℕ} (
  Some (encode_utf8 b),
  rest,
) ≡ step b rest
meant b rest lt = ap (λ bytes. done {A = Option (List ℕ) × List ℕ} (Some bytes, rest)) (encode_ascii b lt)

short : (b c : ℕ) (rest : List ℕ) → c < 128 → nat_eq b c ≡ true →
    done {A = Option (List ℕ) × List ℕ} (Some (encode_utf8 c), rest) ≡ step b rest
short b c rest lt e = meant c rest lt ∙ ap (λ x. step x rest) (sym ((Decides-eqb b c).0 e))

control_small : (b : ℕ) → is_control b ≡ true → b < 128
control_small b e = grind (arith, nat_tests)

-- the escape of a byte is read as the byte
escape_read : (b : ℕ) (rest : List ℕ) → unit_at (escape b ++ rest) ≡ Ok (Some (b ∷ []), rest)
unfolding unit_at escape_at
escape_read b rest = at (nat_eq b 34) (nat_eq b 92) (nat_eq b 10) (nat_eq b 9) (nat_eq b 13) (nat_eq b 0) (is_control b)
    refl refl refl refl refl refl refl
  where
    at : (q s n t r z c : Bool) → nat_eq b 34 ≡ q → nat_eq b 92 ≡ s → nat_eq b 10 ≡ n → nat_eq b 9 ≡ t →
        nat_eq b 13 ≡ r → nat_eq b 0 ≡ z → is_control b ≡ c
        → unit_at (cond q (codes "\\\"")
        (cond s (codes "\\\\") (cond n (codes "\\n")
        (cond t (codes "\\t") (cond r (codes "\\r") (cond z (codes "\\0") (cond c (codes "\\u{" ++
        (hex b ++ codes "}")) (b ∷ []))))))) ++ rest) ≡ Ok (Some (b ∷ []), rest)
    at true s n t r z c e1 e2 e3 e4 e5 e6 e7 = short b 34 rest (omega arith) e1
    at false true n t r z c e1 e2 e3 e4 e5 e6 e7 = short b 92 rest (omega arith) e2
    at false false true t r z c e1 e2 e3 e4 e5 e6 e7 = short b 10 rest (omega arith) e3
    at false false false true r z c e1 e2 e3 e4 e5 e6 e7 = short b 9 rest (omega arith) e4
    at false false false false true z c e1 e2 e3 e4 e5 e6 e7 = short b 13 rest (omega arith) e5
    at false false false false false true c e1 e2 e3 e4 e5 e6 e7 = short b 0 rest (omega arith) e6
    at false false false false false false true e1 e2 e3 e4 e5 e6 e7 = rw (
      append_assoc (hex b) (125 ∷ []) rest,
      number_read b rest (control_small b e7),
    ) (meant b rest (control_small b e7))
    at false false false false false false false e1 e2 e3 e4 e5 e6 e7 = rw (e1, e2) refl

-- what is still to be read of a string
left_read : (s front rest : List ℕ) (total : Result (List ℕ × List ℕ) Fault) → GoesOn front (escaped s ++ 34 ∷
    rest) total → total ≡ Ok (front ++ s, rest)
unfolding unit_at
left_read [] front rest total g = ends front (34 ∷ rest) total rest g refl ∙
    ap (λ bytes. done (bytes, rest)) (sym (append-nil front))
left_read (b ∷ s) front rest total g =
    let here = subst (λ bytes. GoesOn front bytes total) (append_assoc (escape b) (escaped s) (34 ∷ rest)) g in
    left_read s (front ++ b ∷ []) rest total (goes_on front (escape b ++ (escaped s ++ 34 ∷ rest)) total (b ∷
    []) (escaped s ++ 34 ∷ rest) here (escape_read b (escaped s ++ 34 ∷ rest))) ∙
    ap (λ bytes. done (bytes, rest)) (append_assoc front (b ∷ []) s)

string_read : (s rest : List ℕ) → string_at ((escaped s ++ 34 ∷ []) ++ rest) ≡ Ok (s, rest)
string_read s rest = ap string_at (append_assoc (escaped s) (34 ∷ []) rest) ∙
    left_read s [] rest (string_at (escaped s ++ 34 ∷ rest)) (starts (escaped s ++ 34 ∷ rest))

look-quote : (rest : List ℕ) → look (34 ∷ rest) ≡ Ok (sign 34, rest)
unfolding look
look-quote rest = refl

pub string-shown : (s : List ℕ) → IsUtf8 s → Shown (SpellsString s) (quotation s)
string-shown s u = record {
  first = quoted s;
  others = [];
  spelled = (u, refl);
  begun = λ rest e. (
    rest,
    (
      (escaped s ++ 34 ∷ []) ++ rest,
      look-quote ((escaped s ++ 34 ∷ []) ++ rest),
      quoted-found ((escaped s ++ 34 ∷ []) ++ rest) s rest (string_read s rest),
    ),
    refl,
  );
}
