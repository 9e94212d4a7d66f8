-- Expected errors, as far as a loop over lines has come.
use Rattle.std.proofs.Common.{◌≡◌, ◌+◌, ℕ, List, [], ◌∷◌, ◌++◌, Option, Some, None, Result, Ok, Err, codes, refl, sym}
use Rattle.std.proofs.Common.{ap, ◌∙◌}
use Rattle.std.proofs.Common.{append_assoc, map, option_map}
use Rattle.std.proofs.lemmas.List.{map-append}
use Rattle.std.specs.Option.{option_to_list}
use Rattle.plir_checks.specs.declared.expected.Expected.{Expected}
use Rattle.plir_checks.specs.declared.expected.ExpectedErr.{ExpectedErr}
use Rattle.plir_checks.specs.declared.expected.ExpectedErr.TheVariants.{Malformed, Memory, NoSuchLine}
use Rattle.plir_checks.specs.Expecting.{IsToldOf, SeenExpected, first_refusal, read_told, readings, seen_expected}
use Rattle.plir_checks.specs.Lines.{said}

-- what is told and what is left are the whole
pub record Told (expected : List Expected) (number : ℕ) (left : List (List ℕ))
    (all : List (Result SeenExpected ExpectedErr)) : Type 0 where
  pub whole : map (λ e. Ok (seen_expected e)) expected ++ readings number left ≡ all

refusal-behind : (xs : List Expected) (others : List (Result SeenExpected ExpectedErr)) →
    first_refusal (map (λ e. Ok (seen_expected e)) xs ++ others) ≡ first_refusal others
refusal-behind [] others = refl
refusal-behind (x ∷ xs) others = refusal-behind xs others

module _ (expected : List Expected) (number : ℕ) (left rest : List (List ℕ)) (line : List ℕ)
    (all : List (Result SeenExpected ExpectedErr)) (t : Told expected number left all) (is : left ≡ line ∷ rest) where
  whole_is : map (λ e. Ok (seen_expected e)) expected ++ (option_to_list (option_map (read_told number)
      (said (codes "expected-error") line)) ++ readings (number + 1) rest) ≡ all
  whole_is = ap (λ z. map (λ e. Ok (seen_expected e)) expected ++ readings number z) (sym is) ∙ t.whole

  -- a line that tells nothing
  pub told_none : None ≡ said (codes "expected-error") line → Told expected (number + 1) rest all
  told_none none =
      record {
        whole = ap (λ o. map (λ e. Ok (seen_expected e)) expected ++ (option_to_list (option_map (read_told number) o)
            ++ readings (number + 1) rest)) none ∙ whole_is;
      }

  -- a line that tells an expected error
  pub told_one : (told : List ℕ) (e : Expected) (more : List Expected) → more ≡ expected ++ e ∷ [] →
      Some told ≡ said (codes "expected-error") line → read_told number told ≡ Ok (seen_expected e) →
      Told more (number + 1) rest all
  told_one told e more m one reads =
      record {
        whole =
            ap (λ z. map (λ e. Ok (seen_expected e)) z ++ readings (number + 1) rest) m
            ∙ ap (λ z. z ++ readings (number + 1) rest) (map-append (λ e. Ok (seen_expected e)) expected (e ∷ []))
            ∙ append_assoc (map (λ e. Ok (seen_expected e)) expected) (Ok (seen_expected e) ∷ [])
            (readings (number + 1) rest)
            ∙ ap (λ r. map (λ e. Ok (seen_expected e)) expected ++ (r ∷ readings (number + 1) rest)) (sym reads)
            ∙ ap (λ o. map (λ e. Ok (seen_expected e)) expected ++ (option_to_list (option_map (read_told number) o)
            ++ readings (number + 1) rest)) one ∙ whole_is;
      }

  -- a line that is refused
  pub told_refused : (told : List ℕ) (e : ExpectedErr) → Some told ≡ said (codes "expected-error") line →
      read_told number told ≡ Err e → IsToldOf (first_refusal all) e
  told_refused told e one reads = told_of e (first_refusal all)
      (sym (ap first_refusal whole_is)
      ∙ refusal-behind expected (option_to_list (option_map (read_told number) (said (codes "expected-error") line))
      ++ readings (number + 1) rest)
      ∙ sym (ap (λ o. first_refusal (option_to_list (option_map (read_told number) o) ++ readings (number + 1) rest))
      one)
      ∙ ap (λ r. first_refusal (r ∷ readings (number + 1) rest)) reads)
    where
      told_of : (e : ExpectedErr) (refusal : Option ExpectedErr) → refusal ≡ Some e → IsToldOf refusal e
      told_of Memory refusal h = tt
      told_of (Malformed n) refusal h = h
      told_of (NoSuchLine n) refusal h = h
