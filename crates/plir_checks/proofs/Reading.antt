-- Checks and expected errors, as far as a loop over lines has come.
use Rattle.std.proofs.Common.{◌≡◌, ◌+◌, ◌==◌, ℕ, Bool, true, false, List, [], ◌∷◌, ◌++◌, Option, Some, None}
use Rattle.std.proofs.Common.{refl, sym, ap, ◌∙◌, append_assoc, length, map}
use Rattle.std.proofs.Math.Dec.{eqb-suc-zero}
use Rattle.std.proofs.lemmas.List.{map-append}
use Rattle.std.specs.Option.{option_and_then, option_to_list}
use Rattle.plir_checks.specs.declared.checks.Check.{Check}
use Rattle.plir_checks.specs.declared.checks.CheckErr.{CheckErr}
use Rattle.plir_checks.specs.declared.checks.CheckErr.TheVariants.{Memory, NoText, NothingBefore}
use Rattle.plir_checks.specs.Checks.{IsToldOf, SeenCheck, check_of, checks_in, fault_of, first_fault, seen_check}
use Rattle.plir_checks.specs.Running.{or_else}

-- a check that is at fault is the first one that is
first_of : (first : Bool) (o : Option SeenCheck) (others : List SeenCheck) (e : CheckErr) →
    option_and_then (fault_of first) o ≡ Some e → first_fault first (option_to_list o ++ others) ≡ Some e
first_of first None others e h = absurd (nothing h)
  where
    nothing : None ≡ Some e → ⊥
    nothing h = cc
first_of first (Some c) others e h = ap (λ o. or_else o (first_fault false others)) h

-- one that isn't is not
not_first : (first : Bool) (c : SeenCheck) (others : List SeenCheck) → fault_of first c ≡ None →
    first_fault first (c ∷ others) ≡ first_fault false others
not_first first c others h = ap (λ o. or_else o (first_fault false others)) h

-- behind others there is one
one_behind : {X : Type 0} (xs : List X) (x : X) → (length (xs ++ x ∷ []) == 0) ≡ false
one_behind [] x = refl
one_behind (y ∷ xs) x = eqb-suc-zero (length (xs ++ x ∷ []))

-- what is read and what is left are the whole, of which nothing so far is at fault
pub record Read (checks : List Check) (number : ℕ) (left : List (List ℕ)) (all : List SeenCheck) : Type 0 where
  pub whole : map seen_check checks ++ checks_in number left ≡ all
  pub fault : first_fault (length checks == 0) (checks_in number left) ≡ first_fault true all

module _ (checks : List Check) (number : ℕ) (left rest : List (List ℕ)) (line : List ℕ) (all : List SeenCheck)
    (r : Read checks number left all) (is : left ≡ line ∷ rest) where
  first_is : first_fault (length checks == 0) (option_to_list (check_of number line) ++ checks_in (number + 1) rest) ≡
      first_fault true all
  first_is = ap (λ z. first_fault (length checks == 0) (checks_in number z)) (sym is) ∙ r.fault

  whole_is : map seen_check checks ++ (option_to_list (check_of number line) ++ checks_in (number + 1) rest) ≡ all
  whole_is = ap (λ z. map seen_check checks ++ checks_in number z) (sym is) ∙ r.whole

  -- a line that is no check
  pub read_none : check_of number line ≡ None → Read checks (number + 1) rest all
  read_none none =
      record {
        whole = sym (ap (λ o. map seen_check checks ++ (option_to_list o ++ checks_in (number + 1) rest)) none)
            ∙ whole_is;
        fault =
            sym (ap (λ o. first_fault (length checks == 0) (option_to_list o ++ checks_in (number + 1) rest)) none)
            ∙ first_is;
      }

  -- a line that is one
  pub read_one : (c : Check) (more : List Check) → more ≡ checks ++ c ∷ [] →
      check_of number line ≡ Some (seen_check c) →
      option_and_then (fault_of (length checks == 0)) (check_of number line) ≡ None → Read more (number + 1) rest all
  read_one c more e one fine =
      record {
        whole =
            ap (λ z. map seen_check z ++ checks_in (number + 1) rest) e
            ∙ ap (λ z. z ++ checks_in (number + 1) rest) (map-append seen_check checks (c ∷ []))
            ∙ append_assoc (map seen_check checks) (seen_check c ∷ []) (checks_in (number + 1) rest)
            ∙ sym (ap (λ o. map seen_check checks ++ (option_to_list o ++ checks_in (number + 1) rest)) one) ∙ whole_is;
        fault =
            ap (λ v. first_fault v (checks_in (number + 1) rest)) some
            ∙ sym (not_first (length checks == 0) (seen_check c) (checks_in (number + 1) rest)
            (sym (ap (option_and_then (fault_of (length checks == 0))) one) ∙ fine))
            ∙ sym (ap (λ o. first_fault (length checks == 0) (option_to_list o ++ checks_in (number + 1) rest)) one)
            ∙ first_is;
      }
    where
      some : (length more == 0) ≡ false
      some = ap (λ z. length z == 0) e ∙ one_behind checks c

  -- a line at fault
  pub read_fault : (e : CheckErr) → option_and_then (fault_of (length checks == 0)) (check_of number line) ≡ Some e →
      IsToldOf (first_fault true all) e
  read_fault e h =
      told_of e (first_fault true all) (sym first_is ∙ first_of (length checks == 0) (check_of number line)
      (checks_in (number + 1) rest) e h)
    where
      told_of : (e : CheckErr) (fault : Option CheckErr) → fault ≡ Some e → IsToldOf fault e
      told_of Memory fault h = tt
      told_of (NoText n) fault h = h
      told_of (NothingBefore n) fault h = h
