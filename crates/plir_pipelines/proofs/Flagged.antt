-- Passes with their options as a command line gives them, as far as a loop has come.
use Rattle.std.proofs.Common.{◌≡◌, ℕ, ◌+◌, ◌<◌, ◌≤◌, List, [], ◌∷◌, ◌++◌, length, drop, take, get_or, Some}
use Rattle.std.proofs.Common.{add-zero, zero-add, arith, refl, sym, subst, ap, ◌∙◌, length-append, slice_get}
use Rattle.std.specs.List.{AllZip}
use Rattle.std.proofs.lemmas.List.{take_all}
use Rattle.std.proofs.lemmas.Option.{get_or_from_slice_get, slice_get_within}
use Rattle.plir_pipelines.specs.declared.flags.Given.{Given}
use Rattle.plir_pipelines.specs.declared.step.StepErr.TheVariants.{Unclosed, NoSetting, NoNumber, Twice}
use Rattle.plir_pipelines.specs.declared.step.StepErr.TheVariants as of_steps
use Rattle.plir_pipelines.specs.declared.passes.PipelineErr.{PipelineErr}
use Rattle.plir_pipelines.specs.declared.passes.PipelineErr.TheVariants.{Malformed, NoPass, NoOption, OutOfRange}
use Rattle.plir_pipelines.specs.declared.passes.PipelineErr.TheVariants.{OutOfMemory}
use Rattle.plir_pipelines.specs.Flags.{IsConfigured, IsConfigureRefused, IsFlagRefused, IsNumberGiven, IsNumberRefused}
use Rattle.plir_pipelines.specs.Flags.{with_all}
use Rattle.plir_pipelines.specs.Options.{Allows, IsOfNumber, IsOutOfRange, OptionRule, rule_of}
use Rattle.plir_pipelines.proofs.Zipped.{parted, zip-on}

module _ {P : Type 0} (name_of : P → List ℕ) (options_of : P → List OptionRule) (with_option : P → ℕ → ℕ → P) where
  abbrev With : P → ℕ → List ℕ → P
  With = with_all name_of options_of with_option

  -- one more number
  with-push : (p : P) (place : ℕ) (ns : List ℕ) (n : ℕ) →
      With p place (ns ++ n ∷ []) ≡ with_option (With p place ns) (place + length ns) n
  with-push p place [] n = ap (λ k. with_option p k n) (sym (add-zero place))
  with-push p place (x ∷ xs) n =
      let along : (place + 1) + length xs ≡ place + length (x ∷ xs) = omega arith in
      with-push (with_option p place x) (place + 1) xs n
      ∙ ap (λ k. with_option (With (with_option p place x) (place + 1) xs) k n) along

  module _ (given : List Given) (p : P) where
    -- the options up to a place have their numbers
    pub record HasNumbers (place : ℕ) (q : P) : Type 0 where
      pub numbers : List ℕ
      pub many : length numbers ≡ place
      pub each : AllZip (λ rule n. IsNumberGiven given (name_of p) rule n × Allows rule n) (take place (options_of p))
          numbers
      pub is : q ≡ With p 0 numbers
      pub named : name_of q ≡ name_of p
      pub same : options_of q ≡ options_of p

    module _ (place : ℕ) (rule : OptionRule) (here : slice_get (options_of p) place ≡ Some rule) where
      -- the one at a place too
      pub numbers-next : (q r : P) (n : ℕ) → HasNumbers place q → IsNumberGiven given (name_of p) rule n →
          Allows rule n × (r ≡ with_option q place n) → name_of r ≡ name_of q → options_of r ≡ options_of q →
          HasNumbers (place + 1) r
      numbers-next q r n so_far is_given made named same =
          let below = slice_get_within (options_of p) place rule here in
          let is_rule = get_or_from_slice_get (options_of p) place rule rule here in
          let more = so_far.numbers ++ n ∷ [] in
          let Each = λ (x : OptionRule) (k : ℕ). IsNumberGiven given (name_of p) x k × Allows x k in
          record {
            numbers = more;
            many = length-append so_far.numbers (n ∷ []) ∙ ap (λ k. k + 1) so_far.many;
            each = zip-on Each (options_of p) place rule so_far.numbers more n refl below so_far.each
                (subst (λ z. Each z n) (sym is_rule) (is_given, made.0));
            is = made.1
                ∙ ap (λ z. with_option z place n) so_far.is
                ∙ ap (λ k. with_option (With p 0 so_far.numbers) k n) (sym so_far.many ∙ sym (zero-add (length so_far.numbers)))
                ∙ sym (with-push p 0 so_far.numbers n);
            named = named ∙ so_far.named;
            same = same ∙ so_far.same;
          }

      -- it is given what is no number, or memory is wanting
      pub number-refused : (e : PipelineErr) → IsNumberRefused given (name_of p) rule e →
          IsFlagRefused name_of options_of given p e
      number-refused (Malformed (Unclosed step)) h = absurd h
      number-refused (Malformed (NoSetting word)) h = absurd h
      number-refused (Malformed (NoNumber flag number)) h = (place, rule, here, h)
      number-refused (Malformed (Twice name)) h = absurd h
      number-refused (Malformed of_steps.OutOfMemory) h = absurd h
      number-refused (NoPass name) h = absurd h
      number-refused (NoOption pass name) h = absurd h
      number-refused (OutOfRange pass option n) h = absurd h
      number-refused OutOfMemory h = (place, rule, here, tt)

      -- it can't be given its number
      pub out-of-range : (q : P) (n : ℕ) → HasNumbers place q → IsNumberGiven given (name_of p) rule n →
          (e : PipelineErr) → IsOutOfRange name_of options_of with_option q place e × IsOfNumber n e →
          IsFlagRefused name_of options_of given p e
      out-of-range q n so_far is_given (OutOfRange pass option m) h =
          let there = ap (λ z. slice_get z place) (sym so_far.same) ∙ h.0.1 in
          let same : rule ≡ rule_of option = (let both = sym here ∙ there in cc) in (
            h.0.0 ∙ so_far.named,
            (
              place,
              there,
              subst (λ k. IsNumberGiven given (name_of p) (rule_of option) k) (sym h.1)
                  (subst (λ z. IsNumberGiven given (name_of p) z n) same is_given),
              h.0.2,
            ),
          )
      out-of-range q n so_far is_given (Malformed err) h = absurd h.0
      out-of-range q n so_far is_given (NoPass name) h = absurd h.0
      out-of-range q n so_far is_given (NoOption pass name) h = absurd h.0
      out-of-range q n so_far is_given OutOfMemory h = absurd h.0

    -- all have
    pub numbers-all : (place : ℕ) (q : P) → length (options_of p) ≤ place → HasNumbers place q →
        IsConfigured name_of options_of with_option given p q
    numbers-all place q past so_far = record {
      numbers = so_far.numbers;
      each = subst (λ z. AllZip (λ rule n. IsNumberGiven given (name_of p) rule n × Allows rule n) z so_far.numbers)
          (take_all place (options_of p) past) so_far.each;
      is = so_far.is;
    }

  -- of the pass at a place an option is refused
  pub configure-refused : (given : List Given) (passes : List P) (i : ℕ) (d : P) → i < length passes →
      (e : PipelineErr) → IsFlagRefused name_of options_of given (get_or passes i d) e →
      IsConfigureRefused name_of options_of given passes e
  configure-refused given passes i d below (Malformed err) h =
      (take i passes, get_or passes i d, drop (i + 1) passes, parted passes i d below, h)
  configure-refused given passes i d below (NoPass name) h =
      (take i passes, get_or passes i d, drop (i + 1) passes, parted passes i d below, h)
  configure-refused given passes i d below (NoOption pass name) h =
      (take i passes, get_or passes i d, drop (i + 1) passes, parted passes i d below, h)
  configure-refused given passes i d below (OutOfRange pass option n) h =
      (take i passes, get_or passes i d, drop (i + 1) passes, parted passes i d below, h)
  configure-refused given passes i d below OutOfMemory h = tt
