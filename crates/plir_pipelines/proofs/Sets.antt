-- Passes whose options are given numbers, as far as a loop has come.
use Rattle.std.proofs.Common.{◌≡◌, ℕ, suc, ◌+◌, ◌<◌, ◌≤◌, List, [], ◌∷◌, ◌++◌, length, drop, take, get_or, Some, None}
use Rattle.std.proofs.Common.{arith, refl, sym, subst, ap, ◌∙◌}
use Rattle.std.proofs.Common.{Bool, true, false, Result, Ok, Err, IfOk, bytes_eq, cond, not, nat_lt, map, slice_get}
use borrow.Author.Tests.{ltb-true}
use Rattle.std.specs.Option.{option_map}
use Rattle.std.proofs.lemmas.Option.{slice_get-get_or, slice_get-map}
use Rattle.std.specs.List.{position, position_or_len, prefix_len}
use Rattle.std.proofs.lemmas.List.{length-map, take_all}
use Rattle.std.proofs.Math.Seq.{take-suc}
use Rattle.plir_pipelines.specs.declared.step.Setting.{Setting}
use Rattle.plir_pipelines.specs.declared.pass_option.PassOption.{PassOption}
use Rattle.plir_pipelines.specs.declared.passes.PipelineErr.{PipelineErr}
use Rattle.plir_pipelines.specs.Options.{Allows, AreSet, AreSetRefused, IsSet, IsSettingRefused, OptionRule, place_of, rule_of}
use Rattle.plir_pipelines.proofs.Zipped.{parted}

-- what a list has past its end
abbrev pub no_option : PassOption
no_option = record {
  name = record { ref_ptr = (0, 0); now = [] };
  help = record { ref_ptr = (0, 0); now = [] };
  least = 0;
  most = 0;
  default = 0;
}

abbrev pub no_setting : Setting
no_setting = record { name = record { ref_ptr = (0, 0); now = [] }; value = 0 }

module _ {P : Type 0} (name_of : P → List ℕ) (options_of : P → List OptionRule) (with_option : P → ℕ → ℕ → P) where
  abbrev Set : List Setting → P → P → Type 0
  Set = AreSet name_of options_of with_option

  -- one more setting, behind others
  set-on : (front : List Setting) (s : Setting) (p q r : P) → Set front p q → IsSet name_of options_of with_option s q r →
      Set (front ++ s ∷ []) p r
  set-on [] s p q r run last = (r, subst (λ z. IsSet name_of options_of with_option s z r) run last, refl)
  set-on (x ∷ xs) s p q r run last = (run.0, run.1, set-on xs s run.0 q r run.2 last)

  module _ (all : List Setting) (i : ℕ) (d : Setting) (p q : P) (so_far : Set (take i all) p q) where
    -- the one at a place too
    pub set-to : (r : P) → i < length all → IsSet name_of options_of with_option (get_or all i d) q r →
        Set (take (i + 1) all) p r
    set-to r below last =
        let next : i + 1 ≡ suc i = omega arith in
        subst (λ z. Set z p r) (sym (ap (λ k. take k all) next ∙ take-suc all i d below))
        (set-on (take i all) (get_or all i d) p q r so_far last)

    -- all of them
    pub set-all : length all ≤ i → Set all p q
    set-all past = subst (λ z. Set z p q) (take_all i all past) so_far

    -- the one at a place is refused
    pub set-refused : (e : PipelineErr) → i < length all →
        IsSettingRefused name_of options_of with_option (get_or all i d) q e →
        AreSetRefused name_of options_of with_option all p e
    set-refused e below h = record {
      front = take i all;
      setting = get_or all i d;
      back = drop (i + 1) all;
      here = q;
      parted = parted all i d below;
      set = so_far;
      refused = h;
    }

-- a place in a list of what f makes is that in the list itself
prefix-map : {X Y : Type 0} (p : Y → Bool) (f : X → Y) (xs : List X) →
    prefix_len p (map f xs) ≡ prefix_len (λ x. p (f x)) xs
prefix-map p f [] = refl
prefix-map p f (x ∷ xs) = ap (λ n. cond (p (f x)) (1 + n) 0) (prefix-map p f xs)

pub position-map : {X Y : Type 0} (p : Y → Bool) (f : X → Y) (xs : List X) →
    position p (map f xs) ≡ position (λ x. p (f x)) xs
position-map p f xs =
    ap (λ n. cond (nat_lt n (length (map f xs))) (Some n) None) (prefix-map (λ y. not (p y)) f xs)
    ∙ ap (λ m. cond (nat_lt (position_or_len (λ x. p (f x)) xs) m) (Some (position_or_len (λ x. p (f x)) xs)) None)
    (length-map xs f)

-- the rule of the option at a place
pub rule-at : (options : List PassOption) (rules : List OptionRule) (place : ℕ) (d : PassOption) →
    map rule_of options ≡ rules → place < length options →
    slice_get rules place ≡ Some (rule_of (get_or options place d))
rule-at options rules place d are below =
    ap (λ z. slice_get z place) (sym are)
    ∙ slice_get-map rule_of options place
    ∙ ap (option_map rule_of) (slice_get-get_or options place d below)

-- the place of an option is one of some
pub place-below : (options : List PassOption) (name : List ℕ) (place : ℕ) →
    place_of (map rule_of options) name ≡ Some place → place < length options
place-below options name place found =
    subst (λ n. place < n) (length-map options rule_of) (by (nat_lt at (length (map rule_of options))) refl found)
  where
    at : ℕ
    at = position_or_len (λ r. bytes_eq r.name name) (map rule_of options)

    by : (b : Bool) → nat_lt at (length (map rule_of options)) ≡ b → cond b (Some at) None ≡ Some place →
        place < length (map rule_of options)
    by true e f = let same : at ≡ place = cc in subst (λ n. n < length (map rule_of options)) same (ltb-true _ _ e)
    by false e f = cc

module _ {P E : Type 0} (name_of : P → List ℕ) (options_of : P → List OptionRule) (with_option : P → ℕ → ℕ → P) where
  -- a pass whose option is given its number
  pub set-made : (r : Result P E) (s : Setting) (p : P) (place : ℕ) (rule : OptionRule) →
      place_of (options_of p) s.name.now ≡ Some place → slice_get (options_of p) place ≡ Some rule →
      IfOk r (λ q. Allows rule s.value × (q ≡ with_option p place s.value)) →
      IfOk r (IsSet name_of options_of with_option s p)
  set-made (Ok q) s p place rule found here h =
      record { place = place; rule = rule; found = found; here = here; allowed = h.0; is = h.1 }
  set-made (Err e) s p place rule found here h = tt
