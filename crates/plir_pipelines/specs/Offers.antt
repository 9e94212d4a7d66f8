-- Which passes a command line can offer, each by an option of its own name.
use Rattle.std.specs.Prelude.{◌≡◌, ℕ, ◌<◌, nat_eq, nat_le, Bool, true, false, ◌&&◌, ◌||◌, List, [], ◌∷◌, None, Some, IsSome}
use Rattle.std.specs.Prelude.{slice_get, take}
use Rattle.std.specs.List.{list_all, list_any}
use Rattle.std.specs.Str.{bytes_eq}
use Rattle.plir_pipelines.specs.declared.words.TheConstants.{OWN_WORDS}
use Rattle.plir_pipelines.specs.declared.offer.OfferErr.{OfferErr}
use Rattle.plir_pipelines.specs.declared.offer.OfferErr.TheVariants.{Malformed, Own, Twice}
use Rattle.plir_pipelines.specs.Passes.{bearer}

-- a small letter
abbrev pub is_small_letter : ℕ → Bool
is_small_letter b = nat_le 97 b && nat_le b 122

-- a small letter, a digit or a dash
abbrev pub is_in_option : ℕ → Bool
is_in_option b = is_small_letter b || ((nat_le 48 b && nat_le b 57) || nat_eq b 45)

-- a small letter, and then small letters, digits and dashes
abbrev pub is_option_name : List ℕ → Bool
is_option_name [] = false
is_option_name (b ∷ bs) = is_small_letter b && list_all is_in_option bs

-- one of the words of a command line that are the driver's own
abbrev pub is_own_word : List ℕ → Bool
is_own_word name = list_any (λ word. bytes_eq word.now name) OWN_WORDS

-- `name_of` gives the names of passes.
module _ {P : Type 0} (name_of : P → List ℕ) where
  -- A pass can be offered behind others: an option can have its name, which is no word of the driver's own, and none
  -- of the others bears it.
  pub record CanFollow (front : List P) (p : P) : Type 0 where
    pub formed : is_option_name (name_of p) ≡ true
    pub free : is_own_word (name_of p) ≡ false
    pub new : bearer name_of front (name_of p) ≡ None

  -- why it can't be, with its name
  abbrev pub IsClash : (front : List P) → P → OfferErr → Type 0
  IsClash front p (Malformed name) = (name.now ≡ name_of p) × (is_option_name (name_of p) ≡ false)
  IsClash front p (Own name) = (name.now ≡ name_of p) × (is_own_word (name_of p) ≡ true)
  IsClash front p (Twice name) = (name.now ≡ name_of p) × IsSome (bearer name_of front (name_of p))

  -- each pass in front of a place can be offered behind those in front of it
  abbrev pub CanBeOfferedTo : ℕ → List P → Type 0
  CanBeOfferedTo n passes =
      (k : ℕ) → k < n → (p : P) → slice_get passes k ≡ Some p → CanFollow (take k passes) p

  -- each pass can
  abbrev pub CanBeOffered : List P → Type 0
  CanBeOffered passes = (k : ℕ) (p : P) → slice_get passes k ≡ Some p → CanFollow (take k passes) p

  -- the pass at a place can't, and is the first that can't
  pub record IsOfferRefusal (passes : List P) (e : OfferErr) : Type 0 where
    pub place : ℕ
    pub pass : P
    pub here : slice_get passes place ≡ Some pass
    pub clash : IsClash (take place passes) pass e
    pub first : CanBeOfferedTo place passes
