-- What a list keeps beside its things, so that a thing is found by its hash.
use Rattle.std.specs.Prelude.{◌≡◌, ◌<◌, ◌≤◌, ◌+◌, ℕ, List, Option, None, Some, length, slice_get, fold}
use Rattle.std.specs.Hash.FoldHasher as folding

-- the hash that std's maps make of what a thing writes
abbrev pub hash_from : (writes : List (List ℕ)) → ℕ
hash_from writes = folding.finish (fold folding.write folding.initial writes)

-- the first place past that one; with no place there, the first of all
abbrev pub past : Option ℕ → ℕ
past None = 0
past (Some place) = place + 1

module _ {X : Type 0} where
  -- a thing of which P holds stands at that place
  abbrev pub StandsAt : (P : X → Type 0) → List X → (place : ℕ) → Type 0
  StandsAt P things place = (x : X) × (slice_get things place ≡ Some x) × P x

  -- Of the places before `end`, `place` is the last at which a thing stands of which P holds; `None`: there is none.
  pub record Latest (P : X → Type 0) (things : List X) (end : ℕ) (place : Option ℕ) : Type 0 where
    pub within : past place ≤ end
    pub there : (i : ℕ) → place ≡ Some i → StandsAt P things i
    pub none_later : (i : ℕ) → past place ≤ i → i < end → StandsAt P things i → ⊥

  -- `earlier` has beside each thing the last place before it with its hash, and `latest` tells of each hash the last
  -- place of all.
  pub record Hashed (hash : X → ℕ) (things : List X) (earlier : List (Option ℕ)) (latest : ℕ → Option ℕ) : Type 0 where
    pub beside : length earlier ≡ length things
    pub chained : (i : ℕ) (x : X) (place : Option ℕ) → slice_get things i ≡ Some x → slice_get earlier i ≡ Some place →
        Latest (λ y. hash y ≡ hash x) things i place
    pub lasts : (word : ℕ) → Latest (λ y. hash y ≡ word) things (length things) (latest word)
