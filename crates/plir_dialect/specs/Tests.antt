-- Tests of handles, by the answers that they may give.
use Rattle.std.specs.Prelude.{◌≡◌, ℕ, Bool, true}

module _ (answers : ℕ → Bool → Type 0) where
  -- the test may say yes of the handle
  abbrev pub Passes : ℕ → Type 0
  Passes handle = answers handle true

  -- where it may say yes, it says nothing else
  abbrev pub IsSure : Type 0
  IsSure = (handle : ℕ) (answer : Bool) → answers handle answer → Passes handle → answer ≡ true
