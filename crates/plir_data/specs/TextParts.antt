-- Things one behind another in a text.
use Rattle.std.specs.Prelude.{◌≡◌, ℕ, Bool, true, false, List, [], ◌∷◌, ◌++◌, String, string_bytes}

-- a text has come behind what there was
abbrev pub Puts : {Y : Type 0} → (old new : String Y) → (text : List ℕ) → Type 0
Puts old new text = string_bytes new ≡ string_bytes old ++ text

-- what stands before one of several things: nothing before the first
abbrev pub before : (is_first : Bool) → (between : List ℕ) → List ℕ
before true between = []
before false between = between

-- things with something between them; the first of these may be the first of all, or not
abbrev pub parted_from : {X : Type 0} → (is_first : Bool) → (between : List ℕ) → (X → List ℕ) → List X → List ℕ
parted_from is_first between write [] = []
parted_from is_first between write (x ∷ xs) = before is_first between ++ (write x ++ parted_from false between write xs)

-- things with something between them
abbrev pub parted : {X : Type 0} → (between : List ℕ) → (X → List ℕ) → List X → List ℕ
parted between write xs = parted_from true between write xs
