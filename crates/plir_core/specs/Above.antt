-- What stands above what, where `up` gives what stands right above a thing.
use Rattle.std.specs.Prelude.{◌≡◌, ℕ, zero, suc, Option, Some, None}

module _ {N : Type 0} where
  -- k steps up
  abbrev pub climb : (N → Option N) → ℕ → Option N → Option N
  climb up zero n = n
  climb up (suc k) None = None
  climb up (suc k) (Some n) = climb up k (up n)

  -- a is n, or stands above it
  abbrev pub Reaches : (N → Option N) → N → N → Type 0
  Reaches up n a = (k : ℕ) × (climb up k (Some n) ≡ Some a)

  -- each climb ends within k steps
  abbrev pub EndsWithin : (N → Option N) → ℕ → Type 0
  EndsWithin up k = (n : N) → climb up k (Some n) ≡ None

  -- nothing stands above itself: each climb ends
  pub record IsGrounded (up : N → Option N) : Type 0 where
    pub height : ℕ
    pub ends : EndsWithin up height
