-- Steps up from a seat, as links come and go.
use Rattle.std.proofs.Common.{◌≡◌, ℕ, zero, suc, ◌+◌, ◌≤◌, Option, Some, None, ◌⊎◌, inl, inr, refl, ◌∙◌, ap, arith}
use Rattle.std.proofs.lemmas.Bool.{cases_eq}
use Rattle.plir_core.specs.Above.{climb, Reaches, IsGrounded}
use Rattle.plir_core.specs.Stored.{Seat, op, region, block}

-- two seats are one or not
pub seat_cases : (a b : Seat) → (a ≡ b) ⊎ (a ≡ b → ⊥)
seat_cases (op i) (op j) = elim (cases_eq i j) [
  | inl e ↦ inl (ap op e)
  | inr n ↦ inr
      (λ e. n (let f : i ≡ j = cc in f))
]
seat_cases (region i) (region j) = elim (cases_eq i j) [
  | inl e ↦ inl (ap region e)
  | inr n ↦ inr
      (λ e. n (let f : i ≡ j = cc in f))
]
seat_cases (block i) (block j) = elim (cases_eq i j) [
  | inl e ↦ inl (ap block e)
  | inr n ↦ inr
      (λ e. n (let f : i ≡ j = cc in f))
]
seat_cases (op i) (region j) = inr (λ e. cc)
seat_cases (op i) (block j) = inr (λ e. cc)
seat_cases (region i) (op j) = inr (λ e. cc)
seat_cases (region i) (block j) = inr (λ e. cc)
seat_cases (block i) (op j) = inr (λ e. cc)
seat_cases (block i) (region j) = inr (λ e. cc)

pub climb_none : (up : Seat → Option Seat) (k : ℕ) → climb up k None ≡ None
climb_none up zero = refl
climb_none up (suc k) = refl

pub climb_later : (up : Seat → Option Seat) (k m : ℕ) (o : Option Seat) → k ≤ m → climb up k o ≡ None → climb up m o ≡
    None
climb_later up zero m o h e = rw e (climb_none up m)
climb_later up (suc k) zero o h e = absurd (omega arith)
climb_later up (suc k) (suc m) None h e = refl
climb_later up (suc k) (suc m) (Some n) h e = climb_later up k m (up n) (omega arith) e

-- where each step stays as it was or is gone
pub climb_cut : (up up' : Seat → Option Seat) → ((n : Seat) → (up' n ≡ up n) ⊎ (up' n ≡ None)) → (k : ℕ)
    (o : Option Seat) → climb up k o ≡ None → climb up' k o ≡ None
climb_cut up up' same zero o e = e
climb_cut up up' same (suc k) None e = refl
climb_cut up up' same (suc k) (Some n) e = elim (same n) [
  | inl f ↦ rw f (climb_cut up up' same k (up n) e)
  | inr f ↦ rw f (climb_none up' k)
]

pub IsGrounded-cut : (up up' : Seat → Option Seat) → ((n : Seat) → (up' n ≡ up n) ⊎ (up' n ≡ None)) → IsGrounded up →
    IsGrounded up'
IsGrounded-cut up up' same g = record {
  height = g.height;
  ends =
      λ n. climb_cut up up' same g.height (Some n) (g.ends n);
}

pub IsGrounded-same : (up up' : Seat → Option Seat) → ((n : Seat) → up' n ≡ up n) → IsGrounded up → IsGrounded up'
IsGrounded-same up up' same g = IsGrounded-cut up up' (λ n. inl (same n)) g

-- c is put under t, which c is not above
module _ (up up' : Seat → Option Seat) (c t : Seat) (new : up' c ≡ Some t) (same : (n : Seat) → (n ≡ c → ⊥) → up' n ≡ up
    n) (apart : Reaches up t c → ⊥) where
  climb_past : (k : ℕ) (o : Option Seat) → ((j : ℕ) → climb up j o ≡ Some c → ⊥) → climb up' k o ≡ climb up k o
  climb_past zero o away = refl
  climb_past (suc k) None away = refl
  climb_past (suc k) (Some n) away =
      let e : up' n ≡ up n = same n (λ q. away 0 (ap (λ m. Some m) q)) in
      rw e (climb_past k (up n) (λ j q. away (suc j) q))

  climb_ends : (height : ℕ) → climb up height (Some t) ≡ None → (k m : ℕ) (o : Option Seat) → k + suc height ≤ m → climb
      up k o ≡ None → climb up' m o ≡ None
  climb_ends height ends zero m o h e = rw e (climb_none up' m)
  climb_ends height ends (suc k) zero o h e = absurd (omega arith)
  climb_ends height ends (suc k) (suc m) None h e = refl
  climb_ends height ends (suc k) (suc m) (Some n) h e = elim (seat_cases n c) [
    | inl q ↦
        let at : up' n ≡ Some t = ap up' q ∙ new in
        rw (at, climb_past m (Some t) (λ j r. apart (j, r))) (climb_later up height m (Some t) (omega arith) ends)
    | inr q ↦ rw (same n q) (climb_ends height ends k m (up n) (omega arith) e)
  ]

  pub IsGrounded-link : IsGrounded up → IsGrounded up'
  IsGrounded-link g = record {
    height = g.height + suc g.height;
    ends = λ n. climb_ends g.height (g.ends t) g.height (g.height + suc g.height) (Some n) (omega arith) (g.ends n);
  }

-- where each step stays as it was, or goes to a node with nothing above it
climb_two : (up up' : Seat → Option Seat) → ((n : Seat) → (up' n ≡ up n) ⊎ ((q : Seat) ×
    ((up' n ≡ Some q) × (up' q ≡ None)))) → (k m : ℕ) (o : Option Seat) → k + 2 ≤ m → climb up k o ≡ None → climb up' m
    o ≡ None
climb_two up up' step zero m o h e = rw e (climb_none up' m)
climb_two up up' step (suc k) zero o h e = absurd (omega arith)
climb_two up up' step (suc k) (suc m) None h e = refl
climb_two up up' step (suc k) (suc m) (Some n) h e = elim (step n) [
  | inl f ↦ rw f (climb_two up up' step k m (up n) (omega arith) e)
  | inr g ↦ rw g.1.0 (climb_top up' g.0 m g.1.1 (omega arith))
]
  where
    climb_top : (f : Seat → Option Seat) (q : Seat) (j : ℕ) → f q ≡ None → 1 ≤ j → climb f j (Some q) ≡ None
    climb_top f q zero e h = absurd (omega arith)
    climb_top f q (suc j) e h = rw e (climb_none f j)

pub IsGrounded-top : (up up' : Seat → Option Seat) → ((n : Seat) → (up' n ≡ up n) ⊎
    ((q : Seat) × ((up' n ≡ Some q) × (up' q ≡ None)))) → IsGrounded up → IsGrounded up'
IsGrounded-top up up' step g = record {
  height = g.height + 2;
  ends =
      λ n. climb_two up up' step g.height (g.height + 2) (Some n) (omega arith) (g.ends n);
}

-- what is above nothing is reached from itself alone
pub climb_to : (up : Seat → Option Seat) (c : Seat) → ((n : Seat) → up n ≡ Some c → ⊥) → (k : ℕ) (o : Option Seat) →
    climb up k o ≡ Some c → o ≡ Some c
climb_to up c never zero o e = e
climb_to up c never (suc k) None e = e
climb_to up c never (suc k) (Some n) e = absurd (never n (climb_to up c never k (up n) e))
