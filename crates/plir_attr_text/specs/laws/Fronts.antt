-- Reading things one after the other, as a loop does.
use Rattle.std.proofs.Common.{◌≡◌, ℕ, zero, suc, ◌≤◌, ◌<◌, List, [], ◌∷◌, ◌++◌, length, Bool, true, false, Some, None}
use Rattle.std.proofs.Common.{Result, Ok, Err, refl, sym, ap, ◌∙◌, append_assoc, arith}
use Rattle.plir_attr_text.specs.Lists.{sign_at, past_sign, separator_at, with_first, if_more, more_at, unless_closed}
use Rattle.plir_attr_text.specs.Lists.{items_at}
use Rattle.plir_attr_text.specs.laws.StepLaws.{Ends-bind, Ends-from, Fails-bind}
use Rattle.plir_attr_text.specs.{declared.fault.Fault.Fault, declared.fault.Stop.Stop, Steps.◌>>=◌, Reading.Ends}
use Rattle.plir_attr_text.specs.{Reading.Fails}

-- what was read before, and what is still read
abbrev pub with_front : {A : Type 0} → List A → Result (List A × List ℕ) Fault → Result (List A × List ℕ) Fault
with_front front read = read >>= λ x. Ok (front ++ x.0, x.1)

-- reading goes on from here, where front has been read, and gives total in the end
pub record GoesOn {A : Type 0} (goes : List ℕ → Result (Bool × List ℕ) Fault) (read : List ℕ →
    Result (A × List ℕ) Fault) (front : List A) (bytes : List ℕ) (total : Result (List A × List ℕ) Fault) : Type 0 where
  pub steps : ℕ
  pub enough : length bytes < steps
  pub gives : with_front front (more_at goes read steps bytes) ≡ total

front-nothing : {A : Type 0} (r : Result (List A × List ℕ) Fault) → with_front [] r ≡ r
front-nothing (Ok x) = refl
front-nothing (Err f) = refl

-- one turn
abbrev one_turn : {A : Type 0} → (List ℕ → Result (Bool × List ℕ) Fault) → (List ℕ → Result (A × List ℕ) Fault) → ℕ →
    List ℕ → Result (List A × List ℕ) Fault
one_turn goes read n bytes = read bytes >>= λ x. goes x.1 >>=
    λ s. with_first x.0 (if_more s.0 (more_at goes read n s.1) s.1)

module _ {A : Type 0} (open_ close : ℕ) (read : List ℕ → Result (A × List ℕ) Fault) where
  -- before the first item
  pub no_open : (e : Stop) (bytes : List ℕ) → Fails e (sign_at open_ bytes) → Fails e (items_at open_ close read bytes)
  unfolding items_at
  no_open e bytes h = Fails-bind e (sign_at open_ bytes) (λ start. unless_closed (past_sign close start)
      (more_at (separator_at close) read (suc (length start)) start)) h

  pub nothing_inside : (bytes start rest : List ℕ) → sign_at open_ bytes ≡ Ok start →
      past_sign close start ≡ Some rest → items_at open_ close read bytes ≡ Ok ([], rest)
  unfolding items_at
  nothing_inside bytes start rest p q = rw (p, q) refl

  pub starts : (bytes start : List ℕ) → sign_at open_ bytes ≡ Ok start → past_sign close start ≡ None →
      GoesOn (separator_at close) read [] start (items_at open_ close read bytes)
  unfolding items_at
  starts bytes start p q = record {
    steps = suc (length start);
    enough = omega arith;
    gives = rw (p, q) (front-nothing (more_at (separator_at close) read (suc (length start)) start));
  }

turn_of : {A : Type 0} (goes : List ℕ → Result (Bool × List ℕ) Fault) (read : List ℕ → Result (A × List ℕ) Fault)
    (front : List A) (bytes : List ℕ) (total : Result (List A × List ℕ) Fault) → GoesOn goes read front bytes total
    → (n : ℕ) × (length bytes ≤ n) × (with_front front (one_turn goes read n bytes) ≡ total)
unfolding more_at
turn_of goes read front bytes total g = at g.steps g.enough g.gives
  where
    at : (n : ℕ) → length bytes < n → with_front front (more_at goes read n bytes) ≡ total →
        (m : ℕ) × (length bytes ≤ m) × (with_front front (one_turn goes read m bytes) ≡ total)
    at zero lt e = absurd (omega arith)
    at (suc m) lt e = (m, omega arith, e)

module _ {A : Type 0} (goes : List ℕ → Result (Bool × List ℕ) Fault) (read : List ℕ → Result (A × List ℕ) Fault)
    (front : List A) (bytes : List ℕ) (total : Result (List A × List ℕ) Fault) where
  pub ends_at_item : (crowded : Type 0) (e : Stop) → GoesOn goes read front bytes total → Ends crowded e (read bytes) →
      Ends crowded e total
  ends_at_item crowded e g h =
      let t = turn_of goes read front bytes total g in
      Ends-from crowded e _ _ t.2 (Ends-bind crowded e (one_turn goes read t.0 bytes) (λ x. Ok (front ++ x.0, x.1))
      (Ends-bind crowded e (read bytes) (λ x. goes x.1 >>=
      λ s. with_first x.0 (if_more s.0 (more_at goes read t.0 s.1) s.1)) h))

  -- what stands behind the item is read
  after_item : (x : A) (after : List ℕ) (g : GoesOn goes read front bytes total) → read bytes ≡ Ok (x, after)
      → (n : ℕ) × (length bytes ≤ n) × (with_front front (goes after >>=
      λ s. with_first x (if_more s.0 (more_at goes read n s.1) s.1)) ≡ total)
  after_item x after g h =
      let t = turn_of goes read front bytes total g in (
        t.0,
        t.1,
        ap (λ (r : Result (A × List ℕ) Fault). with_front front (r >>= λ x. goes x.1 >>=
            λ s. with_first x.0 (if_more s.0 (more_at goes read t.0 s.1) s.1))) (sym h) ∙ t.2,
      )

  pub ends_behind : (crowded : Type 0) (e : Stop) (x : A) (after : List ℕ) → GoesOn goes read front bytes total →
      read bytes ≡ Ok (x, after) → Ends crowded e (goes after) → Ends crowded e total
  ends_behind crowded e x after g h k =
      let b = after_item x after g h in
      Ends-from crowded e _ _ b.2 (Ends-bind crowded e (goes after >>=
      λ s. with_first x (if_more s.0 (more_at goes read b.0 s.1) s.1)) (λ x. Ok (front ++ x.0, x.1))
      (Ends-bind crowded e (goes after) (λ s. with_first x (if_more s.0 (more_at goes read b.0 s.1) s.1)) k))

  pub closes : (x : A) (after rest : List ℕ) → GoesOn goes read front bytes total → read bytes ≡ Ok (x, after) →
      goes after ≡ Ok (false, rest) → total ≡ Ok (front ++ x ∷ [], rest)
  closes x after rest g h k =
      let b = after_item x after g h in
      let e : with_front front (goes after >>= λ s. with_first x (if_more s.0 (more_at goes read b.0 s.1) s.1)) ≡ Ok
      (front ++ x ∷ [], rest) = rw k refl in
      sym b.2 ∙ e

  regroup : (x : A) (r : Result (List A × List ℕ) Fault) → with_front front (with_first x r) ≡ with_front (front ++ x ∷
      []) r
  regroup x (Ok xs) = ap (λ (ys : List A). Ok (ys, xs.1)) (sym (append_assoc front (x ∷ []) xs.0))
  regroup x (Err f) = refl

  pub goes_on : (x : A) (after rest : List ℕ) → GoesOn goes read front bytes total → read bytes ≡ Ok (x, after) →
      goes after ≡ Ok (true, rest) → length rest < length bytes → GoesOn goes read (front ++ x ∷ []) rest total
  goes_on x after rest g h k lt =
      let b = after_item x after g h in
      let e : with_front front (goes after >>= λ s. with_first x (if_more s.0 (more_at goes read b.0 s.1) s.1)) ≡
      with_front (front ++ x ∷ []) (more_at goes read b.0 rest) = rw k (regroup x (more_at goes read b.0 rest)) in
      record { steps = b.0; enough = omega (arith, b.1); gives = sym e ∙ b.2 }
