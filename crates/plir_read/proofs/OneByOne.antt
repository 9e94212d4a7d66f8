-- Readers of things one behind another.
use Rattle.std.proofs.Common.{◌≡◌, ℕ, zero, suc, ◌<◌, ◌≤◌, Bool, true, false, List, [], ◌∷◌, ◌++◌, length}
use Rattle.std.proofs.Common.{Result, Ok, Err, ap, subst, arith, inl, inr}
use Rattle.plir_attr_text.specs.declared.fault.Fault.{Fault}
use Rattle.plir_attr_text.specs.Lists.{if_more, with_first, more_at}
use Rattle.plir_attr_text.specs.Steps.{◌>>=◌}
use Rattle.plir_attr_text.specs.Tokens.{Token, Begins}
use Rattle.plir_attr_text.specs.laws.Begun.{Begins-append, Begins-split, Begins-length}
use Rattle.plir_attr_text.specs.laws.StepLaws.{bind_ok, ok_is}
use Rattle.plir_read.proofs.StartAgain.{last_again, next_again}
use Rattle.plir_read.specs.FaultsMet.{IsDecided}
use Rattle.plir_read.proofs.Deciding.{next, alike, pairs, FirmAt, Steady, decided_as, decided_behind, bind_err}
use Rattle.plir_read.proofs.Deciding.{err_first}
use Rattle.plir_read.proofs.Deciding.{ok_first}

pub tokens_some : (ts : List Token) (bytes rest : List ℕ) → Begins bytes ts rest → length rest < length bytes →
    1 ≤ length ts
tokens_some [] bytes rest b lt = absurd (omega (arith, lt, ap length b))
tokens_some (t ∷ ts) bytes rest b lt = omega arith

abbrev pub Shrinks : {A : Type 0} → (List ℕ → Result (A × List ℕ) Fault) → Type 0
Shrinks {A} read = (bytes : List ℕ) (x : A × List ℕ) → read bytes ≡ Ok x → length x.1 < length bytes

module _ {A : Type 0} (goes : List ℕ → Result (Bool × List ℕ) Fault) (parts : Steady pairs goes)
    (read : List ℕ → Result (A × List ℕ) Fault) (things : Steady pairs read) (shrinks : Shrinks read) where
  -- what is read is the same where the tokens stand, in enough steps
  record MoreAt (bytes : List ℕ) (x : List A × List ℕ) : Type 0 where
    tokens : List Token
    begins : Begins bytes tokens x.1
    again : (o r : List ℕ) (k : ℕ) → length o < k → Begins o tokens r → next x.1 ≡ next r →
        more_at goes read k o ≡ Ok (x.0, r)

  last_at : (x : A) (bytes after rest : List ℕ) → FirmAt pairs read bytes (x, after) →
      FirmAt pairs goes after (false, rest) → MoreAt bytes (x ∷ [], rest)
  last_at x bytes after rest f g = record {
    tokens = f.tokens ++ g.tokens;
    begins = Begins-append f.tokens g.tokens bytes after rest f.begins g.begins;
    again = λ o r k lt b n.
        let m = Begins-split f.tokens g.tokens o r b in
        last_again goes read k x o m.0 r lt
        (f.again o m.0 m.1 (alike g.tokens after m.0 rest r g.begins m.2 n)) (g.again m.0 r m.2 n);
  }

  next_at : (x : A) (xs : List A) (bytes after behind rest : List ℕ) → length after < length bytes →
      FirmAt pairs read bytes (x, after) → FirmAt pairs goes after (true, behind) → MoreAt behind (xs, rest) →
      MoreAt bytes (x ∷ xs, rest)
  next_at x xs bytes after behind rest less f g h =
      let tail = g.tokens ++ h.tokens in
      let begins = Begins-append g.tokens h.tokens after behind rest g.begins h.begins in
      let some = tokens_some f.tokens bytes after f.begins less in
      record {
        tokens = f.tokens ++ tail;
        begins = Begins-append f.tokens tail bytes after rest f.begins begins;
        again = λ o r k lt b n.
            let m = Begins-split f.tokens tail o r b in
            let l = Begins-split g.tokens h.tokens m.0 r m.2 in
            next_again goes read k x xs o m.0 l.0 r lt (f.again o m.0 m.1 (alike tail after m.0 rest r begins m.2 n))
            (g.again m.0 l.0 l.1 (alike h.tokens behind l.0 rest r h.begins l.2 n))
            (omega (arith, some, Begins-length f.tokens o m.0 m.1, Begins-length g.tokens m.0 l.0 l.1))
            (λ j le. h.again l.0 r j le l.2 n);
      }

  more_firm : (m : ℕ) (bytes : List ℕ) (x : List A × List ℕ) → more_at goes read m bytes ≡ Ok x → MoreAt bytes x
  unfolding more_at
  more_firm zero bytes x e = absurd cc
  more_firm (suc m) bytes x e =
      let a = bind_ok (read bytes) (λ y. goes y.1 >>= λ s. with_first y.0 (if_more s.0 (more_at goes read m s.1) s.1))
      x e in
      let b = bind_ok (goes a.0.1) (λ s. with_first a.0.0 (if_more s.0 (more_at goes read m s.1) s.1)) x a.2 in
      let d = bind_ok (if_more b.0.0 (more_at goes read m b.0.1) b.0.1) (λ ys. Ok (a.0.0 ∷ ys.0, ys.1)) x b.2 in
      subst (MoreAt bytes) (ok_is (a.0.0 ∷ d.0.0, d.0.1) x d.2)
      (at b.0.0 a.0 b.0.1 d.0 (shrinks bytes a.0 a.1) (things.firm bytes a.0 a.1) (parts.firm a.0.1 b.0 b.1) d.1
      (more_firm m b.0.1 d.0))
    where
      at : (more : Bool) (y : A × List ℕ) (s : List ℕ) (ys : List A × List ℕ) → length y.1 < length bytes →
          FirmAt pairs read bytes y → FirmAt pairs goes y.1 (more, s) →
          if_more more (more_at goes read m s) s ≡ Ok ys
          → (more_at goes read m s ≡ Ok ys → MoreAt s ys) → MoreAt bytes (y.0 ∷ ys.0, ys.1)
      at true y s ys less f g h rec = next_at y.0 ys.0 bytes y.1 s ys.1 less f g (rec h)
      at false y s ys less f g h rec =
          subst (λ (z : List A × List ℕ). MoreAt bytes (y.0 ∷ z.0, z.1)) (ok_is ([], s) ys h)
          (last_at y.0 bytes y.1 s f g)

  -- the fault of some step is met in enough steps
  abbrev MeetsSoon : Fault → List ℕ → Type 0
  MeetsSoon f o = (k : ℕ) → length o < k → more_at goes read k o ≡ Err f

  soon_thing : (f : Fault) (o : List ℕ) → read o ≡ Err f → MeetsSoon f o
  unfolding more_at
  soon_thing f o e zero lt = absurd (omega arith)
  soon_thing f o e (suc k) lt = err_first (read o) _ f e

  soon_part : (f : Fault) (x : A) (o after : List ℕ) → read o ≡ Ok (x, after) → goes after ≡ Err f → MeetsSoon f o
  unfolding more_at
  soon_part f x o after e h zero lt = absurd (omega arith)
  soon_part f x o after e h (suc k) lt = ok_first (read o) _ (x, after) (Err f) e (err_first (goes after) _ f h)

  soon_more : (f : Fault) (x : A) (o after behind : List ℕ) → read o ≡ Ok (x, after) →
      goes after ≡ Ok (true, behind) → length behind < length o → MeetsSoon f behind → MeetsSoon f o
  unfolding more_at
  soon_more f x o after behind e h less rec zero lt = absurd (omega arith)
  soon_more f x o after behind e h less rec (suc k) lt =
      ok_first (read o) _ (x, after) (Err f) e
      (ok_first (goes after) _ (true, behind) (Err f) h (err_first (more_at goes read k behind) _ f
      (rec k (omega (arith, less, lt)))))

  more_stops : (m : ℕ) (bytes : List ℕ) (f : Fault) → length bytes < m → more_at goes read m bytes ≡ Err f →
      IsDecided (MeetsSoon f) bytes f
  unfolding more_at
  more_stops zero bytes f lt e = absurd (omega arith)
  more_stops (suc m) bytes f lt e =
      elim (bind_err (read bytes) (λ y. goes y.1 >>=
      λ s. with_first y.0 (if_more s.0 (more_at goes read m s.1) s.1)) f e) [
        | inl p ↦ decided_as (λ o q. soon_thing f o q) bytes f (things.stops bytes f p)
        | inr p ↦
            let x = p.0 in
            let t = things.firm bytes x p.1 in
            let less = shrinks bytes x p.1 in
            let some = tokens_some t.tokens bytes x.1 t.begins less in
            elim (bind_err (goes x.1) (λ s. with_first x.0 (if_more s.0 (more_at goes read m s.1) s.1)) f p.2) [
              | inl q ↦ decided_behind t.tokens bytes x.1 f t.begins
                  (λ o mid b n h. soon_part f x.0 o mid (t.again o mid b n) h) (parts.stops x.1 f q)
              | inr q ↦ at x t less some q.0.0 q.0.1 (parts.firm x.1 q.0 q.1) q.2 (more_stops m q.0.1 f)
            ]
      ]
    where
      at : (x : A × List ℕ) (t : FirmAt pairs read bytes x) → length x.1 < length bytes → 1 ≤ length t.tokens →
          (more : Bool) (s : List ℕ) → FirmAt pairs goes x.1 (more, s) →
          with_first x.0 (if_more more (more_at goes read m s) s) ≡ Err f
          → (length s < m → more_at goes read m s ≡ Err f → IsDecided (MeetsSoon f) s f) →
          IsDecided (MeetsSoon f) bytes f
      at x t less some true s g h rec =
          let below = Begins-length g.tokens x.1 s g.begins in
          elim (bind_err (more_at goes read m s) (λ ys. Ok (x.0 ∷ ys.0, ys.1)) f h) [
            | inl q ↦ decided_behind t.tokens bytes x.1 f t.begins
                (λ o mid b n z. z o b n)
                (decided_behind {R = λ mid. (o : List ℕ) → Begins o t.tokens mid → next x.1 ≡ next mid →
                MeetsSoon f o} g.tokens x.1 s f g.begins
                (λ mid end c l z. λ o b n. soon_more f x.0 o mid end (t.again o mid b n) (g.again mid end c l)
                (omega (arith, some, Begins-length t.tokens o mid b, Begins-length g.tokens mid end c)) z)
                (rec (omega (arith, less, below, lt)) q))
            | inr q ↦ absurd (let k = q.2 in cc)
          ]
      at x t less some false s g h rec = absurd (let k = h in cc)

  pub steady_more : Steady pairs (λ z. more_at goes read (suc (length z)) z)
  steady_more = record {
    firm = λ bytes x e.
        let k = more_firm (suc (length bytes)) bytes x e in
        record {
          tokens = k.tokens;
          begins = k.begins;
          again = λ o r b n. k.again o r (suc (length o)) (omega arith) b n;
        };
    stops = λ bytes f e.
        decided_as (λ o h. h (suc (length o)) (omega arith)) bytes f
        (more_stops (suc (length bytes)) bytes f (omega arith) e);
  }
