-- What is told of passes, as far as a loop has come.
use Rattle.std.proofs.Common.{◌≡◌, ℕ, Bool, true, false, suc, ◌+◌, ◌<◌, ◌≤◌, List, [], ◌∷◌, ◌++◌, length, take, get_or}
use Rattle.std.proofs.Common.{arith, sym, subst, refl, ap, ◌∙◌, ◌||◌}
use Rattle.std.proofs.lemmas.List.{append_assoc, take_all}
use Rattle.std.proofs.Math.Seq.{take-suc}
use Rattle.plir_data.specs.declared.op_set.OpSet as op_set
use Rattle.plir_core.specs.declared.ptr.Ptr.{Ptr}
use Rattle.plir_core.specs.declared.ptr.Operation.{Operation as OperationKind}
use Rattle.plir_core.specs.ContextView.{ContextView}
use Rattle.plir_driver.specs.declared.log.Log.{Log}
use Rattle.plir_driver.specs.Dumps.{AreDone, IsDumped, IsDumpedWhere}

module _ {C X : Type 0} (Done : X → C → C → Log → Log → Type 0) where
  -- one more, behind others
  done-on : (front : List X) (d : X) (s t u : C) (w v v' : Log) → AreDone Done front s t w v → Done d t u v v' →
      AreDone Done (front ++ d ∷ []) s u w v'
  done-on [] d s t u w v v' h last =
      (u, v', subst (λ z. Done d z u w v') h.0 (subst (λ z. Done d t u z v') h.1 last), (refl, refl))
  done-on (x ∷ xs) d s t u w v v' h last = (h.0, h.1, h.2, done-on xs d h.0 t u h.1 v v' h.3 last)

  -- those up to a place of a list, and the one there
  pub done-to : (all : List X) (i : ℕ) (d : X) (s t u : C) (w v v' : Log) → i < length all →
      AreDone Done (take i all) s t w v → Done (get_or all i d) t u v v' → AreDone Done (take (i + 1) all) s u w v'
  done-to all i d s t u w v v' below h last =
      let next : i + 1 ≡ suc i = omega arith in
      subst (λ z. AreDone Done z s u w v') (sym (ap (λ k. take k all) next ∙ take-suc all i d below))
      (done-on (take i all) (get_or all i d) s t u w v v' h last)

  pub done-all : (all : List X) (i : ℕ) (s t : C) (w v : Log) → length all ≤ i → AreDone Done (take i all) s t w v →
      AreDone Done all s t w v
  done-all all i s t w v past h = subst (λ z. AreDone Done z s t w v) (take_all i all past) h

-- what is asked for is put, and else nothing
pub dumped-where :
    {D K A T E : Type 0} (o : op_set.Ghosts D K A T E) (root : Ptr OperationKind) (P : Type 0) (moment name : List ℕ)
    (s : ContextView K A T) (w w' : List ℕ) (asked : Bool) → (P → asked ≡ true) → (asked ≡ true → P) →
    (asked ≡ true → IsDumped o root moment name s w w') → (asked ≡ false → w' ≡ w) →
    IsDumpedWhere o root P moment name s w w'
dumped-where o root P moment name s w w' true to from put none = record {
  asked = λ p. put refl;
  unasked = λ never. absurd (never (from refl));
}
dumped-where o root P moment name s w w' false to from put none = record {
  asked = λ p. put (to p);
  unasked = λ never. none refl;
}

-- what is put in three parts
pub dump-put : (old head shown end one two new : List ℕ) → one ≡ old ++ head → two ≡ one ++ shown → new ≡ two ++ end →
    new ≡ old ++ (head ++ (shown ++ end))
dump-put old head shown end one two new first second third =
    third
    ∙ ap (λ z. z ++ end) (second ∙ ap (λ z. z ++ shown) first)
    ∙ append_assoc (old ++ head) shown end
    ∙ append_assoc old head (shown ++ end)

-- what holds where a test fails
pub uncounted : {P : Type 0} (asked : Bool) → (asked ≡ false → P) → (asked ≡ true → ⊥) → P
uncounted true f never = absurd (never refl)
uncounted false f never = f refl

-- what holds where one of two tests does
pub or-first : (a b r : Bool) → r ≡ (a || b) → a ≡ true → r ≡ true
or-first a b r is holds = is ∙ ap (λ z. z || b) holds

pub or-second : (a b r : Bool) → r ≡ (a || b) → b ≡ true → r ≡ true
or-second true b r is holds = is
or-second false b r is holds = is ∙ holds
