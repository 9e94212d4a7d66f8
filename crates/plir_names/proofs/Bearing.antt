-- What a table says once one more bears a name.
use Rattle.std.proofs.Common.{◌≡◌, ◌∙◌, ◌⊎◌, inl, inr, sym, ap, refl, List, [], ◌∷◌, ◌++◌, Bool, true, false}
use Rattle.std.proofs.Common.{cond, Option, Some, None, ⊎_elim}
use Rattle.std.specs.Cmp.{IsEquivalence}
use Rattle.plir_names.specs.Meanings.{meaning_by, bearers, meaning}
use Rattle.plir_names.specs.Tables.{kept_meaning, with_one_more}

kept_on : {V : Type 0} (v : V) (o : Option (Option V)) (vs : List V) → kept_meaning o ≡ meaning_by vs →
    kept_meaning (Some (with_one_more o v)) ≡ meaning_by (vs ++ v ∷ [])
kept_on v None [] e = refl
kept_on v None (a ∷ []) e = absurd cc
kept_on v None (a ∷ b ∷ vs) e = absurd cc
kept_on v (Some (Some x)) [] e = absurd cc
kept_on v (Some (Some x)) (a ∷ []) e = refl
kept_on v (Some (Some x)) (a ∷ b ∷ vs) e = refl
kept_on v (Some None) [] e = absurd cc
kept_on v (Some None) (a ∷ []) e = refl
kept_on v (Some None) (a ∷ b ∷ vs) e = refl

by_test : (b : Bool) → (b ≡ true) ⊎ (b ≡ false)
by_test true = inl refl
by_test false = inr refl

module _ {N V : Type 0} (same : N → N → Bool) where
  bearers-push : (listed : List (N × V)) (m : N) (v : V) (n : N) → same m n ≡ true →
      bearers same (listed ++ (m, v) ∷ []) n ≡ bearers same listed n ++ v ∷ []
  bearers-push [] m v n e = rw e refl
  bearers-push (b ∷ bs) m v n e = at (same b.0 n) (bearers-push bs m v n e)
    where
      at : (t : Bool) → bearers same (bs ++ (m, v) ∷ []) n ≡ bearers same bs n ++ v ∷ [] →
          cond t (b.1 ∷ bearers same (bs ++ (m, v) ∷ []) n) (bearers same (bs ++ (m, v) ∷ []) n) ≡
          cond t (b.1 ∷ bearers same bs n) (bearers same bs n) ++ v ∷ []
      at true h = ap (λ (l : List V). b.1 ∷ l) h
      at false h = h

  bearers-other : (listed : List (N × V)) (m : N) (v : V) (n : N) → same m n ≡ false →
      bearers same (listed ++ (m, v) ∷ []) n ≡ bearers same listed n
  bearers-other [] m v n e = rw e refl
  bearers-other (b ∷ bs) m v n e =
      ap (λ (l : List V). cond (same b.0 n) (b.1 ∷ l) l) (bearers-other bs m v n e)

  bearers-same : (laws : IsEquivalence same) (listed : List (N × V)) (m n : N) → same m n ≡ true →
      bearers same listed m ≡ bearers same listed n
  bearers-same laws [] m n e = refl
  bearers-same laws (b ∷ bs) m n e =
      let t : same b.0 m ≡ same b.0 n = laws.symm b.0 m ∙ laws.congr m n b.0 e ∙ laws.symm n b.0 in
      ap (λ (t : Bool). cond t (b.1 ∷ bearers same bs m) (bearers same bs m)) t ∙
      ap (λ (l : List V). cond (same b.0 n) (b.1 ∷ l) l) (bearers-same laws bs m n e)

  -- the table as it is kept says of all names what they mean, once v bears m too
  pub bears_more : (laws : IsEquivalence same) (old new : N → Option (Option V)) (m : N) (v : V) (listed : List (N × V))
      → ((n : N) → kept_meaning (old n) ≡ meaning same listed n)
      → ((n : N) → new n ≡ cond (same m n) (Some (with_one_more (old m) v)) (old n)) → (n : N) →
      kept_meaning (new n) ≡ meaning same (listed ++ (m, v) ∷ []) n
  bears_more laws old new m v listed says is n = ap kept_meaning (is n) ∙ ⊎_elim yes no (by_test (same m n))
    where
      yes : same m n ≡ true → kept_meaning (cond (same m n) (Some (with_one_more (old m) v)) (old n)) ≡
          meaning same (listed ++ (m, v) ∷ []) n
      yes e = ap (λ (t : Bool). kept_meaning (cond t (Some (with_one_more (old m) v)) (old n))) e ∙
          kept_on v (old m) (bearers same listed m) (says m) ∙
          ap (λ (l : List V). meaning_by (l ++ v ∷ [])) (bearers-same laws listed m n e) ∙
          ap meaning_by (sym (bearers-push listed m v n e))

      no : same m n ≡ false → kept_meaning (cond (same m n) (Some (with_one_more (old m) v)) (old n)) ≡
          meaning same (listed ++ (m, v) ∷ []) n
      no e = ap (λ (t : Bool). kept_meaning (cond t (Some (with_one_more (old m) v)) (old n))) e ∙ says n ∙
          ap meaning_by (sym (bearers-other listed m v n e))
