-- Names of results and ids: those that are read stand there, and those that stand there are read.
use Rattle.std.proofs.Common.{◌≡◌, ℕ, ◌++◌, Bool, true, false, nat_eq, ◌||◌, ◌&&◌, List, [], ◌∷◌, Result, Ok, Err}
use Rattle.std.proofs.Common.{Option, Some, None, refl, sym, ap, subst, ◌∙◌, inl, inr}
use Rattle.std.proofs.lemmas.Bool.Decides.{Decides-eqb}
use Rattle.plir_data.specs.Identifier.{is_identifier, all_in_identifier, is_letter, is_digit}
use Rattle.plir_attr_text.specs.declared.fault.Fault.{Fault}
use Rattle.plir_attr_text.specs.Steps.{◌>>=◌}
use Rattle.plir_attr_text.specs.Tokens.{Token, word, look, Begins}
use Rattle.plir_attr_text.specs.TypeReading.{word_at}
use Rattle.plir_attr_text.specs.AttrReading.{name_at}
use Rattle.plir_attr_text.specs.laws.StepLaws.{chosen, bind_ok, done, ok_is}
use Rattle.plir_attr_text.specs.laws.Begun.{Begins-append, word_found, word_again}
use Rattle.plir_attr_text.specs.laws.ListsFound.{FoundOne, IsSound}
use Rattle.plir_read_own.specs.OwnGrammar.{SpellsNames, SpellsKind, has_point}
use Rattle.plir_read_own.specs.OwnReading.{if_name, names_before, if_found, kind_of, kind_at, opening_at}
use Rattle.plir_read_own.specs.laws.Chains.{names_found, names_again}

-- ---- a word with a point in it is no identifier

no_point_in : (b : ℕ) → (is_letter b || is_digit b) ≡ true → nat_eq b 46 ≡ false
no_point_in b e = at (nat_eq b 46) refl
  where
    at : (t : Bool) → nat_eq b 46 ≡ t → nat_eq b 46 ≡ false
    at false h = h
    at true h = absurd (let k : (is_letter 46 || is_digit 46) ≡ true = subst (λ (c : ℕ). (is_letter c || is_digit c) ≡
        true) ((Decides-eqb b 46).0 h) e in cc)

parts : (a b : Bool) → (a && b) ≡ true → (a ≡ true) × (b ≡ true)
parts true b e = (refl, e)
parts false b e = absurd cc

letter_in : (a b : Bool) → a ≡ true → (a || b) ≡ true
letter_in a b e = rw e refl

none_in : (bs : List ℕ) → all_in_identifier bs ≡ true → has_point bs ≡ false
none_in [] e = refl
none_in (b ∷ bs) e = let p = parts (is_letter b || is_digit b) (all_in_identifier bs) e in
    rw (no_point_in b p.0, none_in bs p.1) refl

identifier_pointless : (w : List ℕ) → is_identifier w ≡ true → has_point w ≡ false
identifier_pointless [] e = refl
identifier_pointless (b ∷ bs) e = let p = parts (is_letter b) (all_in_identifier bs) e in
    rw (no_point_in b (letter_in (is_letter b) (is_digit b) p.0), none_in bs p.1) refl

pub pointed : (w : List ℕ) → has_point w ≡ true → is_identifier w ≡ false
pointed w e = at (is_identifier w) refl
  where
    at : (t : Bool) → is_identifier w ≡ t → is_identifier w ≡ false
    at false h = h
    at true h = absurd (let k = sym e ∙ identifier_pointless w h in cc)

-- ---- names

pub before_found : IsSound SpellsNames names_before
unfolding names_before
before_found bytes x e = at (name_at bytes) e
  where
    at : (r : Result (List ℕ × List ℕ) Fault) → if_name bytes r ≡ Ok x → FoundOne SpellsNames bytes x.0 x.1
    at (Ok w) h = names_found bytes x h
    at (Err g) h =
        let none : FoundOne SpellsNames bytes [] bytes = record { tokens = []; begins = refl; spelled = refl } in
        subst (λ (y : List (List ℕ) × List ℕ). FoundOne SpellsNames bytes y.0 y.1) (ok_is ([], bytes) x h) none

no_name : (bytes w rest : List ℕ) → look bytes ≡ Ok (word w, rest) → is_identifier w ≡ false →
    names_before bytes ≡ Ok ([], bytes)
unfolding names_before name_at
no_name bytes w rest e f = rw (word_again bytes w rest e, f) refl

some_names : (w : List ℕ) (ws : List (List ℕ)) (ts : List Token) (bytes rest : List ℕ) → SpellsNames (w ∷ ws) ts →
    Begins bytes ts rest → names_before bytes ≡ Ok (w ∷ ws, rest)
unfolding names_before
some_names w ws ts bytes rest h b =
    let n = names_again w ws ts bytes rest h b in
    ap (if_name bytes) n.1 ∙ n.2

-- an id stands behind the names
before_again : (ws : List (List ℕ)) (ts : List Token) (bytes rest id end : List ℕ) → SpellsNames ws ts →
    Begins bytes ts rest → look rest ≡ Ok (word id, end) → has_point id ≡ true → names_before bytes ≡ Ok (ws, rest)
before_again [] ts bytes rest id end h b i p =
    let same : bytes ≡ rest = subst (λ (y : List Token). Begins bytes y rest) h b in
    no_name bytes id end (ap look same ∙ i) (pointed id p) ∙ ap (λ (y : List ℕ). done ([], y)) same
before_again (w ∷ ws) ts bytes rest id end h b i p = some_names w ws ts bytes rest h b

-- ---- ids

module _ {K : Type 0} (find : List ℕ → Option K) where
  found_is : (o : Option K) (k : K) → if_found find o ≡ Ok k → o ≡ Some k
  found_is None k e = absurd cc
  found_is (Some j) k e = ap (λ (l : K). Some l) (ok_is j k e)

  kind_is : (w : List ℕ) (k : K) → kind_of find w ≡ Ok k → (has_point w ≡ true) × (find w ≡ Some k)
  unfolding kind_of
  kind_is w k e = elim (chosen (has_point w) _ _ _ e)
      [ inl h ↦ (h.0, found_is (find w) k h.1) | inr h ↦ absurd (let v = h.1 in cc) ]

  kind_found : IsSound (SpellsKind find) (kind_at find)
  unfolding kind_at
  kind_found bytes x e =
      let a = bind_ok (word_at bytes) (λ w. kind_of find w.0 >>= λ k. Ok (k, w.1)) x e in
      let b = bind_ok (kind_of find a.0.0) (λ k. Ok (k, a.0.1)) x a.2 in
      let i = kind_is a.0.0 b.0 b.1 in
      let found : FoundOne (SpellsKind find) bytes b.0 a.0.1 = record {
        tokens = word a.0.0 ∷ [];
        begins = (a.0.1, word_found bytes a.0 a.1, refl);
        spelled = (a.0.0, i.0, i.1, refl);
      } in
      subst (λ (y : K × List ℕ). FoundOne (SpellsKind find) bytes y.0 y.1) (ok_is _ x b.2) found

  kind_again : (bytes id rest : List ℕ) (k : K) → look bytes ≡ Ok (word id, rest) → has_point id ≡ true →
      find id ≡ Some k → kind_at find bytes ≡ Ok (k, rest)
  unfolding kind_at kind_of
  kind_again bytes id rest k e p f = rw (word_again bytes id rest e, p, f) refl

  -- ---- both

  -- names of results and the id of a kind
  abbrev pub SpellsOpening : List (List ℕ) × K → List Token → Type 0
  SpellsOpening o ts = (names id : List Token) × SpellsNames o.0 names × SpellsKind find o.1 id × (ts ≡ names ++ id)

  pub opening_found : IsSound SpellsOpening (opening_at find)
  unfolding opening_at
  opening_found bytes x e =
      let a = bind_ok (names_before bytes) (λ ns. kind_at find ns.1 >>= λ k. Ok ((ns.0, k.0), k.1)) x e in
      let b = bind_ok (kind_at find a.0.1) (λ k. Ok ((a.0.0, k.0), k.1)) x a.2 in
      let f = before_found bytes a.0 a.1 in
      let i = kind_found a.0.1 b.0 b.1 in
      let found : FoundOne SpellsOpening bytes (a.0.0, b.0.0) b.0.1 = record {
        tokens = f.tokens ++ i.tokens;
        begins = Begins-append f.tokens i.tokens bytes a.0.1 b.0.1 f.begins i.begins;
        spelled = (f.tokens, i.tokens, f.spelled, i.spelled, refl);
      } in
      subst (λ (y : (List (List ℕ) × K) × List ℕ). FoundOne SpellsOpening bytes y.0 y.1) (ok_is _ x b.2) found

  pub opening_again : (ws : List (List ℕ)) (k : K) (names id : List Token) (bytes mid rest : List ℕ) →
      SpellsNames ws names → SpellsKind find k id → Begins bytes names mid → Begins mid id rest →
      opening_at find bytes ≡ Ok ((ws, k), rest)
  unfolding opening_at
  opening_again ws k names id bytes mid rest n i b c =
      let d = subst (λ (y : List Token). Begins mid y rest) i.3 c in
      let is : look mid ≡ Ok (word i.0, rest) = subst (λ (y : List ℕ). look mid ≡ Ok (word i.0, y)) d.2 d.1 in
      rw (before_again ws names bytes mid i.0 rest n b is i.1, kind_again mid i.0 rest k is i.1 i.2) refl
