-- Names of results that are read one after the other, up to `=`.
use Rattle.std.proofs.Common.{◌≡◌, ℕ, zero, suc, ◌<◌, ◌++◌, Bool, true, false, List, [], ◌∷◌, length, Result, Ok, Err}
use Rattle.std.proofs.Common.{refl, sym, ap, subst, ◌∙◌, append_assoc, arith}
use Rattle.plir_attr_text.specs.declared.fault.Fault.{Fault}
use Rattle.plir_attr_text.specs.Tokens.{Token, sign, look, Begins}
use Rattle.plir_attr_text.specs.AttrGrammar.{SpellsIdentifier, SpellsMore}
use Rattle.plir_attr_text.specs.AttrReading.{name_at}
use Rattle.plir_attr_text.specs.Lists.{separator_at, more_at}
use Rattle.plir_attr_text.specs.laws.Begun.{Begins-split, separator, separator_found, separator_at-shorter}
use Rattle.plir_attr_text.specs.laws.Begun.{closed_again}
use Rattle.plir_attr_text.specs.laws.Begun.{comma_again}
use Rattle.plir_attr_text.specs.laws.Fronts.{GoesOn, with_front}
use Rattle.plir_attr_text.specs.laws.LeavesAgain.{name_again}
use Rattle.plir_attr_text.specs.laws.LeavesFound.{found-shorter, name_found}
use Rattle.plir_attr_text.specs.laws.ListsFound.{IsSound, After, Chain, several_found}
use Rattle.plir_read_own.specs.OwnGrammar.{SpellsNames}
use Rattle.plir_read_own.specs.OwnReading.{names_at}

pub name_at-shorter : (bytes : List ℕ) (x : List ℕ × List ℕ) → name_at bytes ≡ Ok x → length x.1 < length bytes
name_at-shorter bytes x e =
    found-shorter SpellsIdentifier name_at name_found (λ w ts h. rw (h.1) (omega arith)) bytes x e

front_nothing : {A : Type 0} (r : Result (List A × List ℕ) Fault) → with_front [] r ≡ r
front_nothing (Ok x) = refl
front_nothing (Err f) = refl

-- reading goes on from where it begins
pub names_start : (bytes : List ℕ) → GoesOn (separator_at 61) name_at [] bytes (names_at bytes)
unfolding names_at
names_start bytes = record {
  steps = suc (length bytes);
  enough = omega arith;
  gives = front_nothing (more_at (separator_at 61) name_at (suc (length bytes)) bytes);
}

-- ---- names that are read stand there

abbrev by_equals : Bool → List Token
by_equals b = sign (separator 61 b) ∷ []

equals_found : (bytes : List ℕ) (s : Bool × List ℕ) → separator_at 61 bytes ≡ Ok s → Begins bytes (by_equals s.0) s.1
equals_found bytes s e = (s.1, separator_found 61 bytes s e, refl)

after_name : (ws : List (List ℕ)) (ts : List Token) → After SpellsIdentifier by_equals ws ts →
    (inner : List Token) × SpellsMore SpellsIdentifier ws inner × (ts ≡ inner ++ sign 61 ∷ [])
after_name [] ts h = ([], refl, h)
after_name (w ∷ ws) ts h =
    let m = after_name ws h.1 h.3 in (
      sign 44 ∷ (h.0 ++ m.0),
      (h.0, m.0, h.2, m.1, refl),
      h.4 ∙ ap (λ (l : List Token). sign 44 ∷ (h.0 ++ l)) m.2 ∙
          ap (λ (l : List Token). sign 44 ∷ l) (sym (append_assoc h.0 m.0 (sign 61 ∷ []))),
    )

up_to_equals : (ws : List (List ℕ)) (ts : List Token) → Chain SpellsIdentifier by_equals ws ts → SpellsNames ws ts
up_to_equals [] ts h = absurd h
up_to_equals (w ∷ ws) ts h =
    let m = after_name ws h.1 h.3 in (
      h.0 ++ m.0,
      (h.0, m.0, h.2, m.1, refl),
      h.4 ∙ ap (λ (l : List Token). h.0 ++ l) m.2 ∙ sym (append_assoc h.0 m.0 (sign 61 ∷ [])),
    )

pub names_found : IsSound SpellsNames names_at
unfolding names_at
names_found bytes x e =
    let f = several_found SpellsIdentifier by_equals (separator_at 61) equals_found name_at name_found _ bytes x e in
    record { tokens = f.tokens; begins = f.begins; spelled = up_to_equals x.0 f.tokens f.spelled }

-- ---- names that stand there are read

module _ {A : Type 0} (goes : List ℕ → Result (Bool × List ℕ) Fault) (read : List ℕ → Result (A × List ℕ) Fault) where
  last_again : (m : ℕ) (x : A) (bytes after rest : List ℕ) → length bytes < m → read bytes ≡ Ok (x, after) →
      goes after ≡ Ok (false, rest) → more_at goes read m bytes ≡ Ok (x ∷ [], rest)
  unfolding more_at
  last_again zero x bytes after rest lt e f = absurd (omega arith)
  last_again (suc m) x bytes after rest lt e f = rw (e, f) refl

  next_again : (m : ℕ) (x : A) (xs : List A) (bytes after behind rest : List ℕ) → length bytes < m →
      read bytes ≡ Ok (x, after) → goes after ≡ Ok (true, behind) → length behind < length bytes
      → ((k : ℕ) → length behind < k → more_at goes read k behind ≡ Ok (xs, rest)) →
      more_at goes read m bytes ≡ Ok (x ∷ xs, rest)
  unfolding more_at
  next_again zero x xs bytes after behind rest lt e f less g = absurd (omega arith)
  next_again (suc m) x xs bytes after behind rest lt e f less g = rw (e, f, g m (omega arith)) refl

more_again : (ws : List (List ℕ)) (w : List ℕ) (ts : List Token) (m : ℕ) (bytes after rest : List ℕ) →
    length bytes < m → name_at bytes ≡ Ok (w, after) → SpellsMore SpellsIdentifier ws ts →
    Begins after (ts ++ sign 61 ∷ []) rest → more_at (separator_at 61) name_at m bytes ≡ Ok (w ∷ ws, rest)
more_again [] w ts m bytes after rest lt e h b =
    let c = subst (λ (y : List Token). Begins after (y ++ sign 61 ∷ []) rest) h b in
    last_again (separator_at 61) name_at m w bytes after rest lt e
    (closed_again 61 after rest (subst (λ (y : List ℕ). look after ≡ Ok (sign 61, y)) c.2 c.1))
more_again (v ∷ ws) w ts m bytes after rest lt e h b =
    let c = subst (λ (y : List Token). Begins after (y ++ sign 61 ∷ []) rest) h.4 b in
    let d = Begins-split h.0 (h.1 ++ sign 61 ∷ []) c.0 rest (subst (λ (y : List Token). Begins c.0 y rest)
    (append_assoc h.0 h.1 (sign 61 ∷ [])) c.2) in
    let comma : separator_at 61 after ≡ Ok (true, c.0) = comma_again 61 after c.0 refl c.1 in
    next_again (separator_at 61) name_at m w (v ∷ ws) bytes after c.0 rest lt e comma
    (omega (arith, name_at-shorter bytes (w, after) e, separator_at-shorter 61 after (true, c.0) comma))
    (λ k less. more_again ws v h.1 k c.0 d.0 rest less (name_again v h.0 c.0 d.0 h.2 d.1) h.3 d.2)

-- the first name, and all of them
pub names_again : (w : List ℕ) (ws : List (List ℕ)) (ts : List Token) (bytes rest : List ℕ) →
    SpellsNames (w ∷ ws) ts → Begins bytes ts rest → (after : List ℕ) × (name_at bytes ≡ Ok (w, after)) ×
    (names_at bytes ≡ Ok (w ∷ ws, rest))
unfolding names_at
names_again w ws ts bytes rest h b =
    let s = h.1 in
    let is : ts ≡ s.0 ++ (s.1 ++ sign 61 ∷ []) = h.2 ∙ ap (λ (l : List Token). l ++ sign 61 ∷ []) s.4 ∙
    append_assoc s.0 s.1 (sign 61 ∷ []) in
    let d = Begins-split s.0 (s.1 ++ sign 61 ∷ []) bytes rest (subst (λ (y : List Token). Begins bytes y rest) is b) in
    let first = name_again w s.0 bytes d.0 s.2 d.1 in
    (d.0, first, more_again ws w s.1 (suc (length bytes)) bytes d.0 rest (omega arith) first s.3 d.2)
