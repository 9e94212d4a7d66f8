-- Headers that stand there are read.
use Rattle.std.proofs.Common.{◌≡◌, ℕ, ◌≤◌, ◌++◌, true, nat_eq, List, [], ◌∷◌, length, Ok, Option}
use Rattle.std.proofs.Common.{refl, subst, arith}
use Rattle.std.proofs.lemmas.Bool.Decides.{Decides-eqb}
use Rattle.plir_attr_text.specs.Terms.{EntryTerms, entries_levels}
use Rattle.plir_attr_text.specs.Tokens.{Token, word, sign, Begins}
use Rattle.plir_attr_text.specs.AttrGrammar.{SpellsIdentifier, SpellsMore, SpellsSeveral, SpellsEntries}
use Rattle.plir_attr_text.specs.TypeGrammar.{enclosed}
use Rattle.plir_attr_text.specs.AttrReading.{name_at}
use Rattle.plir_attr_text.specs.laws.Begun.{Begins-split, sign_again, no_sign}
use Rattle.plir_attr_text.specs.laws.ListsAgain.{IsRead, several_read, word_opens}
use Rattle.plir_attr_text.specs.laws.LeavesAgain.{name_again}
use Rattle.plir_attr_text.specs.laws.TypesAgain.{function_of_again}
use Rattle.plir_read_own.specs.OwnTerms.{Uses, Signature, num_types, Header, signature_levels}
use Rattle.plir_read_own.specs.OwnGrammar.{SpellsLabel, SpellsUses, SpellsSignature, HeaderWithin}
use Rattle.plir_read_own.specs.OwnReading.{label_at, list_at, uses_at, signature_at, typed_at, as_many_types}
use Rattle.plir_read_own.specs.OwnReading.{as_many_names, counted, header_at}
use Rattle.plir_read_own.specs.declared.uses.NameList.TheVariants.{Operands, Successors}
use Rattle.plir_read_own.specs.laws.Dictionaries.{entries_again}
use Rattle.plir_read_own.specs.laws.Starts.{opening_again}

module _ {X : Type 0} {E F : X → List Token → Type 0} (to : (x : X) (ts : List Token) → E x ts → F x ts) where
  more_as : (xs : List X) (ts : List Token) → SpellsMore E xs ts → SpellsMore F xs ts
  more_as [] ts h = h
  more_as (x ∷ xs) ts h = (h.0, h.1, to x h.0 h.2, more_as xs h.1 h.3, h.4)

  several_as : (xs : List X) (ts : List Token) → SpellsSeveral E xs ts → SpellsSeveral F xs ts
  several_as [] ts h = h
  several_as (x ∷ xs) ts h = (h.0, h.1, to x h.0 h.2, more_as xs h.1 h.3, h.4)

-- ---- operands and successors

name_read : (w : List ℕ) (ts : List Token) → SpellsIdentifier w ts → IsRead 41 name_at w ts
name_read w ts h = record {
  reads = λ bytes rest b. name_again w ts bytes rest h b;
  opens = λ bytes rest b. word_opens 41 w [] bytes rest (subst (λ (y : List Token). Begins bytes y rest) h.1 b);
}

label_again : (w : List ℕ) (ts : List Token) (bytes rest : List ℕ) → SpellsLabel w ts → Begins bytes ts rest →
    label_at bytes ≡ Ok (w, rest)
unfolding label_at
label_again w ts bytes rest h b =
    let c = subst (λ (y : List Token). Begins bytes y rest) h.1 b in
    rw (sign_again 94 bytes c.0 c.1) (name_again w (word w ∷ []) c.0 rest (h.0, refl) c.2)

label_read : (w : List ℕ) (ts : List Token) → SpellsLabel w ts → IsRead 93 label_at w ts
label_read w ts h = record {
  reads = λ bytes rest b. label_again w ts bytes rest h b;
  opens = λ bytes rest b.
      let c = subst (λ (y : List Token). Begins bytes y rest) h.1 b in
      no_sign 93 bytes (sign 94, c.0) c.1 refl;
}

operands_again : (ws : List (List ℕ)) (ts : List Token) (bytes rest : List ℕ) → SpellsSeveral SpellsIdentifier ws ts →
    Begins bytes (enclosed 40 ts 41) rest → list_at Operands bytes ≡ Ok (ws, rest)
unfolding list_at
operands_again ws ts bytes rest h b =
    several_read 41 refl name_at 40 ws ts bytes rest (several_as name_read ws ts h) b

successors_again : (ws : List (List ℕ)) (ts : List Token) (bytes rest : List ℕ) → SpellsSeveral SpellsLabel ws ts →
    Begins bytes (enclosed 91 ts 93) rest → list_at Successors bytes ≡ Ok (ws, rest)
unfolding list_at
successors_again ws ts bytes rest h b =
    several_read 93 refl label_at 91 ws ts bytes rest (several_as label_read ws ts h) b

uses_again : (u : Uses) (ts : List Token) (bytes rest : List ℕ) → SpellsUses u ts → Begins bytes ts rest →
    uses_at bytes ≡ Ok (u, rest)
unfolding uses_at
uses_again u ts bytes rest h b =
    let d = Begins-split (enclosed 40 h.0 41) (enclosed 91 h.1 93) bytes rest
    (subst (λ (y : List Token). Begins bytes y rest) h.4 b) in
    rw (operands_again u.operands h.0 bytes d.0 h.2 d.1, successors_again u.successors h.1 d.0 rest h.3 d.2) refl

-- ---- attributes and types

signature_again : (n : ℕ) (t : Signature) (ts : List Token) (bytes rest : List ℕ) → SpellsSignature t ts →
    signature_levels t ≤ n → Begins bytes ts rest → signature_at n bytes ≡ Ok (t, rest)
unfolding signature_at
signature_again n t ts bytes rest h le b =
    rw (function_of_again n (t.operand_types, t.result_types) ts bytes rest
    (h, omega (arith, le), omega (arith, le)) b) refl

typed_again : (n : ℕ) (es : EntryTerms) (t : Signature) (entries signature : List Token) (bytes mid rest : List ℕ) →
    SpellsEntries es entries → entries_levels es ≤ n → SpellsSignature t signature → signature_levels t ≤ n →
    Begins bytes (enclosed 91 entries 93) mid → Begins mid (sign 58 ∷ signature) rest →
    typed_at n bytes ≡ Ok ((es, t), rest)
unfolding typed_at
typed_again n es t entries signature bytes mid rest e le s ls b c = rw (
  entries_again n es entries bytes mid e le b,
  sign_again 58 mid c.0 c.1,
  signature_again n t signature c.0 rest s ls c.2,
) refl

-- ---- headers

itself : (m n : ℕ) → m ≡ n → nat_eq m n ≡ true
itself m n e = (Decides-eqb m n).1 e

counted_again : (names : List (List ℕ)) (u : Uses) (t : Signature) → length u.operands ≡ num_types t.operand_types →
    num_types t.result_types ≡ length names → counted names u t ≡ Ok tt
unfolding counted as_many_types as_many_names
counted_again names u t e f = rw (itself _ _ e, itself _ _ f) refl

module _ {K : Type 0} (find : List ℕ → Option K) where
  pub header_again : (n : ℕ) (h : Header K) (ts : List Token) (bytes rest : List ℕ) → HeaderWithin find n h ts →
      Begins bytes ts rest → header_at find n bytes ≡ Ok (h, rest)
  unfolding header_at
  header_again n h ts bytes rest w b =
      let s = w.0 in
      let typed = enclosed 91 s.entries 93 ++ sign 58 ∷ s.signature in
      let d = Begins-split s.names (s.id ++ (s.uses ++ typed)) bytes rest
      (subst (λ (y : List Token). Begins bytes y rest) s.tokens b) in
      let i = Begins-split s.id (s.uses ++ typed) d.0 rest d.2 in
      let u = Begins-split s.uses typed i.0 rest i.2 in
      let t = Begins-split (enclosed 91 s.entries 93) (sign 58 ∷ s.signature) u.0 rest u.2 in
      rw (
        opening_again find h.names h.kind s.names s.id bytes d.0 i.0 s.are_names s.is_id d.1 i.1,
        uses_again h.uses s.uses i.0 u.0 s.are_uses u.1,
        typed_again n h.entries h.signature s.entries s.signature u.0 t.0 rest s.are_entries (omega (arith, w.1))
            s.is_signature (omega (arith, w.1)) t.1 t.2,
        counted_again h.names h.uses h.signature s.typed_operands s.typed_results,
      ) refl
