-- What stands behind the id of an own operation is read where it stands there.
use Rattle.std.proofs.Common.{◌≡◌, ℕ, ◌≤◌, true, nat_eq, List, [], ◌∷◌, length, Ok, refl, subst, arith}
use Rattle.std.proofs.lemmas.Bool.Decides.{Decides-eqb}
use Rattle.plir_attr_text.specs.Terms.{EntryTerms, entries_levels}
use Rattle.plir_attr_text.specs.Tokens.{Token, word, sign, Begins}
use Rattle.plir_attr_text.specs.AttrGrammar.{SpellsIdentifier, SpellsSeveral, SpellsEntries}
use Rattle.plir_attr_text.specs.TypeGrammar.{enclosed}
use Rattle.plir_attr_text.specs.AttrReading.{name_at}
use Rattle.plir_attr_text.specs.laws.Begun.{Begins-split, sign_again, no_sign}
use Rattle.plir_attr_text.specs.laws.ListsAgain.{IsRead, several_read, word_opens}
use Rattle.plir_attr_text.specs.laws.ListsFound.{several_as}
use Rattle.plir_attr_text.specs.laws.LeavesAgain.{name_again}
use Rattle.plir_attr_text.specs.laws.TypesAgain.{function_of_again}
use Rattle.plir_read_own.specs.OwnTerms.{Uses, Signature, num_types, signature_levels}
use Rattle.plir_read_own.specs.OwnGrammar.{SpellsLabel, SpellsUses, SpellsSignature}
use Rattle.plir_read_own.specs.OwnReading.{label_at, list_at, uses_at, signature_at, typed_at, as_many_types}
use Rattle.plir_read_own.specs.OwnReading.{as_many_names}
use Rattle.plir_read_own.specs.declared.uses.NameList.TheVariants.{Operands, Successors}
use Rattle.plir_read_own.specs.laws.Dictionaries.{entries_again}
use Rattle.plir_read_ir.specs.IrReading.{counted}

-- ---- operands and successors

name_read : (w : List ℕ) (ts : List Token) → SpellsIdentifier w ts → IsRead 41 name_at w ts
name_read w ts h = record {
  reads = λ bytes rest b. name_again w ts bytes rest h b;
  opens = λ bytes rest b. word_opens 41 w [] bytes rest (subst (λ (y : List Token). Begins bytes y rest) h.1 b);
}

label_again : (w : List ℕ) (ts : List Token) (bytes rest : List ℕ) → SpellsLabel w ts → Begins bytes ts rest →
    label_at bytes ≡ Ok (w, rest)
unfolding label_at
label_again w ts bytes rest h b =
    let c = subst (λ (y : List Token). Begins bytes y rest) h.1 b in
    rw (sign_again 94 bytes c.0 c.1) (name_again w (word w ∷ []) c.0 rest (h.0, refl) c.2)

label_read : (w : List ℕ) (ts : List Token) → SpellsLabel w ts → IsRead 93 label_at w ts
label_read w ts h = record {
  reads = λ bytes rest b. label_again w ts bytes rest h b;
  opens = λ bytes rest b.
      let c = subst (λ (y : List Token). Begins bytes y rest) h.1 b in
      no_sign 93 bytes (sign 94, c.0) c.1 refl;
}

operands_again : (ws : List (List ℕ)) (ts : List Token) (bytes rest : List ℕ) → SpellsSeveral SpellsIdentifier ws ts →
    Begins bytes (enclosed 40 ts 41) rest → list_at Operands bytes ≡ Ok (ws, rest)
unfolding list_at
operands_again ws ts bytes rest h b =
    several_read 41 refl name_at 40 ws ts bytes rest (several_as _ _ name_read ws ts h) b

successors_again : (ws : List (List ℕ)) (ts : List Token) (bytes rest : List ℕ) → SpellsSeveral SpellsLabel ws ts →
    Begins bytes (enclosed 91 ts 93) rest → list_at Successors bytes ≡ Ok (ws, rest)
unfolding list_at
successors_again ws ts bytes rest h b =
    several_read 93 refl label_at 91 ws ts bytes rest (several_as _ _ label_read ws ts h) b

pub uses_again : (u : Uses) (ts : List Token) (bytes rest : List ℕ) → SpellsUses u ts → Begins bytes ts rest →
    uses_at bytes ≡ Ok (u, rest)
unfolding uses_at
uses_again u ts bytes rest h b =
    let d = Begins-split (enclosed 40 h.0 41) (enclosed 91 h.1 93) bytes rest
    (subst (λ (y : List Token). Begins bytes y rest) h.4 b) in
    rw (operands_again u.operands h.0 bytes d.0 h.2 d.1, successors_again u.successors h.1 d.0 rest h.3 d.2) refl

-- ---- attributes and types

signature_again : (n : ℕ) (t : Signature) (ts : List Token) (bytes rest : List ℕ) → SpellsSignature t ts →
    signature_levels t ≤ n → Begins bytes ts rest → signature_at n bytes ≡ Ok (t, rest)
unfolding signature_at
signature_again n t ts bytes rest h le b =
    rw (function_of_again n (t.operand_types, t.result_types) ts bytes rest
    (h, omega (arith, le), omega (arith, le)) b) refl

pub typed_again : (n : ℕ) (es : EntryTerms) (t : Signature) (entries signature : List Token) (bytes mid rest : List ℕ) →
    SpellsEntries es entries → entries_levels es ≤ n → SpellsSignature t signature → signature_levels t ≤ n →
    Begins bytes (enclosed 91 entries 93) mid → Begins mid (sign 58 ∷ signature) rest →
    typed_at n bytes ≡ Ok ((es, t), rest)
unfolding typed_at
typed_again n es t entries signature bytes mid rest e le s ls b c = rw (
  entries_again n es entries bytes mid e le b,
  sign_again 58 mid c.0 c.1,
  signature_again n t signature c.0 rest s ls c.2,
) refl

-- ---- numbers

itself : (m n : ℕ) → m ≡ n → nat_eq m n ≡ true
itself m n e = (Decides-eqb m n).1 e

pub counted_again : (names : ℕ) (u : Uses) (t : Signature) → length u.operands ≡ num_types t.operand_types →
    num_types t.result_types ≡ names → counted names u t ≡ Ok tt
unfolding counted as_many_types as_many_names
counted_again names u t e f = rw (itself _ _ e, itself _ _ f) refl
