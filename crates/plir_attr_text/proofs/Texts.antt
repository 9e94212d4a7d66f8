-- What the readers of whole texts answer, and what they leave in the table.
use Rattle.std.proofs.Common.{◌≡◌, ◌≢◌, ℕ, List, Result, Ok, Err, IfOk, IfErr, ap, sym, ◌∙◌, subst}
use Rattle.plir_data.specs.Types.{TypeView}
use Rattle.plir_attr_text.specs.{declared.fault.Fault.Fault, Terms.TypeTerm, Names.Grows, Names.AreNamed, Names.Adds}
use Rattle.plir_attr_text.specs.{Wholes.whole, Faults.HasNoPlace, Reading.Reads, Reading.IsAnswerOf}
use Rattle.plir_attr_text.specs.declared.fault.{Fault.TheVariants.Memory, ReadErr.ReadErr, Stop.Stop}
use Rattle.plir_attr_text.specs.laws.Growth.{named_by}
use Rattle.plir_attr_text.proofs.Wholes.{told, no_place}

-- types that are written in the text have come last, and where it stands for something they are parts of that
pub record Keeps {S T X : Type 0} (types : S → List (TypeView T)) (same : S → S → Type 0)
    (written : TypeTerm → Type 0) (stands : X → Type 0) (part : X → TypeTerm → Type 0) (old new : S) : Type 0 where
  pub grown : Grows (types old) (types new)
  pub named : AreNamed written (types old) (types new)
  pub held : (x : X) → stands x → AreNamed (part x) (types old) (types new)
  pub rest : same old new

pub keeps : {S T X : Type 0} {types : S → List (TypeView T)} {same : S → S → Type 0}
    (is_in : List ℕ → TypeTerm → Type 0) (written : TypeTerm → Type 0) (stands : X → Type 0)
    (part : X → TypeTerm → Type 0) (bytes text : List ℕ) {old new : S} → bytes ≡ text →
    ((u : TypeTerm) → is_in text u → written u) →
    ((x : X) → stands x → (u : TypeTerm) → is_in text u → part x u) → Adds types same (is_in bytes) old new →
    Keeps types same written stands part old new
keeps {types = types} {same = same} is_in written stands part bytes text {old = a} {new = b} e as_written as_part p =
    let q : Adds types same (is_in text) a b = subst (λ l. Adds types same (is_in l) a b) e p in
    record {
      grown = q.grown;
      named = named_by _ written as_written _ _ q.named;
      held = λ x s. named_by _ (part x) (as_part x s) _ _ q.named;
      rest = q.rest;
    }

-- what a reader of a whole text answers, by what was read of its bytes
module _ {A X : Type 0} (read : List ℕ → Result (A × List ℕ) Fault) (stands : A → Type 0) (means : X → A → Type 0)
    (bytes text : List ℕ) (same : bytes ≡ text) where
  abbrev IsRead : Result X Stop → Type 0
  IsRead r = Reads means r (whole read bytes)

  of_text : (r : Result A Fault) → whole read bytes ≡ r → whole read text ≡ r
  of_text r p = ap (whole read) (sym same) ∙ p

  pub found_by : ((t : A) → whole read text ≡ Ok t → stands t) → (r : Result X Stop) (answer : Result X ReadErr) →
      IsRead r → IsAnswerOf r answer → IfOk answer (λ x. (t : A) × stands t × means x t)
  found_by sound (Ok x) (Ok y) h is =
      (h.0, sound h.0 (of_text (Ok h.0) h.1), subst (λ z. means z h.0) (sym is) h.2)
  found_by sound (Ok x) (Err e) h is = absurd is
  found_by sound (Err stop) (Ok y) h is = absurd is
  found_by sound (Err stop) (Err e) h is = tt

  pub refused_by : ((f : Fault) → whole read text ≡ Err f → (t : A) → stands t → ⊥) → (r : Result X Stop)
      (answer : Result X ReadErr) → IsRead r → IsAnswerOf r answer →
      IfErr answer (λ e. e.fault ≢ Memory → (t : A) → stands t → ⊥)
  refused_by complete (Ok x) (Ok y) h is = tt
  refused_by complete (Ok x) (Err e) h is = absurd is
  refused_by complete (Err stop) (Ok y) h is = absurd is
  refused_by complete (Err stop) (Err e) h is = λ n t s. complete e.fault (of_text (Err e.fault)
      (told stop e.fault (whole read bytes) is.0 h n)) t s

  pub placed_by : (r : Result X Stop) (answer : Result X ReadErr) → IsRead r → IsAnswerOf r answer →
      IfErr answer HasNoPlace
  placed_by (Ok x) (Ok y) h is = tt
  placed_by (Ok x) (Err e) h is = absurd is
  placed_by (Err stop) (Ok y) h is = absurd is
  placed_by (Err stop) (Err e) h is = no_place stop e (whole read bytes) is.0 is.1 h

-- what follows of a value that was answered
pub if_answered : {X E : Type 0} (P Q : X → Type 0) → ((x : X) → P x → Q x) → (answer : Result X E) → IfOk answer P →
    IfOk answer Q
if_answered P Q on (Ok x) h = on x h
if_answered P Q on (Err e) h = tt
