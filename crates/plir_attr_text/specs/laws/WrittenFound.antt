-- The types that come while a text is read are written in it.
use Rattle.std.proofs.Common.{◌≡◌, ◌⊎◌, ℕ, zero, suc, List, [], ◌++◌, Ok, inl, inr, refl, sym, subst, append_assoc}
use Rattle.plir_attr_text.specs.declared.words.TypeKind.TheVariants.{Integer, Function, Unit}
use Rattle.plir_attr_text.specs.{declared.words.TypeKind.TypeKind, declared.attr_words.AttrKind.AttrKind}
use Rattle.plir_attr_text.specs.declared.attr_words.AttrKind.TheVariants as kinds
use Rattle.plir_attr_text.specs.Terms as terms
use Rattle.plir_attr_text.specs.Terms.{TypeTerm, integer_type, function_type, unit_type}
use Rattle.plir_attr_text.specs.TypeReading.{arrow_at, type_head, type_body, type_at}
use Rattle.plir_attr_text.specs.AttrReading.{entry_at, attr_head, attr_body, attr_at}
use Rattle.plir_attr_text.specs.TypesIn.{IsInInteger, IsInResults, IsInTypeBody, IsInType, IsInFunction, IsInTypes}
use Rattle.plir_attr_text.specs.TypesIn.{IsInEntry, IsInAttr, IsBehindId}
use Rattle.plir_attr_text.specs.laws.Ends.{IsEnd, end_on, takes_end, begins_end, sign_end, arrow_end, name_end}
use Rattle.plir_attr_text.specs.laws.Ends.{item_end}
use Rattle.plir_attr_text.specs.laws.TypesFound.{integer_found, function_found, type_id, type_head_found, type_found}
use Rattle.plir_attr_text.specs.laws.AttrsFound.{id_of, attr_head_found, EntryWithin, entry_found, attr_found}
use Rattle.plir_attr_text.specs.{Tokens.Token, Tokens.word, Tokens.Begins, TypeGrammar.enclosed, TypeGrammar.TypeWithin}
use Rattle.plir_attr_text.specs.{AttrGrammar.AttrWithin, Lists.items_at, TypesWritten.IsWrittenIn}
use Rattle.plir_attr_text.specs.{TypesWritten.IsWrittenBare, laws.Begun.Begins-append, laws.ListsFound.items_found}

-- what is written behind tokens that the text begins with
pub written_on : (bytes rest : List ℕ) → IsEnd bytes rest → (t : TypeTerm) → IsWrittenIn rest t → IsWrittenIn bytes t
written_on bytes rest e t w = record {
  before = e.0 ++ w.before;
  tokens = w.tokens;
  behind = w.behind;
  stand = subst (λ (ts : List Token). Begins bytes ts w.behind) (sym (append_assoc e.0 w.before w.tokens))
      (Begins-append e.0 (w.before ++ w.tokens) bytes rest w.behind e.1 w.stand);
  spelled = w.spelled;
}

-- ---- types

module _ (n : ℕ) where
  -- a type that is read stands first in the text
  type_stands : (bytes rest : List ℕ) (k : TypeKind) (x : TypeTerm × List ℕ) → type_head bytes ≡ Ok (k, rest) →
      type_body (type_at n) k rest ≡ Ok x → IsWrittenIn bytes x.0
  unfolding type_at
  type_stands bytes rest k x h e =
      let f = type_found (suc n) bytes x (rw h e) in
      record { before = []; tokens = f.tokens; behind = x.1; stand = f.begins; spelled = inl f.spelled.0 }

  type_id_end : (bytes rest : List ℕ) (k : TypeKind) → type_head bytes ≡ Ok (k, rest) → IsEnd bytes rest
  type_id_end bytes rest k h = takes_end bytes (word (type_id k)) rest (type_head_found bytes (k, rest) h)

  results_end : (bytes behind : List ℕ) (as_ : List TypeTerm × List ℕ) → items_at 40 41 (type_at n) bytes ≡ Ok as_ →
      arrow_at as_.1 ≡ Ok behind → IsEnd bytes behind
  results_end bytes behind as_ i a =
      let f = items_found (TypeWithin n) 41 (type_at n) (type_found n) 40 bytes as_ i in
      end_on bytes as_.1 behind (begins_end (enclosed 40 f.tokens 41) bytes as_.1 f.begins) (arrow_end as_.1 behind a)

  module _ (rec : (bytes : List ℕ) (t : TypeTerm) → IsInType n bytes t → IsWrittenIn bytes t) where
    in_list : (bytes : List ℕ) (t : TypeTerm) → IsInTypes n bytes t → IsWrittenIn bytes t
    in_list bytes t w = written_on bytes w.0 (item_end (TypeWithin n) 40 41 (type_at n) (type_found n) bytes w.0 w.1) t
        (rec w.0 t w.2)

    in_results : (bytes : List ℕ) (t : TypeTerm) → IsInResults (type_at n) (IsInType n) bytes t → IsWrittenIn bytes t
    in_results bytes t w = written_on bytes w.1 (results_end bytes w.1 w.0 w.2 w.3) t (in_list w.1 t w.4)

    in_signature : (bytes : List ℕ) (t : TypeTerm) → IsInFunction n bytes t → IsWrittenBare bytes t ⊎
        IsWrittenIn bytes t
    in_signature bytes t w = elim w [
      | inl s ↦
          let f = function_found n (type_at n) (type_found n) bytes s.0 s.1 in
          let bare : IsWrittenBare bytes (function_type s.0.0.0 s.0.0.1) = (f.tokens, s.0.1, f.begins, f.spelled.0) in
          inl (subst (λ (u : TypeTerm). IsWrittenBare bytes u) (sym s.2) bare)
      | inr p ↦ inr (written_on bytes p.0 (sign_end 60 bytes p.0 p.1) t (elim (p.2) [
        | inl l ↦ in_list p.0 t l
        | inr r ↦ in_results p.0 t r
      ]))
    ]

    in_type_body : (k : TypeKind) (bytes rest : List ℕ) (t : TypeTerm) → type_head bytes ≡ Ok (k, rest) →
        IsInTypeBody (type_at n) (IsInType n) k rest t → IsWrittenIn bytes t
    in_type_body Integer bytes rest t h w = subst (λ (u : TypeTerm). IsWrittenIn bytes u) (sym w.2)
        (type_stands bytes rest Integer (integer_type w.0.0.0 w.0.0.1, w.0.1) h (rw (w.1) refl))
    in_type_body Function bytes rest t h w = elim w [
      | inl s ↦ subst (λ (u : TypeTerm). IsWrittenIn bytes u) (sym s.2)
          (type_stands bytes rest Function (function_type s.0.0.0 s.0.0.1, s.0.1) h (rw (s.1) refl))
      | inr p ↦ written_on bytes rest (type_id_end bytes rest Function h) t
          (written_on rest p.0 (sign_end 60 rest p.0 p.1) t (elim (p.2) [
            | inl l ↦ in_list p.0 t l
            | inr r ↦ in_results p.0 t r
          ]))
    ]
    in_type_body Unit bytes rest t h w = subst (λ (u : TypeTerm). IsWrittenIn bytes u) (sym w)
        (type_stands bytes rest Unit (unit_type, rest) h refl)

pub type_written : (n : ℕ) (bytes : List ℕ) (t : TypeTerm) → IsInType n bytes t → IsWrittenIn bytes t
unfolding IsInType
type_written zero bytes t w = absurd w
type_written (suc n) bytes t w = in_type_body n (type_written n) w.0.0 bytes w.0.1 t w.1 w.2

pub integer_written : (bytes : List ℕ) (t : TypeTerm) → IsInInteger bytes t → IsWrittenBare bytes t
integer_written bytes t w =
    let f = integer_found bytes w.0 w.1 in
    let bare : IsWrittenBare bytes (integer_type w.0.0.0 w.0.0.1) = (f.tokens, w.0.1, f.begins, f.spelled) in
    subst (λ (u : TypeTerm). IsWrittenBare bytes u) (sym w.2) bare

pub function_written : (n : ℕ) (bytes : List ℕ) (t : TypeTerm) → IsInFunction n bytes t → IsWrittenBare bytes t ⊎
    IsWrittenIn bytes t
function_written n bytes t w = in_signature n (type_written n) bytes t w

-- ---- attributes

module _ (n : ℕ) where
  -- the type of an integer that is read
  integer_stands : (bytes rest : List ℕ) (t : TypeTerm) → attr_head bytes ≡ Ok (kinds.Integer, rest) →
      IsBehindId n kinds.Integer rest t → IsWrittenIn bytes t
  unfolding attr_at
  integer_stands bytes rest t h w =
      let v = w.0.0 in
      let e : attr_body n (attr_at n) kinds.Integer rest ≡ Ok (terms.integer v.0.0 v.0.1 v.1, w.0.1) = rw (w.1) refl in
      let f = attr_found (suc n) bytes (terms.integer v.0.0 v.0.1 v.1, w.0.1) (rw h e) in
      let read : IsWrittenIn bytes (integer_type v.0.0 v.0.1) = record {
        before = [];
        tokens = f.tokens;
        behind = w.0.1;
        stand = f.begins;
        spelled = inr (v.1, f.spelled.0);
      } in
      subst (λ (u : TypeTerm). IsWrittenIn bytes u) (sym w.2) read

  attr_id_end : (bytes rest : List ℕ) (k : AttrKind) → attr_head bytes ≡ Ok (k, rest) → IsEnd bytes rest
  attr_id_end bytes rest k h = takes_end bytes (word (id_of k)) rest (attr_head_found bytes (k, rest) h)

  module _ (rec : (bytes : List ℕ) (t : TypeTerm) → IsInAttr n bytes t → IsWrittenIn bytes t) where
    in_entry : (bytes : List ℕ) (t : TypeTerm) → IsInEntry (IsInAttr n) bytes t → IsWrittenIn bytes t
    in_entry bytes t w =
        let key = end_on bytes w.0.1 w.1 (name_end bytes w.0.0 w.0.1 w.2) (sign_end 61 w.0.1 w.1 w.3) in
        written_on bytes w.1 key t (rec w.1 t w.4)

    in_entries : (bytes : List ℕ) (t : TypeTerm) → IsBehindId n kinds.Dict bytes t → IsWrittenIn bytes t
    in_entries bytes t w =
        let sound = entry_found n (attr_at n) (attr_found n) in
        let item = item_end (EntryWithin n) 91 93 (entry_at (attr_at n)) sound bytes w.0 w.1 in
        written_on bytes w.0 item t (in_entry w.0 t w.2)

    in_items : (bytes : List ℕ) (t : TypeTerm) → IsBehindId n kinds.Vec bytes t → IsWrittenIn bytes t
    in_items bytes t w = written_on bytes w.0 (item_end (AttrWithin n) 91 93 (attr_at n) (attr_found n) bytes w.0 w.1) t
        (rec w.0 t w.2)

    in_attr_body : (k : AttrKind) (bytes rest : List ℕ) (t : TypeTerm) → attr_head bytes ≡ Ok (k, rest) →
        IsBehindId n k rest t → IsWrittenIn bytes t
    in_attr_body kinds.Identifier bytes rest t h w = absurd w
    in_attr_body kinds.String bytes rest t h w = absurd w
    in_attr_body kinds.Bool bytes rest t h w = absurd w
    in_attr_body kinds.Integer bytes rest t h w = integer_stands bytes rest t h w
    in_attr_body kinds.Dict bytes rest t h w =
        written_on bytes rest (attr_id_end bytes rest kinds.Dict h) t (in_entries rest t w)
    in_attr_body kinds.Vec bytes rest t h w =
        written_on bytes rest (attr_id_end bytes rest kinds.Vec h) t (in_items rest t w)
    in_attr_body kinds.Unit bytes rest t h w = absurd w
    in_attr_body kinds.TypeOf bytes rest t h w =
        written_on bytes rest (attr_id_end bytes rest kinds.TypeOf h) t (type_written n rest t w)
    in_attr_body kinds.OperandSegmentSizes bytes rest t h w = absurd w
    in_attr_body kinds.GivenNames bytes rest t h w = absurd w

pub attr_written : (n : ℕ) (bytes : List ℕ) (t : TypeTerm) → IsInAttr n bytes t → IsWrittenIn bytes t
unfolding IsInAttr
attr_written zero bytes t w = absurd w
attr_written (suc n) bytes t w = in_attr_body n (attr_written n) w.0.0 bytes w.0.1 t w.1 w.2

-- the entries of a dictionary
pub entries_written : (n : ℕ) (bytes : List ℕ) (t : TypeTerm) → IsBehindId n kinds.Dict bytes t → IsWrittenIn bytes t
entries_written n bytes t w = in_entries n (attr_written n) bytes t w
