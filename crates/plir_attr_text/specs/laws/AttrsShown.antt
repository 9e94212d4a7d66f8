-- The text of an attribute stands for it.
use Rattle.std.proofs.Common.{◌≡◌, ℕ, ◌<◌, ◌≤◌, ◌^◌, Bool, true, false, ◌||◌, nat_eq, List, [], ◌∷◌, ◌++◌, Option, Some}
use Rattle.std.proofs.Common.{None, Ok, codes, refl, sym, ap, subst, ◌∙◌, arith, append-nil, append_assoc}
use Rattle.std.proofs.lemmas.Bool.Decides.{Decides-eqb}
use Rattle.std.specs.Fmt.{decimal}
use Rattle.plir_data.specs.{OwnParts.Part, AttrVerify.is_of_width}
use Rattle.plir_data.specs.AttrView as views
use Rattle.plir_data.specs.AttrView.{Leaf, AttrView, leaf, dict, vec, Items, no_items, item, Entries, no_entries, entry}
use Rattle.plir_data.specs.AttrView.{items_of, entries_of}
use Rattle.plir_data.specs.Identifier.{is_identifier, is_letter, is_digit}
use Rattle.plir_data.specs.{Dictionary.IsDictionary, Integers.literal, Laws.IsDictOfItself, TypeText.type_text}
use Rattle.plir_data.specs.Types as types
use Rattle.plir_data.specs.Types.{TypeView, IsTypeTable, type_at, prints_as_signed}
use Rattle.plir_data.specs.{declared.types.Signedness.Signedness}
use Rattle.plir_attr_text.specs.AttrGrammar.{truth, SpellsIdentifier, SpellsSize, SpellsName, Spells, SpellsItems}
use Rattle.plir_attr_text.specs.AttrGrammar.{SpellsMoreItems, SpellsEntries, SpellsMoreEntries}
use Rattle.plir_attr_text.specs.AttrText.{is_signed, bare_text, leaf_text, attr_text, items_text, more_items_text}
use Rattle.plir_attr_text.specs.AttrText.{entries_text, more_entries_text}
use Rattle.plir_attr_text.specs.Meaning.{IsMeant, AreMeant, AreEntriesMeant, StandsFor}
use Rattle.plir_attr_text.specs.{Bytes.is_in_word, Names.Grows}
use Rattle.plir_attr_text.specs.Terms as terms
use Rattle.plir_attr_text.specs.Writable.{IsNameOrMark, pairs_of, IsLeafWritable, IsWritable, AreItemsWritable}
use Rattle.plir_attr_text.specs.Writable.{AreEntriesWritable, leaf_term, attr_term, attr_terms, entry_terms}
use Rattle.plir_attr_text.specs.Writable.{signedness_of}
use Rattle.plir_attr_text.specs.laws.Printed.{Ends, IsValue, is_word, look-word, look-spaced, look-decimal, value_text}
use Rattle.plir_attr_text.specs.laws.Printed.{value_spelled, integer-begins}
use Rattle.plir_attr_text.specs.laws.Runs.{Run, Shown, Tail, Shown-as, Run-as, Tail-as, behind_id, word-shown}
use Rattle.plir_attr_text.specs.laws.Runs.{identifier_is_word, listed, nothing, behind_first, behind_comma}
use Rattle.plir_attr_text.specs.laws.Runs.{begins-spaced, several-shown}
use Rattle.plir_attr_text.specs.{Terms.levels, Tokens.Token, Tokens.word, Tokens.digits, Tokens.sign, Tokens.look}
use Rattle.plir_attr_text.specs.{Tokens.Begins, Written.name_or_mark, laws.QuotedAgain.string-shown}
use Rattle.plir_attr_text.specs.{laws.Meanings.IsMeant-grown, laws.TypesShown.type-shown, laws.TypesShown.type_named}

-- ---- leaves

identifier-shown : (w : List ℕ) → is_identifier w ≡ true → Shown (SpellsIdentifier w) w
identifier-shown w h = Shown-as (λ ts s. (h, s)) (word-shown w (identifier_is_word w h))

truth_is_word : (b : Bool) → is_word (truth b) ≡ true
truth_is_word true = refl
truth_is_word false = refl

digits_end : (rest : List ℕ) → Ends is_in_word rest → Ends is_digit rest
digits_end [] e = tt
digits_end (b ∷ bs) e = at (is_letter b) (is_digit b) e
  where
    at : (l d : Bool) → (l || (d || nat_eq b 46)) ≡ false → d ≡ false
    at l false f = refl
    at true true f = absurd cc
    at false true f = absurd cc

size-shown : (n : ℕ) → n < 2 ^ 32 → Shown (SpellsSize n) (decimal n)
size-shown n lt = record {
  first = digits n;
  others = [];
  spelled = (lt, refl);
  begun = λ rest e. (
    rest,
    look-decimal n rest (omega (arith, lt)) (digits_end rest e),
    refl,
  );
}

look-mark : (rest : List ℕ) → look (63 ∷ rest) ≡ Ok (sign 63, rest)
unfolding look
look-mark rest = refl

name-shown : (n : Option (List ℕ)) → IsNameOrMark n → Shown (SpellsName n) (name_or_mark n)
name-shown (Some w) h = identifier-shown w h
name-shown None h = record {
  first = sign 63;
  others = [];
  spelled = refl;
  begun = λ rest e. (
    rest,
    look-mark rest,
    refl,
  );
}

value-shown : (k : Signedness) (w b : ℕ) → IsValue w b →
    Shown (Spells (terms.integer k w b)) (value_text (prints_as_signed k w) k w b)
value-shown k w b v = record {
  first = word (codes "builtin.integer");
  others = _;
  spelled = (_, value_spelled (prints_as_signed k w) k w b v, refl);
  begun = λ rest e. integer-begins (prints_as_signed k w) k w b rest v;
}

module _ {T : Type 0} where
  -- the type of a verified integer
  pub verified_type : (o : Option (TypeView T)) (w : ℕ) → is_of_width w o ≡ true →
      (s : Signedness) × (o ≡ Some (types.integer s w))
  verified_type (Some (types.integer s v)) w e = (s, ap (λ n. Some (types.integer s n)) ((Decides-eqb v w).0 e))
  verified_type (Some (types.function a r)) w e = absurd cc
  verified_type (Some types.unit) w e = absurd cc
  verified_type (Some (types.own t)) w e = absurd cc
  verified_type None w e = absurd cc

module _ {A T : Type 0} (own_id : A → List ℕ) (own_body : A → List Part) (type_id : T →
    List ℕ) (type_body : T → List Part) (table : List (TypeView T)) where
  abbrev text_by : (h w b : ℕ) → Option (TypeView T) → List ℕ
  text_by h w b o = codes "builtin.integer <" ++
      (literal (is_signed o) w b ++ (codes ": " ++ (bare_text (type_text type_id type_body table h) o ++ codes ">")))

  integer-shown : (h w b : ℕ) → IsValue w b → is_of_width w (type_at table h) ≡ true →
      Shown (Spells (terms.integer (signedness_of (type_at table h)) w b)) (text_by h w b (type_at table h))
  integer-shown h w b v e = let t = verified_type (type_at table h) w e in
      subst (λ o. Shown (Spells (terms.integer (signedness_of o) w b)) (text_by h w b o)) (sym t.1)
      (value-shown t.0 w b v)

  leaf-shown : (x : Leaf A) → IsLeafWritable table x →
      Shown (Spells (leaf_term table x)) (leaf_text own_id own_body type_id type_body table x)
  leaf-shown (views.identifier w) h = behind_id (codes "builtin.identifier") refl (identifier-shown w h)
  leaf-shown (views.string s) h = behind_id (codes "builtin.string") refl (string-shown s h)
  leaf-shown (views.bool b) h = behind_id (codes "builtin.bool") refl (word-shown (truth b) (truth_is_word b))
  leaf-shown (views.integer handle w b) h = integer-shown handle w b (record { some = h.0; few = h.1; below = h.2 }) h.3
  leaf-shown views.unit h = word-shown (codes "builtin.unit") refl
  leaf-shown (views.type_of handle) h =
      behind_id (codes "builtin.type") refl (type-shown type_id type_body table handle h.1)
  leaf-shown (views.operand_segment_sizes ns) h =
      listed (codes "builtin.operand_segment_sizes") refl (several-shown SpellsSize decimal (λ n. n < 2 ^ 32) size-shown
      ns h)
  leaf-shown (views.given_names ns) h =
      listed (codes "builtin.given_names") refl (several-shown SpellsName name_or_mark IsNameOrMark name-shown ns h)
  leaf-shown (views.own a) h = absurd h

-- ---- entries

look-equals : (rest : List ℕ) → look (61 ∷ rest) ≡ Ok (sign 61, rest)
unfolding look
look-equals rest = refl

pub entry-shown : {E : List Token → Type 0} {text : List ℕ} (k : List ℕ) → is_identifier k ≡ true → Shown E text →
    Shown (λ ts. (behind : List Token) × (is_identifier k ≡ true) × E behind × (ts ≡ word k ∷ sign 61 ∷ behind)) (k ++
    32 ∷ 61 ∷ 32 ∷ text)
entry-shown {E} {text} k h p = record {
  first = word k;
  others = sign 61 ∷ p.first ∷ p.others;
  spelled = (p.first ∷ p.others, h, p.spelled, refl);
  begun = λ rest e. subst (λ bytes. Begins bytes (word k ∷ sign 61 ∷ p.first ∷ p.others) rest)
      (sym (append_assoc k (32 ∷ 61 ∷ 32 ∷ text) rest)) (
        32 ∷ 61 ∷ 32 ∷ (text ++ rest),
        look-word k (32 ∷ 61 ∷ 32 ∷ (text ++ rest)) (identifier_is_word k h) refl,
        (
          32 ∷ (text ++ rest),
          look-spaced (61 ∷ 32 ∷ (text ++ rest)) ∙ look-equals (32 ∷ (text ++ rest)),
          begins-spaced (text ++ rest) p.first p.others rest (p.begun rest e),
        ),
      );
}

-- an entry and those behind it
module _ {E F : List Token → Type 0} {text more : List ℕ} (k : List ℕ) (h : is_identifier k ≡ true) (p : Shown E text)
    (m : Tail F more) where
  regroup : k ++ (32 ∷ 61 ∷ 32 ∷ (text ++ more)) ≡ (k ++ 32 ∷ 61 ∷ 32 ∷ text) ++ more
  regroup = sym (append_assoc k (32 ∷ 61 ∷ 32 ∷ text) more)

  abbrev SpellsFirst : List Token → Type 0
  SpellsFirst ts = (first others : List Token) × (is_identifier k ≡ true) × E first × F others × (ts ≡ word k ∷
      sign 61 ∷ (first ++ others))

  abbrev SpellsNext : List Token → Type 0
  SpellsNext ts = (first others : List Token) × (is_identifier k ≡ true) × E first × F others × (ts ≡ sign 44 ∷ word k ∷
      sign 61 ∷ (first ++ others))

  first_entry : Run SpellsFirst (k ++ (32 ∷ 61 ∷ 32 ∷ (text ++ more)))
  first_entry = subst (Run SpellsFirst) (sym regroup) (Run-as (λ ts s. (
    s.2.0,
    s.1,
    s.2.1,
    s.2.2,
    s.3,
    s.4 ∙
        ap (λ l. l ++ s.1) s.2.3,
  )) (behind_first (entry-shown k h p) m))

  next_entry : Tail SpellsNext (44 ∷ 32 ∷ (k ++ (32 ∷ 61 ∷ 32 ∷ (text ++ more))))
  next_entry = subst (λ bytes. Tail SpellsNext (44 ∷ 32 ∷ bytes)) (sym regroup)
      (Tail-as (λ ts s. (s.2.0, s.1, s.2.1, s.2.2, s.3, s.4 ∙ ap (λ l. sign 44 ∷ (l ++ s.1)) s.2.3))
      (behind_comma (entry-shown k h p) m))

-- ---- attributes in attributes

module _ {A T : Type 0} (own_id : A → List ℕ) (own_body : A → List Part) (type_id : T →
    List ℕ) (type_body : T → List Part) (table : List (TypeView T)) where
  mutual
    pub attr-shown : (x : AttrView A) → IsWritable table x →
        Shown (Spells (attr_term table x)) (attr_text own_id own_body type_id type_body table x)
    attr-shown (leaf x) h = leaf-shown own_id own_body type_id type_body table x h
    attr-shown (dict es) h = listed (codes "builtin.dict") refl (entries-shown es h.0 h.1)
    attr-shown (vec xs) h = listed (codes "builtin.vec") refl (items-shown xs h)

    items-shown : (xs : Items A) → AreItemsWritable table xs →
        Run (SpellsItems (attr_terms table xs)) (items_text own_id own_body type_id type_body table xs)
    items-shown no_items h = nothing.run
    items-shown (item x xs) h = behind_first (attr-shown x h.0) (more_items-shown xs h.1)

    more_items-shown : (xs : Items A) → AreItemsWritable table xs →
        Tail (SpellsMoreItems (attr_terms table xs)) (more_items_text own_id own_body type_id type_body table xs)
    more_items-shown no_items h = nothing
    more_items-shown (item x xs) h = behind_comma (attr-shown x h.0) (more_items-shown xs h.1)

    entries-shown : (es : Entries A) → IsDictionary (pairs_of es) → AreEntriesWritable table es →
        Run (SpellsEntries (entry_terms table es)) (entries_text own_id own_body type_id type_body table es)
    entries-shown no_entries d h = nothing.run
    entries-shown (entry k x es) d h = first_entry k d.0 (attr-shown x h.0) (more_entries-shown es d.2 h.1)

    more_entries-shown : (es : Entries A) → IsDictionary (pairs_of es) → AreEntriesWritable table es →
        Tail (SpellsMoreEntries (entry_terms table es)) (more_entries_text own_id own_body type_id type_body table es)
    more_entries-shown no_entries d h = nothing
    more_entries-shown (entry k x es) d h = next_entry k d.0 (attr-shown x h.0) (more_entries-shown es d.2 h.1)

-- ---- what the terms mean

module _ {A : Type 0} where
  abbrev items_in : Items A → List (AttrView A)
  items_in no_items = []
  items_in (item x xs) = x ∷ items_in xs

  items_again : (xs : Items A) → items_of (items_in xs) ≡ xs
  items_again no_items = refl
  items_again (item x xs) = ap (λ l. item x l) (items_again xs)

  entries_again : (es : Entries A) → entries_of (pairs_of es) ≡ es
  entries_again no_entries = refl
  entries_again (entry k x es) = ap (λ l. entry k x l) (entries_again es)

module _ {A T : Type 0} (itself : IsDictOfItself (AttrView A)) (own_handles : T → List ℕ) (table : List (TypeView T))
    (whole : IsTypeTable own_handles table) where
  integer_meant : (h w b : ℕ) → is_of_width w (type_at table h) ≡ true →
      IsMeant {A = A} table (terms.integer (signedness_of (type_at table h)) w b) (leaf (views.integer h w b))
  integer_meant h w b e = let t = verified_type (type_at table h) w e in
      (h, t.1 ∙ ap (λ o. Some (types.integer (signedness_of o) w)) (sym t.1), refl)

  leaf_meant : (x : Leaf A) → IsLeafWritable table x → IsMeant table (leaf_term table x) (leaf x)
  leaf_meant (views.identifier w) h = refl
  leaf_meant (views.string s) h = refl
  leaf_meant (views.bool b) h = refl
  leaf_meant (views.integer handle w b) h = integer_meant handle w b h.3
  leaf_meant views.unit h = refl
  leaf_meant (views.type_of handle) h = (handle, type_named own_handles table whole handle h.0 h.1, refl)
  leaf_meant (views.operand_segment_sizes ns) h = refl
  leaf_meant (views.given_names ns) h = refl
  leaf_meant (views.own a) h = absurd h

  mutual
    pub attr_meant : (x : AttrView A) → IsWritable table x → IsMeant table (attr_term table x) x
    attr_meant (leaf x) h = leaf_meant x h
    attr_meant (dict es) h = (
      pairs_of es,
      entries_meant es h.1,
      ap dict (sym (ap entries_of (itself (pairs_of es) h.0) ∙ entries_again es)),
    )
    attr_meant (vec xs) h = (items_in xs, items_meant xs h, ap vec (sym (items_again xs)))

    items_meant : (xs : Items A) → AreItemsWritable table xs → AreMeant table (attr_terms table xs) (items_in xs)
    items_meant no_items h = refl
    items_meant (item x xs) h = (x, items_in xs, attr_meant x h.0, items_meant xs h.1, refl)

    entries_meant : (es : Entries A) → AreEntriesWritable table es →
        AreEntriesMeant table (entry_terms table es) (pairs_of es)
    entries_meant no_entries h = refl
    entries_meant (entry k x es) h = (x, pairs_of es, attr_meant x h.0, entries_meant es h.1, refl)

  -- the text of an attribute stands for it, with as many levels as it has, also in a table that has grown on
  pub text_stands : (own_id : A → List ℕ) (own_body : A → List Part) (type_id : T →
      List ℕ) (type_body : T → List Part) (n : ℕ) (new : List (TypeView T)) → Grows table new →
      (x : AttrView A) → IsWritable table x → levels (attr_term table x) ≤ n →
      StandsFor n new (attr_text own_id own_body type_id type_body table x) x
  text_stands own_id own_body type_id type_body n new g x h le =
      let text = attr_text own_id own_body type_id type_body table x in
      let shown = attr-shown own_id own_body type_id type_body table x h in (
        attr_term table x,
        record {
          tokens = shown.first ∷ shown.others;
          are_tokens = record {
            rest = [];
            begins = subst (λ bytes. Begins bytes (shown.first ∷ shown.others) [])
                (append-nil text) (shown.begun [] tt);
            blank = refl;
          };
          spelled = (shown.spelled, le);
        },
        IsMeant-grown table new g (attr_term table x) x (attr_meant x h),
      )
