-- Entries that are read stand there, and those that stand there are read.
use Rattle.std.proofs.Common.{◌≡◌, ℕ, suc, ◌≤◌, ◌++◌, List, ◌∷◌, codes, Result, Ok, refl, sym, ap, subst}
use Rattle.std.proofs.Common.{◌∙◌, arith}
use Rattle.plir_attr_text.specs.declared.attr_words.AttrKind.TheVariants as kinds
use Rattle.plir_attr_text.specs.declared.fault.Fault.{Fault}
use Rattle.plir_attr_text.specs.Steps.{◌>>=◌}
use Rattle.plir_attr_text.specs.Terms as terms
use Rattle.plir_attr_text.specs.Terms.{AttrTerm, EntryTerms, no_entries, entries_of, entries_levels}
use Rattle.plir_attr_text.specs.Tokens.{Token, word, sign, look, Begins}
use Rattle.plir_attr_text.specs.AttrGrammar.{SpellsEntries}
use Rattle.plir_attr_text.specs.TypeGrammar.{enclosed}
use Rattle.plir_attr_text.specs.Lists.{sign_at, items_at}
use Rattle.plir_attr_text.specs.AttrReading.{attr_kind, attr_head, entry_at, attr_at}
use Rattle.plir_attr_text.specs.laws.StepLaws.{bind_ok, done, ok_is}
use Rattle.plir_attr_text.specs.laws.Begun.{word_again}
use Rattle.plir_attr_text.specs.laws.ListsFound.{FoundOne, IsSound}
use Rattle.plir_attr_text.specs.laws.AttrsFound.{attr_found}
use Rattle.plir_attr_text.specs.laws.AttrsAgain.{attr_again}
use Rattle.plir_read_own.specs.OwnReading.{entries_at}

-- ---- entries are those of an attribute: the id of dictionaries stands before them

abbrev with_id : List ℕ → List ℕ
with_id bytes = codes "builtin.dict " ++ bytes

abbrev dict_id : List ℕ
dict_id = codes "builtin.dict"

looks_id : (bytes : List ℕ) → look (with_id bytes) ≡ Ok (word dict_id, 32 ∷ bytes)
unfolding look
looks_id bytes = refl

looks_behind : (bytes : List ℕ) → look (32 ∷ bytes) ≡ look bytes
unfolding look
looks_behind bytes = refl

items_behind : {A : Type 0} (read : List ℕ → Result (A × List ℕ) Fault) (bytes : List ℕ) →
    items_at 91 93 read (32 ∷ bytes) ≡ items_at 91 93 read bytes
unfolding items_at sign_at
items_behind read bytes = rw (looks_behind bytes) refl

reads_id : (bytes : List ℕ) → attr_head (with_id bytes) ≡ Ok (kinds.Dict, 32 ∷ bytes)
unfolding attr_head attr_kind
reads_id bytes = rw (word_again (with_id bytes) dict_id (32 ∷ bytes) (looks_id bytes)) refl

abbrev Entries : Type 0
Entries = List (List ℕ × AttrTerm) × List ℕ

-- entries in brackets, one by one
abbrev listed_at : ℕ → List ℕ → Result Entries Fault
listed_at n bytes = items_at 91 93 (entry_at (attr_at n)) bytes

reads_dict : (n : ℕ) (bytes : List ℕ) →
    attr_at (suc n) (with_id bytes) ≡ (listed_at n bytes >>= λ es. done (terms.dict (entries_of es.0), es.1))
unfolding attr_at
reads_dict n bytes = rw (reads_id bytes)
    (ap (λ (r : Result Entries Fault). r >>= λ es. done (terms.dict (entries_of es.0), es.1))
    (items_behind (entry_at (attr_at n)) bytes))

-- entries in brackets, with at most n levels in them
abbrev pub EntriesWithin : ℕ → EntryTerms → List Token → Type 0
EntriesWithin n es ts = (inner : List Token) × SpellsEntries es inner × (entries_levels es ≤ n) × (ts ≡ enclosed 91 inner 93)

listed_found : (n : ℕ) (bytes : List ℕ) (x : Entries) → listed_at n bytes ≡ Ok x →
    FoundOne (EntriesWithin n) bytes (entries_of x.0) x.1
listed_found n bytes x e =
    let read : attr_at (suc n) (with_id bytes) ≡ Ok (terms.dict (entries_of x.0), x.1) = reads_dict n bytes ∙
    rw e refl in
    let f = attr_found (suc n) (with_id bytes) (terms.dict (entries_of x.0), x.1) read in
    let s = f.spelled.0 in
    let b = subst (λ ts. Begins (with_id bytes) ts x.1) s.2 f.begins in
    let behind : b.0 ≡ 32 ∷ bytes =
    ap (λ (y : Token × List ℕ). y.1)
    (ok_is (word dict_id, b.0) (word dict_id, 32 ∷ bytes) (sym b.1 ∙ looks_id bytes)) in
    let inside = b.2 in
    record {
      tokens = enclosed 91 s.0 93;
      begins = (
        inside.0,
        sym (looks_behind bytes) ∙
            subst (λ (z : List ℕ). look z ≡ Ok (sign 91, inside.0)) behind inside.1,
        inside.2,
      );
      spelled = (s.0, s.1, omega (arith, f.spelled.1), refl);
    }

pub entries_found : (n : ℕ) → IsSound (EntriesWithin n) (entries_at n)
unfolding entries_at
entries_found n bytes x e =
    let a = bind_ok (listed_at n bytes) (λ y. Ok (entries_of y.0, y.1)) x e in
    subst (λ (y : EntryTerms × List ℕ). FoundOne (EntriesWithin n) bytes y.0 y.1) (ok_is _ x a.2)
    (listed_found n bytes a.0 a.1)

-- the entries of an attribute, if it is a dictionary
abbrev entries_in : AttrTerm → EntryTerms
entries_in (terms.identifier w) = no_entries
entries_in (terms.string s) = no_entries
entries_in (terms.bool b) = no_entries
entries_in (terms.integer s w b) = no_entries
entries_in terms.unit = no_entries
entries_in (terms.type t) = no_entries
entries_in (terms.operand_segment_sizes ns) = no_entries
entries_in (terms.given_names ns) = no_entries
entries_in (terms.dict es) = es
entries_in (terms.vec xs) = no_entries

same_entries : (x : Entries) (es : EntryTerms) (rest : List ℕ) →
    done {A = AttrTerm × List ℕ} (terms.dict (entries_of x.0), x.1) ≡ done (terms.dict es, rest) →
    done {A = EntryTerms × List ℕ} (entries_of x.0, x.1) ≡ done (es, rest)
same_entries x es rest e =
    ap (λ (y : AttrTerm × List ℕ). done {A = EntryTerms × List ℕ} (entries_in y.0, y.1))
    (ok_is (terms.dict (entries_of x.0), x.1) (terms.dict es, rest) e)

pub entries_again : (n : ℕ) (es : EntryTerms) (inner : List Token) (bytes rest : List ℕ) → SpellsEntries es inner →
    entries_levels es ≤ n → Begins bytes (enclosed 91 inner 93) rest → entries_at n bytes ≡ Ok (es, rest)
unfolding entries_at
entries_again n es inner bytes rest s le b =
    let begins : Begins (with_id bytes) (word dict_id ∷ enclosed 91 inner 93) rest =
    (32 ∷ bytes, looks_id bytes, (b.0, looks_behind bytes ∙ b.1, b.2)) in
    let read = attr_again (terms.dict es) (word dict_id ∷ enclosed 91 inner 93) (suc n) (with_id bytes) rest
    (inner, s, refl) (omega (arith, le)) begins in
    let i = bind_ok (listed_at n bytes) (λ y. Ok (terms.dict (entries_of y.0), y.1)) (terms.dict es, rest)
    (sym (reads_dict n bytes) ∙ read) in
    rw (i.1) (same_entries i.0 es rest i.2)
