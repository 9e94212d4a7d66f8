-- Attributes that are read stand there.
use Rattle.std.proofs.Common.{◌≡◌, ◌⊎◌, ℕ, zero, suc, ◌<◌, ◌≤◌, cond, List, [], ◌∷◌, ◌++◌, length, codes, Result, Ok}
use Rattle.std.proofs.Common.{Err, refl, ap, subst, ◌∙◌, arith, inl, inr}
use Rattle.std.proofs.lemmas.Slice.Eq.{bytes_eq-Decides}
use Rattle.std.specs.Str.{bytes_eq}
use Rattle.plir_attr_text.specs.declared.attr_words.AttrKind.{AttrKind}
use Rattle.plir_attr_text.specs.declared.attr_words.AttrKind.TheVariants as kinds
use Rattle.plir_attr_text.specs.{declared.fault.Fault.Fault, declared.fault.Fault.TheVariants.TooDeep, Steps.◌>>=◌}
use Rattle.plir_attr_text.specs.Terms as terms
use Rattle.plir_attr_text.specs.Terms.{AttrTerm, attrs_of, entries_of, attrs_levels, entries_levels}
use Rattle.plir_attr_text.specs.Tokens.{Token, word, sign, look, Begins}
use Rattle.plir_attr_text.specs.TypeReading.{word_at, type_at}
use Rattle.plir_attr_text.specs.AttrGrammar.{SpellsIdentifier, SpellsSize, SpellsName, Spells, SpellsItems}
use Rattle.plir_attr_text.specs.AttrGrammar.{SpellsMoreItems, SpellsEntries, SpellsMoreEntries, AttrWithin}
use Rattle.plir_attr_text.specs.AttrReading.{attr_kind, attr_head, name_at, text_at, bool_at, size_at, given_name_at}
use Rattle.plir_attr_text.specs.AttrReading.{value_at, entry_at, attr_body, attr_at}
use Rattle.plir_attr_text.specs.laws.StepLaws.{chosen, bind_ok, done, ok_is}
use Rattle.plir_attr_text.specs.laws.Begun.{Begins-append, word_found, sign_found}
use Rattle.plir_attr_text.specs.laws.ListsFound.{FoundOne, IsSound, More, Several, items_found}
use Rattle.plir_attr_text.specs.laws.LeavesFound.{name_found, string_found, truth_found, size_found, given_name_found}
use Rattle.plir_attr_text.specs.laws.LeavesFound.{value_found, found-shorter}
use Rattle.plir_attr_text.specs.{TypeGrammar.enclosed, Lists.sign_at, Lists.items_at, laws.TypesFound.type_found}

-- ---- ids

abbrev pub id_of : AttrKind → List ℕ
id_of kinds.Identifier = codes "builtin.identifier"
id_of kinds.String = codes "builtin.string"
id_of kinds.Bool = codes "builtin.bool"
id_of kinds.Integer = codes "builtin.integer"
id_of kinds.Dict = codes "builtin.dict"
id_of kinds.Vec = codes "builtin.vec"
id_of kinds.Unit = codes "builtin.unit"
id_of kinds.TypeOf = codes "builtin.type"
id_of kinds.OperandSegmentSizes = codes "builtin.operand_segment_sizes"
id_of kinds.GivenNames = codes "builtin.given_names"

one_kind : (w : List ℕ) (j k : AttrKind) (rest : Result AttrKind Fault) →
    cond (bytes_eq w (id_of j)) (Ok j) rest ≡ Ok k → (w ≡ id_of k) ⊎ (rest ≡ Ok k)
one_kind w j k rest e =
    elim (chosen (bytes_eq w (id_of j)) _ _ _ e) [
      | inl h ↦ inl ((bytes_eq-Decides w (id_of j)).0 h.0 ∙ ap id_of (ok_is j k h.1))
      | inr h ↦ inr h.1
    ]

kind_is : (w : List ℕ) (k : AttrKind) → attr_kind w ≡ Ok k → w ≡ id_of k
unfolding attr_kind
kind_is w k e =
    elim (one_kind w kinds.Identifier k _ e) [
      | inl h ↦ h
      | inr e1 ↦ elim (one_kind w kinds.String k _ e1) [
        | inl h ↦ h
        | inr e2 ↦ elim (one_kind w kinds.Bool k _ e2) [
          | inl h ↦ h
          | inr e3 ↦ elim (one_kind w kinds.Integer k _ e3) [
            | inl h ↦ h
            | inr e4 ↦ elim (one_kind w kinds.Dict k _ e4) [
              | inl h ↦ h
              | inr e5 ↦ elim (one_kind w kinds.Vec k _ e5) [
                | inl h ↦ h
                | inr e6 ↦ elim (one_kind w kinds.Unit k _ e6) [
                  | inl h ↦ h
                  | inr e7 ↦ elim (one_kind w kinds.TypeOf k _ e7) [
                    | inl h ↦ h
                    | inr e8 ↦ elim (one_kind w kinds.OperandSegmentSizes k _ e8) [
                      | inl h ↦ h
                      | inr e9 ↦ elim (one_kind w kinds.GivenNames k _ e9) [
                        | inl h ↦ h
                        | inr none ↦ absurd cc
                      ]
                    ]
                  ]
                ]
              ]
            ]
          ]
        ]
      ]
    ]

pub attr_head_found : (bytes : List ℕ) (x : AttrKind × List ℕ) → attr_head bytes ≡ Ok x →
    look bytes ≡ Ok (word (id_of x.0), x.1)
unfolding attr_head
attr_head_found bytes x e =
    let a = bind_ok (word_at bytes) (λ w. attr_kind w.0 >>= λ k. Ok (k, w.1)) x e in
    let b = bind_ok (attr_kind a.0.0) (λ k. Ok (k, a.0.1)) x a.2 in
    let is : look bytes ≡ Ok (word (id_of b.0), a.0.1) = word_found bytes a.0 a.1 ∙
    ap (λ (w : List ℕ). done (word w, a.0.1)) (kind_is a.0.0 b.0 b.1) in
    subst (λ (y : AttrKind × List ℕ). look bytes ≡ Ok (word (id_of y.0), y.1)) (ok_is _ x b.2) is

-- ---- attributes in attributes

more_wrote : (n : ℕ) (xs : List AttrTerm) (ts : List Token) → More (AttrWithin n) xs ts →
    SpellsMoreItems (attrs_of xs) ts × (attrs_levels (attrs_of xs) ≤ n)
more_wrote n [] ts h = (h, omega arith)
more_wrote n (x ∷ xs) ts h =
    let w = more_wrote n xs h.1 h.3 in
    ((h.0, h.1, h.2.0, w.0, h.4), omega (arith, h.2.1, w.1))

items_wrote : (n : ℕ) (xs : List AttrTerm) (ts : List Token) → Several (AttrWithin n) xs ts →
    SpellsItems (attrs_of xs) ts × (attrs_levels (attrs_of xs) ≤ n)
items_wrote n [] ts h = (h, omega arith)
items_wrote n (x ∷ xs) ts h =
    let w = more_wrote n xs h.1 h.3 in
    ((h.0, h.1, h.2.0, w.0, h.4), omega (arith, h.2.1, w.1))

-- a key and its attribute
abbrev pub EntryWithin : ℕ → List ℕ × AttrTerm → List Token → Type 0
EntryWithin n e ts = (key value : List Token) × SpellsIdentifier e.0 key × AttrWithin n e.1 value × (ts ≡ key ++
    sign 61 ∷ value)

entry_tokens : (k : List ℕ) (key value ts : List Token) → key ≡ word k ∷ [] → ts ≡ key ++ sign 61 ∷ value →
    ts ≡ word k ∷ sign 61 ∷ value
entry_tokens k key value ts e h = h ∙ ap (λ (x : List Token). x ++ sign 61 ∷ value) e

more_entries_wrote : (n : ℕ) (es : List (List ℕ × AttrTerm)) (ts : List Token) → More (EntryWithin n) es ts →
    SpellsMoreEntries (entries_of es) ts × (entries_levels (entries_of es) ≤ n)
more_entries_wrote n [] ts h = (h, omega arith)
more_entries_wrote n (e ∷ es) ts h =
    let w = more_entries_wrote n es h.1 h.3 in
    let f = h.2 in (
      (
        f.1,
        h.1,
        f.2.0,
        f.3.0,
        w.0,
        h.4 ∙ ap (λ (x : List Token). sign 44 ∷
            (x ++ h.1)) (entry_tokens e.0 f.0 f.1 h.0 f.2.1 f.4),
      ),
      omega (arith, f.3.1, w.1),
    )

entries_wrote : (n : ℕ) (es : List (List ℕ × AttrTerm)) (ts : List Token) → Several (EntryWithin n) es ts →
    SpellsEntries (entries_of es) ts × (entries_levels (entries_of es) ≤ n)
entries_wrote n [] ts h = (h, omega arith)
entries_wrote n (e ∷ es) ts h =
    let w = more_entries_wrote n es h.1 h.3 in
    let f = h.2 in (
      (f.1, h.1, f.2.0, f.3.0, w.0, h.4 ∙ ap (λ (x : List Token). x ++ h.1) (entry_tokens e.0 f.0 f.1 h.0 f.2.1 f.4)),
      omega (arith, f.3.1, w.1),
    )

pub entry_found : (n : ℕ) (read : List ℕ → Result (AttrTerm × List ℕ) Fault) → IsSound (AttrWithin n) read →
    IsSound (EntryWithin n) (entry_at read)
unfolding entry_at
entry_found n read sound bytes x e =
    let k = bind_ok (name_at bytes) (λ k. sign_at 61 k.1 >>= λ behind. read behind >>= λ v. Ok ((k.0, v.0), v.1)) x e in
    let b = bind_ok (sign_at 61 k.0.1) (λ behind. read behind >>= λ v. Ok ((k.0.0, v.0), v.1)) x k.2 in
    let v = bind_ok (read b.0) (λ v. Ok ((k.0.0, v.0), v.1)) x b.2 in
    let key = name_found bytes k.0 k.1 in
    let value = sound b.0 v.0 v.1 in
    let found : FoundOne (EntryWithin n) bytes (k.0.0, v.0.0) v.0.1 = record {
      tokens = key.tokens ++ sign 61 ∷ value.tokens;
      begins = Begins-append key.tokens (sign 61 ∷ value.tokens) bytes k.0.1 v.0.1 key.begins (
        b.0,
        sign_found 61 k.0.1 b.0 b.1,
        value.begins,
      );
      spelled = (key.tokens, value.tokens, key.spelled, value.spelled, refl);
    } in
    subst (λ (y : (List ℕ × AttrTerm) × List ℕ). FoundOne (EntryWithin n) bytes y.0 y.1) (ok_is _ x v.2) found

-- ---- an attribute

-- what was read behind an id, and its tokens there, as the attribute
module _ (n : ℕ) (k : AttrKind) (bytes rest : List ℕ) (id : look bytes ≡ Ok (word (id_of k), rest))
    (x : AttrTerm × List ℕ) where
  id_found : (ts : List Token) (t : AttrTerm) (end : List ℕ) → done (t, end) ≡ done x → Begins rest ts end →
      AttrWithin (suc n) t (word (id_of k) ∷ ts) → FoundOne (AttrWithin (suc n)) bytes x.0 x.1
  id_found ts t end same begins spelled =
      let found : FoundOne (AttrWithin (suc n)) bytes t end =
      record { tokens = word (id_of k) ∷ ts; begins = (rest, id, begins); spelled = spelled } in
      subst (λ (y : AttrTerm × List ℕ). FoundOne (AttrWithin (suc n)) bytes y.0 y.1) (ok_is _ x same) found

body_found : (n : ℕ) (read : List ℕ → Result (AttrTerm × List ℕ) Fault) → IsSound (AttrWithin n) read →
    (k : AttrKind) (bytes rest : List ℕ) (x : AttrTerm × List ℕ) → look bytes ≡ Ok (word (id_of k), rest) →
    attr_body n read k rest ≡ Ok x → FoundOne (AttrWithin (suc n)) bytes x.0 x.1
body_found n read sound kinds.Identifier bytes rest x id e =
    let a = bind_ok (name_at rest) (λ w. Ok (terms.identifier w.0, w.1)) x e in
    let f = name_found rest a.0 a.1 in
    id_found n kinds.Identifier bytes rest id x f.tokens (terms.identifier a.0.0) a.0.1 a.2 f.begins
    ((f.tokens, f.spelled, refl), omega arith)
body_found n read sound kinds.String bytes rest x id e =
    let a = bind_ok (text_at rest) (λ s. Ok (terms.string s.0, s.1)) x e in
    let f = string_found rest a.0 a.1 in
    id_found n kinds.String bytes rest id x f.tokens (terms.string a.0.0) a.0.1 a.2 f.begins
    ((f.tokens, f.spelled, refl), omega arith)
body_found n read sound kinds.Bool bytes rest x id e =
    let a = bind_ok (bool_at rest) (λ b. Ok (terms.bool b.0, b.1)) x e in
    let f = truth_found rest a.0 a.1 in
    id_found n kinds.Bool bytes rest id x f.tokens (terms.bool a.0.0) a.0.1 a.2 f.begins
    ((f.tokens, f.spelled, refl), omega arith)
body_found n read sound kinds.Integer bytes rest x id e =
    let a = bind_ok (value_at n rest) (λ v. Ok (terms.integer v.0.0.0 v.0.0.1 v.0.1, v.1)) x e in
    let f = value_found n rest a.0 a.1 in
    id_found n kinds.Integer bytes rest id x f.tokens (terms.integer a.0.0.0.0 a.0.0.0.1 a.0.0.1) a.0.1 a.2
    f.begins ((f.tokens, f.spelled.0, refl), omega (arith, f.spelled.1))
body_found n read sound kinds.Dict bytes rest x id e =
    let a = bind_ok (items_at 91 93 (entry_at read) rest) (λ es. Ok (terms.dict (entries_of es.0), es.1)) x e in
    let f = items_found (EntryWithin n) 93 (entry_at read) (entry_found n read sound) 91 rest a.0 a.1 in
    let w = entries_wrote n a.0.0 f.tokens f.spelled in
    id_found n kinds.Dict bytes rest id x (enclosed 91 f.tokens 93) (terms.dict (entries_of a.0.0)) a.0.1 a.2
    f.begins ((f.tokens, w.0, refl), omega (arith, w.1))
body_found n read sound kinds.Vec bytes rest x id e =
    let a = bind_ok (items_at 91 93 read rest) (λ xs. Ok (terms.vec (attrs_of xs.0), xs.1)) x e in
    let f = items_found (AttrWithin n) 93 read sound 91 rest a.0 a.1 in
    let w = items_wrote n a.0.0 f.tokens f.spelled in
    id_found n kinds.Vec bytes rest id x (enclosed 91 f.tokens 93) (terms.vec (attrs_of a.0.0)) a.0.1 a.2 f.begins
    ((f.tokens, w.0, refl), omega (arith, w.1))
body_found n read sound kinds.Unit bytes rest x id e =
    id_found n kinds.Unit bytes rest id x [] terms.unit rest e refl (refl, omega arith)
body_found n read sound kinds.TypeOf bytes rest x id e =
    let a = bind_ok (type_at n rest) (λ t. Ok (terms.type t.0, t.1)) x e in
    let f = type_found n rest a.0 a.1 in
    id_found n kinds.TypeOf bytes rest id x f.tokens (terms.type a.0.0) a.0.1 a.2 f.begins
    ((f.tokens, f.spelled.0, refl), omega (arith, f.spelled.1))
body_found n read sound kinds.OperandSegmentSizes bytes rest x id e =
    let a = bind_ok (items_at 91 93 size_at rest) (λ ns. Ok (terms.operand_segment_sizes ns.0, ns.1)) x e in
    let f = items_found SpellsSize 93 size_at size_found 91 rest a.0 a.1 in
    id_found n kinds.OperandSegmentSizes bytes rest id x (enclosed 91 f.tokens 93)
    (terms.operand_segment_sizes a.0.0) a.0.1 a.2 f.begins ((f.tokens, f.spelled, refl), omega arith)
body_found n read sound kinds.GivenNames bytes rest x id e =
    let a = bind_ok (items_at 91 93 given_name_at rest) (λ ns. Ok (terms.given_names ns.0, ns.1)) x e in
    let f = items_found SpellsName 93 given_name_at given_name_found 91 rest a.0 a.1 in
    id_found n kinds.GivenNames bytes rest id x (enclosed 91 f.tokens 93) (terms.given_names a.0.0) a.0.1 a.2 f.begins
    ((f.tokens, f.spelled, refl), omega arith)

no_attr : (x : AttrTerm × List ℕ) → Err TooDeep ≡ done x → ⊥
no_attr x e = cc

pub attr_found : (n : ℕ) → IsSound (AttrWithin n) (attr_at n)
unfolding attr_at
attr_found zero bytes x e = let a = bind_ok (word_at bytes) (λ w. Err TooDeep) x e in absurd (no_attr x a.2)
attr_found (suc n) bytes x e =
    let a = bind_ok (attr_head bytes) (λ h. attr_body n (attr_at n) h.0 h.1) x e in
    body_found n (attr_at n) (attr_found n) a.0.0 bytes a.0.1 x (attr_head_found bytes a.0 a.1) a.2

-- some token
spelled-length : (t : AttrTerm) (ts : List Token) → Spells t ts → 1 ≤ length ts
spelled-length (terms.identifier w) ts h = rw (h.2) (omega arith)
spelled-length (terms.string s) ts h = rw (h.2) (omega arith)
spelled-length (terms.bool b) ts h = rw (h.2) (omega arith)
spelled-length (terms.integer s w b) ts h = rw (h.2) (omega arith)
spelled-length terms.unit ts h = rw h (omega arith)
spelled-length (terms.type t) ts h = rw (h.2) (omega arith)
spelled-length (terms.operand_segment_sizes ns) ts h = rw (h.2) (omega arith)
spelled-length (terms.given_names ns) ts h = rw (h.2) (omega arith)
spelled-length (terms.dict es) ts h = rw (h.2) (omega arith)
spelled-length (terms.vec xs) ts h = rw (h.2) (omega arith)

pub attr_at-shorter : (n : ℕ) (bytes : List ℕ) (x : AttrTerm × List ℕ) → attr_at n bytes ≡ Ok x →
    length x.1 < length bytes
attr_at-shorter n bytes x e = found-shorter (AttrWithin n) (attr_at n) (attr_found n)
    (λ t ts h. spelled-length t ts h.0) bytes x e

entry-length : (n : ℕ) (e : List ℕ × AttrTerm) (ts : List Token) → EntryWithin n e ts → 1 ≤ length ts
entry-length n e ts h = rw (entry_tokens e.0 h.0 h.1 ts h.2.1 h.4) (omega arith)

pub entry_at-shorter : (n : ℕ) (bytes : List ℕ) (x : (List ℕ × AttrTerm) × List ℕ) → entry_at (attr_at n) bytes ≡ Ok x →
    length x.1 < length bytes
entry_at-shorter n bytes x e =
    found-shorter (EntryWithin n) (entry_at (attr_at n)) (entry_found n (attr_at n) (attr_found n)) (entry-length n)
    bytes x e
