-- Attributes that stand there are read.
use Rattle.std.proofs.Common.{◌≡◌, ℕ, zero, suc, ◌<◌, ◌≤◌, ◌+◌, ◌-◌, true, List, [], ◌∷◌, None, Result, Ok, Err, refl}
use Rattle.std.proofs.Common.{sym, ap, subst, ◌∙◌, arith}
use Rattle.plir_data.specs.Identifier.{is_identifier}
use Rattle.plir_attr_text.specs.declared.attr_words.AttrKind.{AttrKind}
use Rattle.plir_attr_text.specs.declared.attr_words.AttrKind.TheVariants as kinds
use Rattle.plir_attr_text.specs.declared.fault.Fault.{Fault}
use Rattle.plir_attr_text.specs.Terms as terms
use Rattle.plir_attr_text.specs.Terms.{AttrTerm, AttrTerms, no_attrs, attr_before, EntryTerms, no_entries, entry_before}
use Rattle.plir_attr_text.specs.Terms.{attrs_of, entries_of, levels, attrs_levels, entries_levels}
use Rattle.plir_attr_text.specs.AttrGrammar.{Spells, SpellsItems, SpellsMoreItems, SpellsEntries, SpellsMoreEntries}
use Rattle.plir_attr_text.specs.AttrGrammar.{AttrWithin}
use Rattle.plir_attr_text.specs.AttrReading.{attr_kind, attr_head, name_at, size_at, given_name_at, entry_at, attr_body}
use Rattle.plir_attr_text.specs.AttrReading.{attr_at}
use Rattle.plir_attr_text.specs.laws.ListsAgain.{IsRead, several_read, word_opens, refused, only_one}
use Rattle.plir_attr_text.specs.laws.LeavesAgain.{name_again, string_again, truth_again, sizes_read, names_read}
use Rattle.plir_attr_text.specs.laws.LeavesAgain.{value_again}
use Rattle.plir_attr_text.specs.{Tokens.Token, Tokens.word, Tokens.sign, Tokens.look, Tokens.Begins}
use Rattle.plir_attr_text.specs.{TypeGrammar.enclosed, TypeGrammar.IsText, Lists.sign_at, Lists.past_sign, Wholes.whole}
use Rattle.plir_attr_text.specs.{laws.StepLaws.done, laws.Begun.word_again, laws.Begun.sign_again, laws.ListsFound.More}
use Rattle.plir_attr_text.specs.{laws.ListsFound.Several, laws.ListsFound.whole_found, laws.TypesAgain.type_again}
use Rattle.plir_attr_text.specs.{laws.AttrsFound.id_of, laws.AttrsFound.attr_found, laws.AttrSteps.attr_at-body}

kind_again : (k : AttrKind) → attr_kind (id_of k) ≡ Ok k
unfolding attr_kind
kind_again kinds.Identifier = refl
kind_again kinds.String = refl
kind_again kinds.Bool = refl
kind_again kinds.Integer = refl
kind_again kinds.Dict = refl
kind_again kinds.Vec = refl
kind_again kinds.Unit = refl
kind_again kinds.TypeOf = refl
kind_again kinds.OperandSegmentSizes = refl
kind_again kinds.GivenNames = refl

head_again : (k : AttrKind) (bytes mid : List ℕ) → look bytes ≡ Ok (word (id_of k), mid) → attr_head bytes ≡ Ok (k, mid)
unfolding attr_head
head_again k bytes mid e = rw (word_again bytes (id_of k) mid e, kind_again k) refl

-- what stands behind the id is read
body_again : (n : ℕ) (k : AttrKind) (bytes mid : List ℕ) (r : Result (AttrTerm × List ℕ) Fault) → 0 < n →
    look bytes ≡ Ok (word (id_of k), mid) → attr_body (n - 1) (attr_at (n - 1)) k mid ≡ r → attr_at n bytes ≡ r
body_again n k bytes mid r lt e h = attr_at-body n bytes mid k lt (head_again k bytes mid e) ∙ h

inner_again : (n : ℕ) (k : AttrKind) (bytes mid : List ℕ) (r : Result (AttrTerm × List ℕ) Fault) →
    look bytes ≡ Ok (word (id_of k), mid) → attr_body n (attr_at n) k mid ≡ r → attr_at (suc n) bytes ≡ r
inner_again n k bytes mid r e h =
    let same : suc n - 1 ≡ n = omega arith in
    body_again (suc n) k bytes mid r (omega arith) e
    (subst (λ (m : ℕ). attr_body m (attr_at m) k mid ≡ r) (sym same) h)

-- the attributes, and the entries, as lists
abbrev pub attr_list : AttrTerms → List AttrTerm
attr_list no_attrs = []
attr_list (attr_before t ts) = t ∷ attr_list ts

attrs_of-attr_list : (ts : AttrTerms) → attrs_of (attr_list ts) ≡ ts
attrs_of-attr_list no_attrs = refl
attrs_of-attr_list (attr_before t ts) = ap (attr_before t) (attrs_of-attr_list ts)

abbrev pub entry_list : EntryTerms → List (List ℕ × AttrTerm)
entry_list no_entries = []
entry_list (entry_before k t es) = (k, t) ∷ entry_list es

entries_of-entry_list : (es : EntryTerms) → entries_of (entry_list es) ≡ es
entries_of-entry_list no_entries = refl
entries_of-entry_list (entry_before k t es) = ap (entry_before k t) (entries_of-entry_list es)

pub entry_again : (read : List ℕ → Result (AttrTerm × List ℕ) Fault) (k : List ℕ) (t : AttrTerm)
    (bytes mid behind rest : List ℕ) → name_at bytes ≡ Ok (k, mid) → sign_at 61 mid ≡ Ok behind →
    read behind ≡ Ok (t, rest) → entry_at read bytes ≡ Ok ((k, t), rest)
unfolding entry_at
entry_again read k t bytes mid behind rest p q r = rw (p, q, r) refl

entry_reads : (k : List ℕ) (t : AttrTerm) (ts : List Token) (n : ℕ) → is_identifier k ≡ true →
    ((bytes rest : List ℕ) → Begins bytes ts rest → attr_at n bytes ≡ Ok (t, rest)) →
    IsRead 93 (entry_at (attr_at n)) (k, t) (word k ∷ sign 61 ∷ ts)
entry_reads k t ts n id reads = record {
  reads = λ bytes rest b. (let e = b.2 in
      entry_again (attr_at n) k t bytes b.0 e.0 rest (name_again k (word k ∷ []) bytes b.0 (id, refl) (b.0, b.1, refl))
      (sign_again 61 b.0 e.0 e.1) (reads e.0 rest e.2));
  opens = λ bytes rest b. word_opens 93 k (sign 61 ∷ ts) bytes rest b;
}

-- an attribute begins with a word
opens : (id : List ℕ) (more ts : List Token) (close : ℕ) (bytes rest : List ℕ) → ts ≡ word id ∷ more →
    Begins bytes ts rest → past_sign close bytes ≡ None
opens id more ts close bytes rest e b =
    word_opens close id more bytes rest (subst (λ (y : List Token). Begins bytes y rest) e b)

attr_opens : (t : AttrTerm) (ts : List Token) (close : ℕ) (bytes rest : List ℕ) → Spells t ts → Begins bytes ts rest →
    past_sign close bytes ≡ None
attr_opens (terms.identifier w) ts close bytes rest h b = opens (id_of kinds.Identifier) h.0 ts close bytes rest h.2 b
attr_opens (terms.string s) ts close bytes rest h b = opens (id_of kinds.String) h.0 ts close bytes rest h.2 b
attr_opens (terms.bool v) ts close bytes rest h b = opens (id_of kinds.Bool) h.0 ts close bytes rest h.2 b
attr_opens (terms.integer s w n) ts close bytes rest h b = opens (id_of kinds.Integer) h.0 ts close bytes rest h.2 b
attr_opens terms.unit ts close bytes rest h b = opens (id_of kinds.Unit) [] ts close bytes rest h b
attr_opens (terms.type t) ts close bytes rest h b = opens (id_of kinds.TypeOf) h.0 ts close bytes rest h.2 b
attr_opens (terms.operand_segment_sizes ns) ts close bytes rest h b =
    opens (id_of kinds.OperandSegmentSizes) (enclosed 91 h.0 93) ts close bytes rest h.2 b
attr_opens (terms.given_names ns) ts close bytes rest h b =
    opens (id_of kinds.GivenNames) (enclosed 91 h.0 93) ts close bytes rest h.2 b
attr_opens (terms.dict es) ts close bytes rest h b =
    opens (id_of kinds.Dict) (enclosed 91 h.0 93) ts close bytes rest h.2 b
attr_opens (terms.vec xs) ts close bytes rest h b =
    opens (id_of kinds.Vec) (enclosed 91 h.0 93) ts close bytes rest h.2 b

attr_reads : (t : AttrTerm) (ts : List Token) (n : ℕ) → Spells t ts →
    ((bytes rest : List ℕ) → Begins bytes ts rest → attr_at n bytes ≡ Ok (t, rest)) → IsRead 93 (attr_at n) t ts
attr_reads t ts n h reads = record { reads = reads; opens = λ bytes rest b. attr_opens t ts 93 bytes rest h b }

mutual
  pub attr_again : (t : AttrTerm) (ts : List Token) (n : ℕ) (bytes rest : List ℕ) → Spells t ts → levels t ≤ n →
      Begins bytes ts rest → attr_at n bytes ≡ Ok (t, rest)
  attr_again (terms.identifier w) ts n bytes rest h le b =
      let c = subst (λ (y : List Token). Begins bytes y rest) h.2 b in
      body_again n kinds.Identifier bytes c.0 (Ok (terms.identifier w, rest)) (omega arith) c.1
      (rw (name_again w h.0 c.0 rest h.1 c.2) refl)
  attr_again (terms.string s) ts n bytes rest h le b =
      let c = subst (λ (y : List Token). Begins bytes y rest) h.2 b in
      body_again n kinds.String bytes c.0 (Ok (terms.string s, rest)) (omega arith) c.1
      (rw (string_again s h.0 c.0 rest h.1 c.2) refl)
  attr_again (terms.bool v) ts n bytes rest h le b =
      let c = subst (λ (y : List Token). Begins bytes y rest) h.2 b in
      body_again n kinds.Bool bytes c.0 (Ok (terms.bool v, rest)) (omega arith) c.1
      (rw (truth_again v h.0 c.0 rest h.1 c.2) refl)
  attr_again (terms.integer s w m) ts n bytes rest h le b =
      let c = subst (λ (y : List Token). Begins bytes y rest) h.2 b in
      body_again n kinds.Integer bytes c.0 (Ok (terms.integer s w m, rest)) (omega arith) c.1
      (rw (value_again (n - 1) s w m h.0 c.0 rest h.1 (omega arith) c.2) refl)
  attr_again terms.unit ts n bytes rest h le b =
      let c = subst (λ (y : List Token). Begins bytes y rest) h b in
      body_again n kinds.Unit bytes c.0 (Ok (terms.unit, rest)) (omega arith) c.1
      (ap (λ (y : List ℕ). done (terms.unit, y)) c.2)
  attr_again (terms.type t) ts n bytes rest h le b =
      let c = subst (λ (y : List Token). Begins bytes y rest) h.2 b in
      body_again n kinds.TypeOf bytes c.0 (Ok (terms.type t, rest)) (omega arith) c.1
      (rw (type_again t h.0 (n - 1) c.0 rest h.1 (omega arith) c.2) refl)
  attr_again (terms.operand_segment_sizes ns) ts n bytes rest h le b =
      let c = subst (λ (y : List Token). Begins bytes y rest) h.2 b in
      body_again n kinds.OperandSegmentSizes bytes c.0 (Ok (terms.operand_segment_sizes ns, rest)) (omega arith) c.1
      (rw (several_read 93 refl size_at 91 ns h.0 c.0 rest (sizes_read ns h.0 h.1) c.2) refl)
  attr_again (terms.given_names ns) ts n bytes rest h le b =
      let c = subst (λ (y : List Token). Begins bytes y rest) h.2 b in
      body_again n kinds.GivenNames bytes c.0 (Ok (terms.given_names ns, rest)) (omega arith) c.1
      (rw (several_read 93 refl given_name_at 91 ns h.0 c.0 rest (names_read ns h.0 h.1) c.2) refl)
  attr_again (terms.dict es) ts zero bytes rest h le b = absurd (omega arith)
  attr_again (terms.dict es) ts (suc n) bytes rest h le b =
      let c = subst (λ (y : List Token). Begins bytes y rest) h.2 b in
      inner_again n kinds.Dict bytes c.0 (Ok (terms.dict es, rest)) c.1 (rw (
        several_read 93 refl (entry_at (attr_at n)) 91 (entry_list es) h.0 c.0 rest
            (entries_again es h.0 n h.1 (omega arith)) c.2,
        entries_of-entry_list es,
      ) refl)
  attr_again (terms.vec xs) ts zero bytes rest h le b = absurd (omega arith)
  attr_again (terms.vec xs) ts (suc n) bytes rest h le b =
      let c = subst (λ (y : List Token). Begins bytes y rest) h.2 b in
      inner_again n kinds.Vec bytes c.0 (Ok (terms.vec xs, rest)) c.1 (rw (
        several_read 93 refl (attr_at n) 91 (attr_list xs) h.0 c.0 rest (attrs_again xs h.0 n h.1 (omega arith)) c.2,
        attrs_of-attr_list xs,
      ) refl)

  attrs_again : (xs : AttrTerms) (ts : List Token) (n : ℕ) → SpellsItems xs ts → attrs_levels xs ≤ n →
      Several (IsRead 93 (attr_at n)) (attr_list xs) ts
  attrs_again no_attrs ts n h le = h
  attrs_again (attr_before t xs) ts n h le = (
    h.0,
    h.1,
    attr_reads t h.0 n h.2 (λ bytes rest b. attr_again t h.0 n bytes rest h.2 (omega arith) b),
    more_attrs_again xs h.1 n h.3 (omega arith),
    h.4,
  )

  more_attrs_again : (xs : AttrTerms) (ts : List Token) (n : ℕ) → SpellsMoreItems xs ts → attrs_levels xs ≤ n →
      More (IsRead 93 (attr_at n)) (attr_list xs) ts
  more_attrs_again no_attrs ts n h le = h
  more_attrs_again (attr_before t xs) ts n h le = (
    h.0,
    h.1,
    attr_reads t h.0 n h.2 (λ bytes rest b. attr_again t h.0 n bytes rest h.2 (omega arith) b),
    more_attrs_again xs h.1 n h.3 (omega arith),
    h.4,
  )

  entries_again : (es : EntryTerms) (ts : List Token) (n : ℕ) → SpellsEntries es ts → entries_levels es ≤ n →
      Several (IsRead 93 (entry_at (attr_at n))) (entry_list es) ts
  entries_again no_entries ts n h le = h
  entries_again (entry_before k t es) ts n h le = (
    word k ∷ sign 61 ∷ h.0,
    h.1,
    entry_reads k t h.0 n h.2 (λ bytes rest b. attr_again t h.0 n bytes rest h.3 (omega arith) b),
    more_entries_again es h.1 n h.4 (omega arith),
    h.5,
  )

  more_entries_again : (es : EntryTerms) (ts : List Token) (n : ℕ) → SpellsMoreEntries es ts → entries_levels es ≤ n →
      More (IsRead 93 (entry_at (attr_at n))) (entry_list es) ts
  more_entries_again no_entries ts n h le = h
  more_entries_again (entry_before k t es) ts n h le = (
    word k ∷ sign 61 ∷ h.0,
    h.1,
    entry_reads k t h.0 n h.2 (λ bytes rest b. attr_again t h.0 n bytes rest h.3 (omega arith) b),
    more_entries_again es h.1 n h.4 (omega arith),
    h.5,
  )

-- ---- whole texts

pub attr_within_again : (n : ℕ) (t : AttrTerm) (ts : List Token) (bytes rest : List ℕ) → AttrWithin n t ts →
    Begins bytes ts rest → attr_at n bytes ≡ Ok (t, rest)
attr_within_again n t ts bytes rest h b = attr_again t ts n bytes rest h.0 h.1 b

pub attr_text_found : (n : ℕ) (bytes : List ℕ) (t : AttrTerm) → whole (attr_at n) bytes ≡ Ok t →
    IsText (AttrWithin n) bytes t
attr_text_found n bytes t e = whole_found (AttrWithin n) 93 (attr_at n) (attr_found n) bytes t e

pub attr_text_refused : (n : ℕ) (bytes : List ℕ) (f : Fault) → whole (attr_at n) bytes ≡ Err f → (t : AttrTerm) →
    IsText (AttrWithin n) bytes t → ⊥
attr_text_refused n bytes f e t s = refused (attr_at n) (AttrWithin n) (attr_within_again n) bytes f e t s

wider : (m n : ℕ) (bytes : List ℕ) (t : AttrTerm) → m ≤ n → IsText (AttrWithin m) bytes t →
    IsText (AttrWithin n) bytes t
wider m n bytes t le s = record {
  tokens = s.tokens;
  are_tokens = s.are_tokens;
  spelled = (
    s.spelled.0,
    omega (arith, s.spelled.1),
  );
}

-- a text stands for one attribute, as it is written, at most
pub one_attr : (m n : ℕ) (bytes : List ℕ) (t u : AttrTerm) → IsText (AttrWithin m) bytes t →
    IsText (AttrWithin n) bytes u → t ≡ u
one_attr m n bytes t u s r = only_one (attr_at (m + n)) (AttrWithin (m + n)) (attr_within_again (m + n)) bytes t u
    (wider m (m + n) bytes t (omega arith) s) (wider n (m + n) bytes u (omega arith) r)
