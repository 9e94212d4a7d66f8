-- The parts of attributes that hold no other are read where they stand.
use Rattle.std.proofs.Common.{◌≡◌, ℕ, ◌≤◌, ◌-◌, ◌^◌, Bool, true, false, nat_le, List, [], ◌∷◌, Option, Some, None, Ok}
use Rattle.std.proofs.Common.{codes, refl, sym, ap, subst, ◌∙◌}
use Rattle.std.proofs.{lemmas.Bool.le-leb, lemmas.Bool.Decides.Decides-ltb, lemmas.Str.is_utf8-from_IsUtf8}
use Rattle.plir_data.specs.{Integers.is_width, declared.types.Signedness.Signedness}
use Rattle.plir_attr_text.specs.Tokens.{Token, word, digits, signed, quoted, arrow, sign, Takes, Begins}
use Rattle.plir_attr_text.specs.AttrGrammar.{SpellsLiteral, IsBits, SpellsIdentifier, SpellsString, SpellsTruth}
use Rattle.plir_attr_text.specs.AttrGrammar.{SpellsValue, SpellsSize, SpellsName}
use Rattle.plir_attr_text.specs.AttrReading.{name_at, bool_at, text_at, size_at, given_name_at, literal_at, bits_of}
use Rattle.plir_attr_text.specs.AttrReading.{value_of, value_at}
use Rattle.plir_attr_text.specs.TypeReading.{word_at, integer_of, integer_at}
use Rattle.plir_attr_text.specs.laws.Begun.{Begins-split, word_again, sign_again, past_sign_again, no_sign}
use Rattle.plir_attr_text.specs.{Lists.past_sign, Levels.if_level, Levels.level_at, Steps.◌>>=◌}
use Rattle.plir_attr_text.specs.{laws.Quoted.quoted-read, laws.StepLaws.bind_ok, laws.StepLaws.done}
use Rattle.plir_attr_text.specs.{laws.ListsFound.Several, laws.ListsFound.several_as, laws.ListsAgain.IsRead}
use Rattle.plir_attr_text.specs.{laws.ListsAgain.word_opens, laws.TypesFound.both, laws.TypesAgain.integer_again}

pub name_again : (w : List ℕ) (ts : List Token) (bytes rest : List ℕ) → SpellsIdentifier w ts → Begins bytes ts rest →
    name_at bytes ≡ Ok (w, rest)
unfolding name_at
name_again w ts bytes rest h b =
    let c = subst (λ (y : List Token). Begins bytes y rest) h.1 b in
    rw (word_again bytes w c.0 c.1, h.0) (ap (λ (y : List ℕ). done (w, y)) c.2)

pub string_again : (s : List ℕ) (ts : List Token) (bytes rest : List ℕ) → SpellsString s ts → Begins bytes ts rest →
    text_at bytes ≡ Ok (s, rest)
unfolding text_at
string_again s ts bytes rest h b =
    let c = subst (λ (y : List Token). Begins bytes y rest) h.1 b in
    let q = c.1 in
    rw (sign_again 34 bytes q.0 q.1, quoted-read q.0 s c.0 q.2, is_utf8-from_IsUtf8 s h.0)
    (ap (λ (y : List ℕ). done (s, y)) c.2)

pub truth_again : (v : Bool) (ts : List Token) (bytes rest : List ℕ) → SpellsTruth v ts → Begins bytes ts rest →
    bool_at bytes ≡ Ok (v, rest)
unfolding bool_at
truth_again true ts bytes rest h b =
    let c = subst (λ (y : List Token). Begins bytes y rest) h b in
    rw (word_again bytes (codes "true") c.0 c.1) (ap (λ (y : List ℕ). done (true, y)) c.2)
truth_again false ts bytes rest h b =
    let c = subst (λ (y : List Token). Begins bytes y rest) h b in
    rw (word_again bytes (codes "false") c.0 c.1) (ap (λ (y : List ℕ). done (false, y)) c.2)

-- ---- items of lists

size_reads : (n : ℕ) (ts : List Token) (bytes rest : List ℕ) → SpellsSize n ts → Begins bytes ts rest →
    size_at bytes ≡ Ok (n, rest)
unfolding size_at
size_reads n ts bytes rest h b =
    let c = subst (λ (y : List Token). Begins bytes y rest) h.1 b in
    rw (c.1, (Decides-ltb n (2 ^ 32)).1 h.0) (ap (λ (y : List ℕ). done (n, y)) c.2)

size_opens : (n : ℕ) (ts : List Token) (bytes rest : List ℕ) → SpellsSize n ts → Begins bytes ts rest →
    past_sign 93 bytes ≡ None
size_opens n ts bytes rest h b =
    let c = subst (λ (y : List Token). Begins bytes y rest) h.1 b in
    no_sign 93 bytes (digits n, c.0) c.1 refl

pub sizes_read : (ns : List ℕ) (ts : List Token) → Several SpellsSize ns ts → Several (IsRead 93 size_at) ns ts
sizes_read ns ts h = several_as SpellsSize (IsRead 93 size_at) (λ n us g. record {
  reads = λ bytes rest b. size_reads n us bytes rest g b;
  opens = λ bytes rest b. size_opens n us bytes rest g b;
}) ns ts h

-- an unset name
abbrev unset : Option (List ℕ)
unset = None

given_reads : (n : Option (List ℕ)) (ts : List Token) (bytes rest : List ℕ) → SpellsName n ts → Begins bytes ts rest →
    given_name_at bytes ≡ Ok (n, rest)
unfolding given_name_at
given_reads None ts bytes rest h b =
    let c = subst (λ (y : List Token). Begins bytes y rest) h b in
    rw (past_sign_again 63 bytes c.0 c.1) (ap (λ (y : List ℕ). done (unset, y)) c.2)
given_reads (Some w) ts bytes rest h b =
    let c = subst (λ (y : List Token). Begins bytes y rest) h.1 b in
    rw (no_sign 63 bytes (word w, c.0) c.1 refl, name_again w ts bytes rest h b) refl

given_opens : (n : Option (List ℕ)) (ts : List Token) (bytes rest : List ℕ) → SpellsName n ts → Begins bytes ts rest →
    past_sign 93 bytes ≡ None
given_opens None ts bytes rest h b =
    let c = subst (λ (y : List Token). Begins bytes y rest) h b in
    no_sign 93 bytes (sign 63, c.0) c.1 refl
given_opens (Some w) ts bytes rest h b =
    word_opens 93 w [] bytes rest (subst (λ (y : List Token). Begins bytes y rest) h.1 b)

pub names_read : (ns : List (Option (List ℕ))) (ts : List Token) → Several SpellsName ns ts →
    Several (IsRead 93 given_name_at) ns ts
names_read ns ts h = several_as SpellsName (IsRead 93 given_name_at) (λ n us g. record {
  reads = λ bytes rest b. given_reads n us bytes rest g b;
  opens = λ bytes rest b. given_opens n us bytes rest g b;
}) ns ts h

-- ---- integers

literal_again : (s : Bool) (m : ℕ) (t : Token) (bytes rest : List ℕ) → SpellsLiteral s m t → Takes bytes t rest →
    literal_at bytes ≡ Ok ((s, m), rest)
unfolding literal_at
literal_again s m (digits n) bytes rest h e = rw e (ap (λ (x : Bool). done ((x, n), rest)) (sym h.0) ∙
    ap (λ (x : ℕ). done ((s, x), rest)) h.1)
literal_again s m (signed r n) bytes rest h e = rw e (ap (λ (x : Bool). done ((x, n), rest)) h.0 ∙
    ap (λ (x : ℕ). done ((s, x), rest)) h.1)
literal_again s m (word w) bytes rest h e = absurd h
literal_again s m (quoted q) bytes rest h e = absurd h
literal_again s m arrow bytes rest h e = absurd h
literal_again s m (sign b) bytes rest h e = absurd h

bits_again : (s : Bool) (m w b : ℕ) → IsBits s m w b → bits_of s m w ≡ Ok b
unfolding bits_of
bits_again true m w b h = rw (le-leb m (2 ^ (w - 1)) h.0) (ap (λ (x : ℕ). done x) (sym h.1))
bits_again false m w b h = rw ((Decides-ltb m (2 ^ w)).1 h.0) (ap (λ (x : ℕ). done x) (sym h.1))

width_again : (w : ℕ) → 1 ≤ w → w ≤ 64 → is_width w ≡ true
width_again w some few = both (nat_le 1 w) (nat_le w 64) (le-leb 1 w some) (le-leb w 64 few)

pub value_of_again : (s : Bool) (m w b : ℕ) → 1 ≤ w → w ≤ 64 → IsBits s m w b → value_of s m w ≡ Ok b
unfolding value_of
value_of_again s m w b some few h = rw (width_again w some few) (bits_again s m w b h)

level_again : (n : ℕ) (bytes : List ℕ) (x : (Signedness × ℕ) × List ℕ) → 1 ≤ n → integer_at bytes ≡ Ok x →
    level_at n bytes ≡ Ok tt
unfolding level_at if_level integer_at
level_again n bytes x h e = let a = bind_ok (word_at bytes) (λ w. integer_of w.0 >>= λ t. Ok (t, w.1)) x e in
    rw (a.1, le-leb 1 n h) refl

pub value_again : (n : ℕ) (s : Signedness) (w b : ℕ) (ts : List Token) (bytes rest : List ℕ) → SpellsValue s w b ts →
    1 ≤ n → Begins bytes ts rest → value_at n bytes ≡ Ok (((s, w), b), rest)
unfolding value_at
value_again n s w b ts bytes rest h some begun =
    let c = subst (λ (y : List Token). Begins bytes y rest) h.tokens begun in
    let lit = c.2 in
    let colon = lit.2 in
    let d = Begins-split h.type (sign 62 ∷ []) colon.0 rest colon.2 in
    let end = d.2 in
    let type = integer_again (s, w) h.type colon.0 d.0 h.is_type d.1 in
    rw (
      sign_again 60 bytes c.0 c.1,
      literal_again h.negative h.magnitude h.literal c.0 lit.0 h.is_literal lit.1,
      sign_again 58 lit.0 colon.0 colon.1,
      level_again n colon.0 ((s, w), d.0) some type,
      type,
      sign_again 62 d.0 end.0 end.1,
      value_of_again h.negative h.magnitude w b h.some h.few h.is_bits,
    )
    (ap (λ (y : List ℕ). done (((s, w), b), y)) end.2)
