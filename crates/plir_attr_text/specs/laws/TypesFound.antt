-- Types that are read stand there.
use Rattle.std.proofs.Common.{◌≡◌, ◌⊎◌, ℕ, zero, suc, ◌<◌, ◌≤◌, ◌^◌, ◌&&◌, nat_eq, nat_lt, Bool, true, false, cond}
use Rattle.std.proofs.Common.{List, [], ◌∷◌, ◌++◌, length, codes, Result, Ok, Err, refl, sym, ap, subst, ◌∙◌, arith}
use Rattle.std.proofs.Common.{inl, inr}
use Rattle.std.proofs.lemmas.Slice.Eq.{bytes_eq-Decides}
use Rattle.std.proofs.lemmas.Bool.Decides.{Decides-eqb, Decides-ltb}
use Rattle.std.specs.Str.{bytes_eq}
use Rattle.plir_data.specs.declared.types.Signedness.TheVariants.{Signed, Unsigned, Signless}
use Rattle.plir_data.specs.{Identifier.is_digit, declared.types.Signedness.Signedness, TypeText.letters}
use Rattle.plir_attr_text.specs.declared.words.TypeKind.TheVariants.{Integer, Function, Unit}
use Rattle.plir_attr_text.specs.Bytes.{front, begins, all_pass, is_digits, value_after}
use Rattle.plir_attr_text.specs.Terms.{TypeTerm, integer_type, function_type, unit_type, TypeTerms, types_of}
use Rattle.plir_attr_text.specs.Terms.{types_levels}
use Rattle.plir_attr_text.specs.TypeGrammar.{enclosed, in_angles, SpellsType, SpellsTypes, SpellsMoreTypes}
use Rattle.plir_attr_text.specs.TypeGrammar.{SpellsFunction, TypeWithin, IsInteger}
use Rattle.plir_attr_text.specs.TypeReading.{word_at, arrow_at, type_kind, width_of, integer_of, integer_at}
use Rattle.plir_attr_text.specs.TypeReading.{function_at, type_head, type_body, type_at}
use Rattle.plir_attr_text.specs.laws.Begun.{Begins-append, Begins-length, word_found, arrow_found, sign_found}
use Rattle.plir_attr_text.specs.laws.ListsFound.{FoundOne, IsSound, More, Several, items_found}
use Rattle.plir_attr_text.specs.{declared.fault.Fault.Fault, declared.fault.Fault.TheVariants.TooDeep}
use Rattle.plir_attr_text.specs.{declared.words.TypeKind.TypeKind, Steps.◌>>=◌, Tokens.Token, Tokens.word, Tokens.arrow}
use Rattle.plir_attr_text.specs.{Tokens.sign, Tokens.look, Lists.sign_at, Lists.items_at, laws.StepLaws.chosen}
use Rattle.plir_attr_text.specs.{laws.StepLaws.bind_ok, laws.StepLaws.done, laws.StepLaws.ok_is}

pub both : (a b : Bool) → a ≡ true → b ≡ true → (a && b) ≡ true
both true b e f = f
both false b e f = absurd cc

-- a front that fills the list is the list
pub front_all : (p : ℕ → Bool) (bs : List ℕ) → all_pass p bs ≡ true → front p bs ≡ bs
front_all p [] e = refl
front_all p (b ∷ bs) e = at (λ h. front_all p bs h) (p b) refl e
  where
    at : (all_pass p bs ≡ true → front p bs ≡ bs) → (t : Bool) → p b ≡ t → (t && all_pass p bs) ≡ true →
        cond t (b ∷ front p bs) [] ≡ b ∷ bs
    at rec true f h = ap (λ (l : List ℕ). b ∷ l) (rec h)
    at rec false f h = absurd cc

-- digits that write a width
record FoundWidth (ds : List ℕ) (width : ℕ) : Type 0 where
  digits : is_digits ds ≡ true
  value : value_after 0 ds ≡ width
  few : width < 2 ^ 32

width_found : (s : Signedness) (ds : List ℕ) (x : Signedness × ℕ) → width_of s ds ≡ Ok x → (s ≡ x.0) × FoundWidth ds x.1
unfolding width_of
width_found s ds x e =
    elim (chosen (begins is_digit ds) _ _ _ e) [
      | inl h ↦ elim (chosen (nat_lt (value_after 0 (front is_digit ds)) (2 ^ 32)) _ _ _ h.1) [
        | inl k ↦ elim (chosen (all_pass is_digit ds) _ _ _ k.1) [
          | inl l ↦
              let same = front_all is_digit ds l.0 in
              let is = ok_is (s, value_after 0 (front is_digit ds)) x l.1 in
              let w : value_after 0 (front is_digit ds) ≡ x.1 = ap (λ (y : Signedness × ℕ). y.1) is in (
                ap (λ (y : Signedness × ℕ). y.0) is,
                record {
                  digits = both _ _ h.0 l.0;
                  value = ap (value_after 0) (sym same) ∙
                      w;
                  few = subst (λ (n : ℕ). n < 2 ^ 32) w ((Decides-ltb (value_after 0 (front is_digit ds)) (2 ^ 32)).0
                      k.0);
                },
              )
          | inr l ↦ absurd (let v = l.1 in cc)
        ]
        | inr k ↦ absurd (let v = k.1 in cc)
      ]
      | inr h ↦ absurd (let v = h.1 in cc)
    ]

-- a word that is an integer type
record FoundInteger (w : List ℕ) (x : Signedness × ℕ) : Type 0 where
  written : List ℕ
  found : FoundWidth written x.1
  is : w ≡ letters x.0 ++ written

with_letters : (s : Signedness) (w ds : List ℕ) (x : Signedness × ℕ) → w ≡ letters s ++ ds → width_of s ds ≡ Ok x →
    FoundInteger w x
with_letters s w ds x is e = let f = width_found s ds x e in
    record { written = ds; found = f.1; is = is ∙ ap (λ (y : Signedness). letters y ++ ds) f.0 }

integer_of_found : (w : List ℕ) (x : Signedness × ℕ) → integer_of w ≡ Ok x → FoundInteger w x
unfolding integer_of
integer_of_found [] x e = absurd cc
integer_of_found (a ∷ []) x e = absurd cc
integer_of_found (a ∷ b ∷ ds) x e =
    elim (chosen (nat_eq a 105) _ _ _ e) [
      | inl h ↦ with_letters Signless (a ∷ b ∷ ds) (b ∷ ds) x (ap (λ (y : ℕ). y ∷ b ∷ ds) ((Decides-eqb a 105).0 h.0))
          h.1
      | inr e1 ↦ elim (chosen (nat_eq b 105) _ _ _ e1.1) [
        | inl g ↦ elim (chosen (nat_eq a 115) _ _ _ g.1) [
          | inl h ↦ with_letters Signed (a ∷ b ∷ ds) ds x (ap (λ (y : ℕ). y ∷ b ∷ ds) ((Decides-eqb a 115).0 h.0) ∙
              ap (λ (y : ℕ). 115 ∷ y ∷ ds) ((Decides-eqb b 105).0 g.0)) h.1
          | inr e2 ↦ elim (chosen (nat_eq a 117) _ _ _ e2.1) [
            | inl h ↦ with_letters Unsigned (a ∷ b ∷ ds) ds x (ap (λ (y : ℕ). y ∷ b ∷ ds) ((Decides-eqb a 117).0 h.0) ∙
                ap (λ (y : ℕ). 117 ∷ y ∷ ds) ((Decides-eqb b 105).0 g.0)) h.1
            | inr h ↦ absurd (let v = h.1 in cc)
          ]
        ]
        | inr h ↦ absurd (let v = h.1 in cc)
      ]
    ]

pub integer_found : IsSound IsInteger integer_at
unfolding integer_at
integer_found bytes x e =
    let a = bind_ok (word_at bytes) (λ w. integer_of w.0 >>= λ t. Ok (t, w.1)) x e in
    let b = bind_ok (integer_of a.0.0) (λ t. Ok (t, a.0.1)) x a.2 in
    let f = integer_of_found a.0.0 b.0 b.1 in
    let found : FoundOne IsInteger bytes b.0 a.0.1 =
    record {
      tokens = word a.0.0 ∷ [];
      begins = (a.0.1, word_found bytes a.0 a.1, refl);
      spelled = record {
        written = f.written;
        digits = f.found.digits;
        value = f.found.value;
        few = f.found.few;
        tokens = ap
            (λ (w : List ℕ). word w ∷ []) f.is;
      };
    } in
    subst (λ (y : (Signedness × ℕ) × List ℕ). FoundOne IsInteger bytes y.0 y.1) (ok_is _ x b.2) found

-- ---- lists of types

record WroteTypes (n : ℕ) (xs : List TypeTerm) (ts : List Token) : Type 0 where
  spelled : SpellsMoreTypes (types_of xs) ts
  within : types_levels (types_of xs) ≤ n

more_wrote : (n : ℕ) (xs : List TypeTerm) (ts : List Token) → More (TypeWithin n) xs ts → WroteTypes n xs ts
more_wrote n [] ts h = record { spelled = h; within = omega arith }
more_wrote n (x ∷ xs) ts h =
    let w = more_wrote n xs h.1 h.3 in
    record { spelled = (h.0, h.1, h.2.0, w.spelled, h.4); within = omega (arith, h.2.1, w.within) }

types_wrote : (n : ℕ) (xs : List TypeTerm) (ts : List Token) → Several (TypeWithin n) xs ts →
    SpellsTypes (types_of xs) ts × (types_levels (types_of xs) ≤ n)
types_wrote n [] ts h = (h, omega arith)
types_wrote n (x ∷ xs) ts h =
    let w = more_wrote n xs h.1 h.3 in
    ((h.0, h.1, h.2.0, w.spelled, h.4), omega (arith, h.2.1, w.within))

-- a function type behind its id, whose parts have at most n levels
abbrev pub FunctionOf : ℕ → TypeTerms × TypeTerms → List Token → Type 0
FunctionOf n x ts = SpellsFunction x.0 x.1 ts × (types_levels x.0 ≤ n) × (types_levels x.1 ≤ n)

pub function_found : (n : ℕ) (read : List ℕ → Result (TypeTerm × List ℕ) Fault) → IsSound (TypeWithin n) read →
    IsSound (FunctionOf n) (function_at read)
unfolding function_at
function_found n read sound bytes x e =
    let a = bind_ok (sign_at 60 bytes) (λ start. items_at 40 41 read start >>= λ as_. arrow_at as_.1 >>=
    λ behind. items_at 40 41 read behind >>= λ rs. sign_at 62 rs.1 >>= λ end. Ok (
      (types_of as_.0, types_of rs.0),
      end,
    )) x e in
    let b = bind_ok (items_at 40 41 read a.0) (λ as_. arrow_at as_.1 >>= λ behind. items_at 40 41 read behind >>=
    λ rs. sign_at 62 rs.1 >>= λ end. Ok ((types_of as_.0, types_of rs.0), end)) x a.2 in
    let d = bind_ok (arrow_at b.0.1) (λ behind. items_at 40 41 read behind >>= λ rs. sign_at 62 rs.1 >>=
    λ end. Ok ((types_of b.0.0, types_of rs.0), end)) x b.2 in
    let f = bind_ok (items_at 40 41 read d.0) (λ rs. sign_at 62 rs.1 >>= λ end. Ok (
      (types_of b.0.0, types_of rs.0),
      end,
    )) x d.2 in
    let g = bind_ok (sign_at 62 f.0.1) (λ end. Ok ((types_of b.0.0, types_of f.0.0), end)) x f.2 in
    let as_ = items_found (TypeWithin n) 41 read sound 40 a.0 b.0 b.1 in
    let rs = items_found (TypeWithin n) 41 read sound 40 d.0 f.0 f.1 in
    let wa = types_wrote n b.0.0 as_.tokens as_.spelled in
    let wr = types_wrote n f.0.0 rs.tokens rs.spelled in
    let tail = Begins-append (enclosed 40 rs.tokens 41) (sign 62 ∷ []) d.0 f.0.1 g.0 rs.begins (
      g.0,
      sign_found 62 f.0.1 g.0 g.1,
      refl,
    ) in
    let middle = Begins-append (enclosed 40 as_.tokens 41) (arrow ∷ (enclosed 40 rs.tokens 41 ++ (sign 62 ∷ []))) a.0
    b.0.1 g.0 as_.begins (d.0, arrow_found b.0.1 d.0 d.1, tail) in
    let found : FoundOne (FunctionOf n) bytes (types_of b.0.0, types_of f.0.0) g.0 =
    record {
      tokens = in_angles as_.tokens rs.tokens;
      begins = (
        a.0,
        sign_found 60 bytes a.0 a.1,
        middle,
      );
      spelled = ((as_.tokens, rs.tokens, wa.0, wr.0, refl), wa.1, wr.1);
    } in
    subst (λ (y : (TypeTerms × TypeTerms) × List ℕ). FoundOne (FunctionOf n) bytes y.0 y.1) (ok_is _ x g.2) found

-- ---- ids

abbrev pub type_id : TypeKind → List ℕ
type_id Integer = codes "builtin.integer"
type_id Function = codes "builtin.function"
type_id Unit = codes "builtin.unit"

one_kind : (w id : List ℕ) (j k : TypeKind) (rest : Result TypeKind Fault) → type_id j ≡ id →
    cond (bytes_eq w id) (Ok j) rest ≡ Ok k → (w ≡ type_id k) ⊎ (rest ≡ Ok k)
one_kind w id j k rest is e =
    elim (chosen (bytes_eq w id) _ _ _ e) [
      | inl h ↦ inl ((bytes_eq-Decides w id).0 h.0 ∙ sym is ∙ ap type_id (ok_is j k h.1))
      | inr h ↦ inr h.1
    ]

kind_is : (w : List ℕ) (k : TypeKind) → type_kind w ≡ Ok k → w ≡ type_id k
unfolding type_kind
kind_is w k e =
    elim (one_kind w (codes "builtin.integer") Integer k _ refl e) [
      | inl h ↦ h
      | inr e1 ↦ elim (one_kind w (codes "builtin.function") Function k _ refl e1) [
        | inl h ↦ h
        | inr e2 ↦ elim (one_kind w (codes "builtin.unit") Unit k _ refl e2) [
          | inl h ↦ h
          | inr e3 ↦ absurd cc
        ]
      ]
    ]

pub type_head_found : (bytes : List ℕ) (x : TypeKind × List ℕ) → type_head bytes ≡ Ok x → look bytes ≡ Ok (
  word (type_id x.0),
  x.1,
)
unfolding type_head
type_head_found bytes x e =
    let a = bind_ok (word_at bytes) (λ w. type_kind w.0 >>= λ k. Ok (k, w.1)) x e in
    let b = bind_ok (type_kind a.0.0) (λ k. Ok (k, a.0.1)) x a.2 in
    let is : look bytes ≡ Ok (word (type_id b.0), a.0.1) = word_found bytes a.0 a.1 ∙
    ap (λ (w : List ℕ). done (word w, a.0.1)) (kind_is a.0.0 b.0 b.1) in
    subst (λ (y : TypeKind × List ℕ). look bytes ≡ Ok (word (type_id y.0), y.1)) (ok_is _ x b.2) is

-- ---- a type

body_found : (n : ℕ) (read : List ℕ → Result (TypeTerm × List ℕ) Fault) → IsSound (TypeWithin n) read →
    (k : TypeKind) (bytes rest : List ℕ) (x : TypeTerm × List ℕ) → look bytes ≡ Ok (word (type_id k), rest) →
    type_body read k rest ≡ Ok x → FoundOne (TypeWithin (suc n)) bytes x.0 x.1
body_found n read sound Integer bytes rest x id e =
    let a = bind_ok (integer_at rest) (λ y. Ok (integer_type y.0.0 y.0.1, y.1)) x e in
    let f = integer_found rest a.0 a.1 in
    let found : FoundOne (TypeWithin (suc n)) bytes (integer_type a.0.0.0 a.0.0.1) a.0.1 =
    record {
      tokens = word (type_id Integer) ∷
          f.tokens;
      begins = (rest, id, f.begins);
      spelled = ((f.tokens, f.spelled, refl), omega arith);
    } in
    subst (λ (y : TypeTerm × List ℕ). FoundOne (TypeWithin (suc n)) bytes y.0 y.1) (ok_is _ x a.2) found
body_found n read sound Function bytes rest x id e =
    let a = bind_ok (function_at read rest) (λ y. Ok (function_type y.0.0 y.0.1, y.1)) x e in
    let f = function_found n read sound rest a.0 a.1 in
    let s = f.spelled.0 in
    let found : FoundOne (TypeWithin (suc n)) bytes (function_type a.0.0.0 a.0.0.1) a.0.1 =
    record {
      tokens = word (type_id Function) ∷ f.tokens;
      begins = (rest, id, f.begins);
      spelled = (
        (
          s.0,
          s.1,
          s.2,
          s.3,
          ap (λ (ts : List Token). word (type_id Function) ∷ ts) s.4,
        ),
        omega (arith, f.spelled.1, f.spelled.2),
      );
    } in
    subst (λ (y : TypeTerm × List ℕ). FoundOne (TypeWithin (suc n)) bytes y.0 y.1) (ok_is _ x a.2) found
body_found n read sound Unit bytes rest x id e =
    let found : FoundOne (TypeWithin (suc n)) bytes unit_type rest =
    record { tokens = word (type_id Unit) ∷ []; begins = (rest, id, refl); spelled = (refl, omega arith) } in
    subst (λ (y : TypeTerm × List ℕ). FoundOne (TypeWithin (suc n)) bytes y.0 y.1) (ok_is _ x e) found

no_type : (x : TypeTerm × List ℕ) → Err TooDeep ≡ done x → ⊥
no_type x e = cc

pub type_found : (n : ℕ) → IsSound (TypeWithin n) (type_at n)
unfolding type_at
type_found zero bytes x e = let a = bind_ok (word_at bytes) (λ w. Err TooDeep) x e in absurd (no_type x a.2)
type_found (suc n) bytes x e =
    let a = bind_ok (type_head bytes) (λ h. type_body (type_at n) h.0 h.1) x e in
    body_found n (type_at n) (type_found n) a.0.0 bytes a.0.1 x (type_head_found bytes a.0 a.1) a.2

-- some token
spelled-length : (t : TypeTerm) (ts : List Token) → SpellsType t ts → 1 ≤ length ts
spelled-length (integer_type s w) ts h = rw (h.2) (omega arith)
spelled-length (function_type as_ rs) ts h = rw (h.4) (omega arith)
spelled-length unit_type ts h = rw h (omega arith)

pub type_at-shorter : (n : ℕ) (bytes : List ℕ) (x : TypeTerm × List ℕ) → type_at n bytes ≡ Ok x →
    length x.1 < length bytes
type_at-shorter n bytes x e =
    let f = type_found n bytes x e in
    omega (arith, Begins-length f.tokens bytes x.1 f.begins, spelled-length x.0 f.tokens f.spelled.0)
