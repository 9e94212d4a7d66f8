-- The types that are written in a text are parts of what the text stands for.
use Rattle.std.proofs.Common.{◌≡◌, ◌⊎◌, ℕ, zero, suc, List, [], ◌∷◌, length, true, Result, Ok, inl, inr, sym, ap, subst}
use Rattle.std.proofs.Common.{◌∙◌}
use Rattle.plir_data.specs.declared.types.Signedness.{Signedness}
use Rattle.plir_attr_text.specs.declared.words.TypeKind.TheVariants.{Integer, Function, Unit}
use Rattle.plir_attr_text.specs.declared.attr_words.AttrKind.{AttrKind}
use Rattle.plir_attr_text.specs.{declared.fault.Fault.Fault, declared.words.TypeKind.TypeKind}
use Rattle.plir_attr_text.specs.declared.attr_words.AttrKind.TheVariants as kinds
use Rattle.plir_attr_text.specs.Steps.{◌>>=◌}
use Rattle.plir_attr_text.specs.Terms as terms
use Rattle.plir_attr_text.specs.Terms.{TypeTerm, integer_type, function_type, unit_type, TypeTerms, types_of, AttrTerm}
use Rattle.plir_attr_text.specs.Terms.{attrs_of, entries_of}
use Rattle.plir_attr_text.specs.Lists.{sign_at, past_sign, separator_at, with_first, if_more, more_at, unless_closed}
use Rattle.plir_attr_text.specs.Lists.{items_at}
use Rattle.plir_attr_text.specs.TypeReading.{arrow_at, integer_at, function_at, type_head, type_body, type_at}
use Rattle.plir_attr_text.specs.AttrReading.{name_at, value_at, entry_at, attr_head, attr_body, attr_at}
use Rattle.plir_attr_text.specs.TypeGrammar.{IsText, TypeWithin, IsInteger, FunctionWithin}
use Rattle.plir_attr_text.specs.TypesIn.{IsBehind, IsItemAt, IsInList, IsInInteger, IsInTypeBody, IsInType}
use Rattle.plir_attr_text.specs.TypesIn.{IsInFunction, IsInEntry, IsInAttr, IsBehindId}
use Rattle.plir_attr_text.specs.Parts.{IsPartOf, IsPartOfOne, IsHeldBy, IsHeldByItem, IsHeldByEntry}
use Rattle.plir_attr_text.specs.laws.StepLaws.{bind_ok, ok_is}
use Rattle.plir_attr_text.specs.laws.TypesAgain.{integer_again, type_within_again, function_within_again}
use Rattle.plir_attr_text.specs.{AttrGrammar.AttrWithin, laws.AttrsAgain.attr_again}

one_of : {A : Type 0} (r : Result A Fault) (x y : A) → r ≡ Ok x → r ≡ Ok y → x ≡ y
one_of r x y e f = ok_is x y (sym e ∙ f)

-- ---- items

-- one of the things passes
abbrev One : {A : Type 0} → (A → Type 0) → List A → Type 0
One P [] = ⊥
One P (x ∷ xs) = P x ⊎ One P xs

-- what begins at the place of an item is one of the items that are read
module _ {A : Type 0} (open_ close : ℕ) (read : List ℕ → Result (A × List ℕ) Fault) (P : A → Type 0) (place : List ℕ)
    (given : (x : A × List ℕ) → read place ≡ Ok x → P x.0) where
  among : (n m : ℕ) (start : List ℕ) (xs : List A × List ℕ) → more_at (separator_at close) read m start ≡ Ok xs →
      IsBehind open_ close read n start place → One P xs.0
  unfolding more_at
  among n zero start xs e b = absurd cc
  among zero (suc m) start xs e b =
      let a = bind_ok (read start) (λ x. separator_at close x.1 >>=
      λ s. with_first x.0 (if_more s.0 (more_at (separator_at close) read m s.1) s.1)) xs e in
      let s = bind_ok (separator_at close a.0.1)
      (λ s. with_first a.0.0 (if_more s.0 (more_at (separator_at close) read m s.1) s.1)) xs a.2 in
      let d = bind_ok (if_more s.0.0 (more_at (separator_at close) read m s.0.1) s.0.1) (λ ys. Ok (a.0.0 ∷ ys.0, ys.1))
      xs s.2 in
      subst (λ (y : List A × List ℕ). One P y.0) (ok_is (a.0.0 ∷ d.0.0, d.0.1) xs d.2)
      (inl (given a.0 (subst (λ l. read l ≡ Ok a.0) (sym b) a.1)))
  among (suc n) (suc m) start xs e b =
      let a = bind_ok (read start) (λ x. separator_at close x.1 >>=
      λ s. with_first x.0 (if_more s.0 (more_at (separator_at close) read m s.1) s.1)) xs e in
      let s = bind_ok (separator_at close a.0.1)
      (λ s. with_first a.0.0 (if_more s.0 (more_at (separator_at close) read m s.1) s.1)) xs a.2 in
      let d = bind_ok (if_more s.0.0 (more_at (separator_at close) read m s.0.1) s.0.1) (λ ys. Ok (a.0.0 ∷ ys.0, ys.1))
      xs s.2 in
      let same : b.0 ≡ a.0 = one_of (read start) b.0 a.0 b.2 a.1 in
      let goes : s.0 ≡ (true, b.1) = one_of (separator_at close a.0.1) s.0 (
        true,
        b.1,
      ) s.1 (subst (λ (y : A × List ℕ). separator_at close y.1 ≡ Ok (true, b.1)) same b.3) in
      let more : more_at (separator_at close) read m b.1 ≡ Ok d.0 =
      ap (λ z. if_more z.0 (more_at (separator_at close) read m z.1) z.1) (sym goes) ∙ d.1 in
      subst (λ (y : List A × List ℕ). One P y.0) (ok_is (a.0.0 ∷ d.0.0, d.0.1) xs d.2)
      (inr (among n m b.1 d.0 more b.4))

  item_among : (bytes : List ℕ) (xs : List A × List ℕ) → items_at open_ close read bytes ≡ Ok xs →
      IsItemAt open_ close read bytes place → One P xs.0
  unfolding items_at
  item_among bytes xs e h =
      let a = bind_ok (sign_at open_ bytes) (λ start. unless_closed (past_sign close start)
      (more_at (separator_at close) read (suc (length start)) start)) xs e in
      let same : a.0 ≡ h.0 = one_of (sign_at open_ bytes) a.0 h.0 a.1 h.2 in
      let some = subst (λ l. unless_closed (past_sign close l) (more_at (separator_at close) read (suc (length l)) l) ≡
      Ok xs) same a.2 in
      let all : more_at (separator_at close) read (suc (length h.0)) h.0 ≡ Ok xs =
      ap (λ o. unless_closed o (more_at (separator_at close) read (suc (length h.0)) h.0)) (sym h.3) ∙ some in
      among h.1 (suc (length h.0)) h.0 xs all h.4

-- ---- types

one_type : (t : TypeTerm) (us : List TypeTerm) → One (IsPartOf t) us → IsPartOfOne t (types_of us)
one_type t [] h = absurd h
one_type t (u ∷ us) h = elim h [ inl p ↦ inl p | inr p ↦ inr (one_type t us p) ]

module _ (n : ℕ) (rec : (bytes : List ℕ) (u : TypeTerm × List ℕ) (t : TypeTerm) → type_at n bytes ≡ Ok u →
    IsInType n bytes t → IsPartOf t u.0) where
  in_list : (t : TypeTerm) (bytes : List ℕ) (us : List TypeTerm × List ℕ) → items_at 40 41 (type_at n) bytes ≡ Ok us →
      IsInList 40 41 (type_at n) (IsInType n) bytes t → IsPartOfOne t (types_of us.0)
  in_list t bytes us e w = one_type t us.0 (item_among 40 41 (type_at n) (λ u. IsPartOf t u) w.0
      (λ u f. rec w.0 u t f w.2) bytes us e w.1)

  in_signature : (t : TypeTerm) (bytes : List ℕ) (x : (TypeTerms × TypeTerms) × List ℕ) →
      function_at (type_at n) bytes ≡ Ok x → IsInFunction n bytes t → IsPartOf t (function_type x.0.0 x.0.1)
  unfolding function_at
  in_signature t bytes x e w =
      let a = bind_ok (sign_at 60 bytes) (λ start. items_at 40 41 (type_at n) start >>= λ as_. arrow_at as_.1 >>=
      λ behind. items_at 40 41 (type_at n) behind >>= λ rs. sign_at 62 rs.1 >>=
      λ end. Ok ((types_of as_.0, types_of rs.0), end)) x e in
      let b = bind_ok (items_at 40 41 (type_at n) a.0) (λ as_. arrow_at as_.1 >>=
      λ behind. items_at 40 41 (type_at n) behind >>= λ rs. sign_at 62 rs.1 >>=
      λ end. Ok ((types_of as_.0, types_of rs.0), end)) x a.2 in
      let d = bind_ok (arrow_at b.0.1) (λ behind. items_at 40 41 (type_at n) behind >>= λ rs. sign_at 62 rs.1 >>=
      λ end. Ok ((types_of b.0.0, types_of rs.0), end)) x b.2 in
      let f = bind_ok (items_at 40 41 (type_at n) d.0) (λ rs. sign_at 62 rs.1 >>=
      λ end. Ok ((types_of b.0.0, types_of rs.0), end)) x d.2 in
      let g = bind_ok (sign_at 62 f.0.1) (λ end. Ok ((types_of b.0.0, types_of f.0.0), end)) x f.2 in
      elim w [
        | inl s ↦ inl (s.2 ∙ ap (λ (y : (TypeTerms × TypeTerms) × List ℕ). function_type y.0.0 y.0.1)
            (one_of (function_at (type_at n) bytes) s.0 x s.1 e))
        | inr p ↦
            let start = one_of (sign_at 60 bytes) p.0 a.0 p.1 a.1 in
            subst (λ (y : (TypeTerms × TypeTerms) × List ℕ). IsPartOf t (function_type y.0.0 y.0.1))
            (ok_is ((types_of b.0.0, types_of f.0.0), g.0) x g.2) (inr (elim (p.2) [
              | inl l ↦ inl (in_list t a.0 b.0 b.1 (subst (λ l. IsInList 40 41 (type_at n) (IsInType n) l t) start l))
              | inr r ↦
                  let first = one_of (items_at 40 41 (type_at n) a.0) r.0 b.0
                  (subst (λ l. items_at 40 41 (type_at n) l ≡ Ok r.0) start r.2) b.1 in
                  let behind = one_of (arrow_at b.0.1) r.1 d.0
                  (subst (λ (y : List TypeTerm × List ℕ). arrow_at y.1 ≡ Ok r.1) first r.3) d.1 in
                  inr (in_list t d.0 f.0 f.1 (subst (λ l. IsInList 40 41 (type_at n) (IsInType n) l t) behind r.4))
            ]))
      ]

  in_body : (k : TypeKind) (t : TypeTerm) (bytes : List ℕ) (u : TypeTerm × List ℕ) →
      type_body (type_at n) k bytes ≡ Ok u → IsInTypeBody (type_at n) (IsInType n) k bytes t → IsPartOf t u.0
  in_body Integer t bytes u e w =
      let a = bind_ok (integer_at bytes) (λ x. Ok (integer_type x.0.0 x.0.1, x.1)) u e in
      let same = one_of (integer_at bytes) w.0 a.0 w.1 a.1 in
      subst (λ (y : TypeTerm × List ℕ). IsPartOf t y.0) (ok_is (integer_type a.0.0.0 a.0.0.1, a.0.1) u a.2)
      (subst (λ x. t ≡ integer_type x.0.0 x.0.1) same w.2)
  in_body Function t bytes u e w =
      let a = bind_ok (function_at (type_at n) bytes) (λ x. Ok (function_type x.0.0 x.0.1, x.1)) u e in
      subst (λ (y : TypeTerm × List ℕ). IsPartOf t y.0) (ok_is (function_type a.0.0.0 a.0.0.1, a.0.1) u a.2)
      (in_signature t bytes a.0 a.1 w)
  in_body Unit t bytes u e w = subst (λ (y : TypeTerm × List ℕ). IsPartOf t y.0) (ok_is (unit_type, bytes) u e) w

pub type_part : (n : ℕ) (bytes : List ℕ) (u : TypeTerm × List ℕ) (t : TypeTerm) → type_at n bytes ≡ Ok u →
    IsInType n bytes t → IsPartOf t u.0
unfolding type_at IsInType
type_part zero bytes u t e w = absurd w
type_part (suc n) bytes u t e w =
    let a = bind_ok (type_head bytes) (λ h. type_body (type_at n) h.0 h.1) u e in
    let same = one_of (type_head bytes) a.0 w.0 a.1 w.1 in
    in_body n (type_part n) w.0.0 t w.0.1 u (subst (λ h. type_body (type_at n) h.0 h.1 ≡ Ok u) same a.2) w.2

-- a type that is written in the text of an integer type without its id is that one
pub part_of_integer : (text : List ℕ) (t : TypeTerm) (x : Signedness × ℕ) → IsText IsInteger text x
    → IsInInteger text t → t ≡ integer_type x.0 x.1
part_of_integer text t x s w =
    let same = one_of (integer_at text) w.0 (x, s.are_tokens.rest) w.1 (integer_again x s.tokens text s.are_tokens.rest
    s.spelled s.are_tokens.begins) in
    w.2 ∙ ap (λ (y : (Signedness × ℕ) × List ℕ). integer_type y.0.0 y.0.1) same

-- one that is written in the text of a function type without its id is part of that one
pub part_of_function : (n : ℕ) (text : List ℕ) (t : TypeTerm) (x : TypeTerms × TypeTerms)
    → IsText (FunctionWithin (suc n)) text x → IsInFunction n text t → IsPartOf t (function_type x.0 x.1)
part_of_function n text t x s w = in_signature n (type_part n) t text (
  x,
  s.are_tokens.rest,
) (function_within_again n x s.tokens text s.are_tokens.rest s.spelled s.are_tokens.begins) w

-- a type that is written in the text of a type is part of it
pub part_of_type : (n : ℕ) (text : List ℕ) (t u : TypeTerm) → IsText (TypeWithin n) text u → IsInType n text t →
    IsPartOf t u
part_of_type n text t u s w =
    type_part n text (u, s.are_tokens.rest) t (type_within_again n u s.tokens text s.are_tokens.rest s.spelled
    s.are_tokens.begins) w

-- ---- attributes

one_item : (t : TypeTerm) (xs : List AttrTerm) → One (IsHeldBy t) xs → IsHeldByItem t (attrs_of xs)
one_item t [] h = absurd h
one_item t (x ∷ xs) h = elim h [ inl p ↦ inl p | inr p ↦ inr (one_item t xs p) ]

one_entry : (t : TypeTerm) (es : List (List ℕ × AttrTerm)) → One (λ e. IsHeldBy t e.1) es →
    IsHeldByEntry t (entries_of es)
one_entry t [] h = absurd h
one_entry t (e ∷ es) h = elim h [ inl p ↦ inl p | inr p ↦ inr (one_entry t es p) ]

module _ (n : ℕ) (rec : (bytes : List ℕ) (x : AttrTerm × List ℕ) (t : TypeTerm) → attr_at n bytes ≡ Ok x →
    IsInAttr n bytes t → IsHeldBy t x.0) where
  in_entry : (t : TypeTerm) (bytes : List ℕ) (x : (List ℕ × AttrTerm) × List ℕ) → entry_at (attr_at n) bytes ≡ Ok x →
      IsInEntry (IsInAttr n) bytes t → IsHeldBy t x.0.1
  unfolding entry_at
  in_entry t bytes x e w =
      let k = bind_ok (name_at bytes) (λ k. sign_at 61 k.1 >>= λ behind. attr_at n behind >>= λ v. Ok ((k.0, v.0), v.1))
      x e in
      let b = bind_ok (sign_at 61 k.0.1) (λ behind. attr_at n behind >>= λ v. Ok ((k.0.0, v.0), v.1)) x k.2 in
      let v = bind_ok (attr_at n b.0) (λ v. Ok ((k.0.0, v.0), v.1)) x b.2 in
      let key = one_of (name_at bytes) w.0 k.0 w.2 k.1 in
      let behind = one_of (sign_at 61 k.0.1) w.1 b.0 (subst (λ (y : List ℕ × List ℕ). sign_at 61 y.1 ≡ Ok w.1) key w.3)
      b.1 in
      subst (λ (y : (List ℕ × AttrTerm) × List ℕ). IsHeldBy t y.0.1) (ok_is ((k.0.0, v.0.0), v.0.1) x v.2)
      (rec b.0 v.0 t v.1 (subst (λ l. IsInAttr n l t) behind w.4))

  in_attr_body : (k : AttrKind) (t : TypeTerm) (bytes : List ℕ) (x : AttrTerm × List ℕ) →
      attr_body n (attr_at n) k bytes ≡ Ok x → IsBehindId n k bytes t → IsHeldBy t x.0
  in_attr_body kinds.Identifier t bytes x e w = absurd w
  in_attr_body kinds.String t bytes x e w = absurd w
  in_attr_body kinds.Bool t bytes x e w = absurd w
  in_attr_body kinds.Integer t bytes x e w =
      let a = bind_ok (value_at n bytes) (λ v. Ok (terms.integer v.0.0.0 v.0.0.1 v.0.1, v.1)) x e in
      let same = one_of (value_at n bytes) w.0 a.0 w.1 a.1 in
      subst (λ (y : AttrTerm × List ℕ). IsHeldBy t y.0) (ok_is (terms.integer a.0.0.0.0 a.0.0.0.1 a.0.0.1, a.0.1) x a.2)
      (subst (λ v. t ≡ integer_type v.0.0.0 v.0.0.1) same w.2)
  in_attr_body kinds.Dict t bytes x e w =
      let a = bind_ok (items_at 91 93 (entry_at (attr_at n)) bytes) (λ es. Ok (terms.dict (entries_of es.0), es.1)) x e
      in
      let one = one_entry t a.0.0 (item_among 91 93 (entry_at (attr_at n)) (λ f. IsHeldBy t f.1) w.0
      (λ y f. in_entry t w.0 y f w.2) bytes a.0 a.1 w.1) in
      subst (λ (y : AttrTerm × List ℕ). IsHeldBy t y.0) (ok_is (terms.dict (entries_of a.0.0), a.0.1) x a.2) one
  in_attr_body kinds.Vec t bytes x e w =
      let a = bind_ok (items_at 91 93 (attr_at n) bytes) (λ xs. Ok (terms.vec (attrs_of xs.0), xs.1)) x e in
      let one = one_item t a.0.0 (item_among 91 93 (attr_at n) (λ y. IsHeldBy t y) w.0 (λ y f. rec w.0 y t f w.2) bytes
      a.0 a.1 w.1) in
      subst (λ (y : AttrTerm × List ℕ). IsHeldBy t y.0) (ok_is (terms.vec (attrs_of a.0.0), a.0.1) x a.2) one
  in_attr_body kinds.Unit t bytes x e w = absurd w
  in_attr_body kinds.TypeOf t bytes x e w =
      let a = bind_ok (type_at n bytes) (λ u. Ok (terms.type u.0, u.1)) x e in
      subst (λ (y : AttrTerm × List ℕ). IsHeldBy t y.0) (ok_is (terms.type a.0.0, a.0.1) x a.2)
      (type_part n bytes a.0 t a.1 w)
  in_attr_body kinds.OperandSegmentSizes t bytes x e w = absurd w
  in_attr_body kinds.GivenNames t bytes x e w = absurd w

pub attr_part : (n : ℕ) (bytes : List ℕ) (x : AttrTerm × List ℕ) (t : TypeTerm) → attr_at n bytes ≡ Ok x →
    IsInAttr n bytes t → IsHeldBy t x.0
unfolding attr_at IsInAttr
attr_part zero bytes x t e w = absurd w
attr_part (suc n) bytes x t e w =
    let a = bind_ok (attr_head bytes) (λ h. attr_body n (attr_at n) h.0 h.1) x e in
    let same = one_of (attr_head bytes) a.0 w.0 a.1 w.1 in
    in_attr_body n (attr_part n) w.0.0 t w.0.1 x (subst (λ h. attr_body n (attr_at n) h.0 h.1 ≡ Ok x) same a.2) w.2

-- a type that is written in entries in brackets is held by one of them
pub entries_part : (n : ℕ) (bytes : List ℕ) (es : List (List ℕ × AttrTerm) × List ℕ) (t : TypeTerm)
    → items_at 91 93 (entry_at (attr_at n)) bytes ≡ Ok es → IsBehindId n kinds.Dict bytes t
    → IsHeldByEntry t (entries_of es.0)
entries_part n bytes es t e w =
    one_entry t es.0 (item_among 91 93 (entry_at (attr_at n)) (λ f. IsHeldBy t f.1) w.0 (λ y f. in_entry n (attr_part n)
    t w.0 y f w.2) bytes es e w.1)

-- a type that is written in the text of an attribute is held by it
pub held_by_attr : (n : ℕ) (text : List ℕ) (t : TypeTerm) (x : AttrTerm) → IsText (AttrWithin n) text x →
    IsInAttr n text t → IsHeldBy t x
held_by_attr n text t x s w = attr_part n text (x, s.are_tokens.rest) t (attr_again x s.tokens n text s.are_tokens.rest
    s.spelled.0 s.spelled.1 s.are_tokens.begins) w
