-- Tables of types that grow, and what handles name in them.
use Rattle.std.proofs.Common.{◌≡◌, ℕ, zero, suc, ◌<◌, ◌+◌, inl, inr, List, [], ◌∷◌, ◌++◌, length, Some, slice_get, refl}
use Rattle.std.proofs.Common.{sym, ap, subst, ◌∙◌, append-nil, append_assoc, length-append, arith}
use Rattle.std.proofs.{lemmas.Bool.cases_lt, lemmas.Option.slice_get_within}
use Rattle.plir_data.specs.Types.{TypeView, integer, function, unit, IsInstantiated, AllLive, type_at}
use Rattle.plir_attr_text.specs.Terms.{TypeTerm, integer_type, function_type, unit_type, TypeTerms, no_types}
use Rattle.plir_attr_text.specs.Terms.{type_before, types_of}
use Rattle.plir_attr_text.specs.Names.{Grows, AreNamed, Adds, Names, NamesAll}

module _ {T : Type 0} where
  pub Grows-itself : (xs : List (TypeView T)) → Grows xs xs
  Grows-itself xs = ([], sym (append-nil xs))

  pub Grows-on : (xs ys zs : List (TypeView T)) → Grows xs ys → Grows ys zs → Grows xs zs
  Grows-on xs ys zs p q = (p.0 ++ q.0, q.1 ∙ ap (λ (l : List (TypeView T)). l ++ q.0) p.1 ∙ append_assoc xs p.0 q.0)

  pub Grows-instantiated : (xs ys : List (TypeView T)) (t : TypeView T) (h : ℕ) → IsInstantiated xs t h ys → Grows xs ys
  Grows-instantiated xs ys t h i = elim (i.grown) [ inl e ↦ ([], e ∙ sym (append-nil xs)) | inr p ↦ (t ∷ [], p.1) ]

  at_append : (xs more : List (TypeView T)) (h : ℕ) (t : TypeView T) → slice_get xs h ≡ Some t →
      slice_get (xs ++ more) h ≡ Some t
  at_append [] more h t e = absurd (omega (arith, slice_get_within [] h t e))
  at_append (x ∷ xs) more zero t e = e
  at_append (x ∷ xs) more (suc h) t e = at_append xs more h t e

  pub at_grown : (xs ys : List (TypeView T)) (h : ℕ) (t : TypeView T) → Grows xs ys → type_at xs h ≡ Some t →
      type_at ys h ≡ Some t
  at_grown xs ys h t g e = subst (λ (l : List (TypeView T)). slice_get l h ≡ Some t) (sym g.1) (at_append xs g.0 h t e)

  mutual
    -- what a handle names it names on
    pub Names-grown : (xs ys : List (TypeView T)) (h : ℕ) (t : TypeTerm) → Grows xs ys → Names xs h t → Names ys h t
    Names-grown xs ys h (integer_type s w) g n = at_grown xs ys h (integer s w) g n
    Names-grown xs ys h (function_type as_ rs) g n = (
      n.0,
      n.1,
      at_grown xs ys h (function n.0 n.1) g n.2,
      NamesAll-grown xs ys n.0 as_ g n.3,
      NamesAll-grown xs ys n.1 rs g n.4,
    )
    Names-grown xs ys h unit_type g n = at_grown xs ys h unit g n

    pub NamesAll-grown : (xs ys : List (TypeView T)) (hs : List ℕ) (ts : TypeTerms) → Grows xs ys → NamesAll xs hs ts →
        NamesAll ys hs ts
    NamesAll-grown xs ys hs no_types g n = n
    NamesAll-grown xs ys hs (type_before t ts) g n = (
      n.0,
      n.1,
      Names-grown xs ys n.0 t g n.2,
      NamesAll-grown xs ys n.1 ts g n.3,
      n.4,
    )

  -- ---- types that come last are named

  named_itself : (written : TypeTerm → Type 0) (xs : List (TypeView T)) → AreNamed written xs xs
  named_itself written xs h ge lt = absurd (omega (arith, ge, lt))

  named_on : (written : TypeTerm → Type 0) (xs ys zs : List (TypeView T)) → Grows ys zs → AreNamed written xs ys →
      AreNamed written ys zs → AreNamed written xs zs
  named_on written xs ys zs g p q h ge lt = elim (cases_lt h (length ys)) [
    | inl less ↦ let n = p h ge less in
        (n.0, n.1, Names-grown ys zs h n.0 g n.2)
    | inr more ↦ q h more lt
  ]

  named_none : (written : TypeTerm → Type 0) (xs ys : List (TypeView T)) → ys ≡ xs → AreNamed written xs ys
  named_none written xs ys e = subst (λ (l : List (TypeView T)). AreNamed written xs l) (sym e)
      (named_itself written xs)

  at_end : (xs : List (TypeView T)) (t : TypeView T) → type_at (xs ++ t ∷ []) (length xs) ≡ Some t
  at_end [] t = refl
  at_end (x ∷ xs) t = at_end xs t

  -- `names` says which type the term is that stands for the one that comes
  named_one : (written : TypeTerm → Type 0) (xs ys : List (TypeView T)) (t : TypeView T) (h : ℕ) (term : TypeTerm) →
      written term → ((k : ℕ) → type_at ys k ≡ Some t → Names ys k term) → IsInstantiated xs t h ys →
      AreNamed written xs ys
  named_one written xs ys t h term w names i = elim (i.grown) [
    | inl e ↦ named_none written xs ys e
    | inr p ↦ λ k ge lt.
        let size : length ys ≡ length xs + 1 = ap length p.1 ∙ length-append xs (t ∷ []) in
        let last : k ≡ length xs = omega (arith, ge, lt, size) in (
          term,
          w,
          names k (ap (type_at ys) last ∙ ap (λ (l : List (TypeView T)). type_at l (length xs)) p.1 ∙
              at_end xs t),
        )
  ]

  -- the same under another name of the text
  pub named_as : (written : List ℕ → TypeTerm → Type 0) (a b : List ℕ) (xs ys : List (TypeView T)) → a ≡ b →
      AreNamed (written a) xs ys → AreNamed (written b) xs ys
  named_as written a b xs ys e n = subst (λ (l : List ℕ). AreNamed (written l) xs ys) e n

  -- by other words for what is written
  pub named_by : (written other : TypeTerm → Type 0) → ((t : TypeTerm) → written t → other t)
      → (xs ys : List (TypeView T)) → AreNamed written xs ys → AreNamed other xs ys
  named_by written other as_other xs ys p h ge lt = let n = p h ge lt in (n.0, as_other n.0 n.1, n.2)

  pub Names-live : (xs : List (TypeView T)) (h : ℕ) (t : TypeTerm) → Names xs h t → h < length xs
  Names-live xs h (integer_type s w) n = slice_get_within xs h (integer s w) n
  Names-live xs h (function_type as_ rs) n = slice_get_within xs h (function n.0 n.1) n.2
  Names-live xs h unit_type n = slice_get_within xs h unit n

  live_before : (xs : List (TypeView T)) (h : ℕ) (hs : List ℕ) → h < length xs → AllLive xs hs → AllLive xs (h ∷ hs)
  live_before xs h hs lt all zero d p = lt
  live_before xs h hs lt all (suc k) d p = all k d (omega (arith, p))

  live_append : (xs : List (TypeView T)) (hs ks : List ℕ) → AllLive xs hs → AllLive xs ks → AllLive xs (hs ++ ks)
  live_append xs [] ks all more = more
  live_append xs (h ∷ hs) ks all more =
      live_before xs h (hs ++ ks) (all 0 0 (omega arith))
      (live_append xs hs ks (λ k d p. all (suc k) d (omega (arith, p))) more)

  NamesAll-live : (xs : List (TypeView T)) (hs : List ℕ) (ts : TypeTerms) → NamesAll xs hs ts → AllLive xs hs
  NamesAll-live xs hs no_types n = subst (λ (l : List ℕ). AllLive xs l) (sym n) (λ k d p. absurd (omega (arith, p)))
  NamesAll-live xs hs (type_before t ts) n =
      subst (λ (l : List ℕ). AllLive xs l) (sym n.4) (live_before xs n.0 n.1 (Names-live xs n.0 t n.2)
      (NamesAll-live xs n.1 ts n.3))

  -- the handles of arguments and results may make a function type
  pub both_live : (xs : List (TypeView T)) (hs ks : List ℕ) (as_ rs : TypeTerms) → NamesAll xs hs as_ →
      NamesAll xs ks rs → AllLive xs (hs ++ ks)
  both_live xs hs ks as_ rs n m = live_append xs hs ks (NamesAll-live xs hs as_ n) (NamesAll-live xs ks rs m)

  pub NamesAll-push : (xs : List (TypeView T)) (hs : List ℕ) (ts : List TypeTerm) (h : ℕ) (t : TypeTerm) →
      NamesAll xs hs (types_of ts) → Names xs h t → NamesAll xs (hs ++ h ∷ []) (types_of (ts ++ t ∷ []))
  NamesAll-push xs hs [] h t n m = (h, [], m, refl, ap (λ (l : List ℕ). l ++ h ∷ []) n)
  NamesAll-push xs hs (s ∷ ts) h t n m = (
    n.0,
    n.1 ++ h ∷ [],
    n.2,
    NamesAll-push xs n.1 ts h t n.3 m,
    ap (λ (l : List ℕ). l ++ h ∷ []) n.4,
  )

  -- handles of the types read so far
  abbrev pub NamesFront : List (TypeView T) → List ℕ → List TypeTerm → Type 0
  NamesFront types hs front = NamesAll types hs (types_of front)

  pub NamesFront-grown : (xs ys : List (TypeView T)) (hs : List ℕ) (ts : List TypeTerm) → Grows xs ys →
      NamesFront xs hs ts → NamesFront ys hs ts
  NamesFront-grown xs ys hs ts g n = NamesAll-grown xs ys hs (types_of ts) g n

  pub NamesFront-push : (xs : List (TypeView T)) (hs ks : List ℕ) (ts : List TypeTerm) (h : ℕ) (t : TypeTerm) →
      ks ≡ hs ++ h ∷ [] → NamesFront xs hs ts → Names xs h t → NamesFront xs ks (ts ++ t ∷ [])
  NamesFront-push xs hs ks ts h t e n m = subst (λ (l : List ℕ). NamesAll xs l (types_of (ts ++ t ∷ []))) (sym e)
      (NamesAll-push xs hs ts h t n m)

module _ {S T : Type 0} {types : S → List (TypeView T)} {same : S → S → Type 0} {written : TypeTerm → Type 0} where
  pub Adds-itself : ((c : S) → same c c) → (c : S) → Adds types same written c c
  Adds-itself itself c = record
      { grown = Grows-itself (types c); named = named_itself written (types c); rest = itself c }

  pub Adds-on : ((a b c : S) → same a b → same b c → same a c) → (a b c : S) → Adds types same written a b →
      Adds types same written b c → Adds types same written a c
  Adds-on on a b c p q = record {
    grown = Grows-on (types a) (types b) (types c) p.grown q.grown;
    named = named_on written (types a) (types b)
        (types c) q.grown p.named q.named;
    rest = on a b c p.rest q.rest;
  }

  -- one type more
  pub Adds-one : (a b : S) (t : TypeView T) (h : ℕ) (term : TypeTerm) → written term →
      ((k : ℕ) → type_at (types b) k ≡ Some t → Names (types b) k term) → IsInstantiated (types a) t h (types b) →
      same a b → Adds types same written a b
  Adds-one a b t h term w names i r =
      record {
        grown = Grows-instantiated (types a) (types b) t h i;
        named = named_one written (types a) (types b) t h
            term w names i;
        rest = r;
      }

  pub Adds-none : (a b : S) → types b ≡ types a → same a b → Adds types same written a b
  Adds-none a b e r = record
      { grown = ([], e ∙ sym (append-nil (types a))); named = named_none written (types a) (types b) e; rest = r }

  -- what is written in a part is written in the whole
  pub Adds-as : {whole : TypeTerm → Type 0} → ((t : TypeTerm) → written t → whole t) → (a b : S) →
      Adds types same written a b → Adds types same whole a b
  Adds-as as_whole a b p = record
      { grown = p.grown; named = λ h ge lt. (let n = p.named h ge lt in (n.0, as_whole n.0 n.1, n.2)); rest = p.rest }
