-- What attributes mean in tables that grow.
use Rattle.std.proofs.Common.{◌≡◌, ◌<◌, ℕ, zero, suc, List, [], ◌∷◌, ◌++◌, length, map, refl, sym, ap, subst, ◌∙◌}
use Rattle.std.proofs.Common.{arith}
use Rattle.std.proofs.{lemmas.List.map-append, lemmas.Option.slice_get_within}
use Rattle.plir_data.specs.Types as types
use Rattle.plir_data.specs.AttrLive.{leaf_handles, IsAttrLive, AreItemsLive, AreEntriesLive, HandlesLive}
use Rattle.plir_data.specs.LiveLaws.{live_listed, listed_live, put_live}
use Rattle.plir_data.specs.{Types.TypeView, Types.AllLive, AttrSeen.attr_view, declared.attributes.AttrObj.AttrObj}
use Rattle.plir_data.specs.DictSeen.{pairs_view}
use Rattle.plir_data.specs.AttrView as views
use Rattle.plir_data.specs.AttrView.{Leaf, AttrView, leaf}
use Rattle.plir_data.specs.Dictionary.{dict_put, dict_put_all, dict_of}
use Rattle.plir_attr_text.specs.Terms as terms
use Rattle.plir_attr_text.specs.Terms.{AttrTerm, AttrTerms, no_attrs, attr_before, EntryTerms, no_entries, entry_before}
use Rattle.plir_attr_text.specs.Terms.{attrs_of, entries_of}
use Rattle.plir_attr_text.specs.Meaning.{IsMeant, AreMeant, AreEntriesMeant, IsDictMeant}
use Rattle.plir_attr_text.specs.{Names.Grows, laws.Growth.at_grown, laws.Growth.Names-grown, laws.Growth.Names-live}

module _ {A T : Type 0} (old new : List (TypeView T)) (g : Grows old new) where
  mutual
    pub IsMeant-grown : (t : AttrTerm) (x : AttrView A) → IsMeant old t x → IsMeant new t x
    IsMeant-grown (terms.identifier w) x m = m
    IsMeant-grown (terms.string s) x m = m
    IsMeant-grown (terms.bool b) x m = m
    IsMeant-grown (terms.integer s w b) x m = (m.0, at_grown old new m.0 (types.integer s w) g m.1, m.2)
    IsMeant-grown terms.unit x m = m
    IsMeant-grown (terms.type t) x m = (m.0, Names-grown old new m.0 t g m.1, m.2)
    IsMeant-grown (terms.operand_segment_sizes ns) x m = m
    IsMeant-grown (terms.given_names ns) x m = m
    IsMeant-grown (terms.dict es) x m = (m.0, AreEntriesMeant-grown es m.0 m.1, m.2)
    IsMeant-grown (terms.vec ts) x m = (m.0, AreMeant-grown ts m.0 m.1, m.2)

    pub AreMeant-grown : (ts : AttrTerms) (xs : List (AttrView A)) → AreMeant old ts xs → AreMeant new ts xs
    AreMeant-grown no_attrs xs m = m
    AreMeant-grown (attr_before t ts) xs m = (m.0, m.1, IsMeant-grown t m.0 m.2, AreMeant-grown ts m.1 m.3, m.4)

    AreEntriesMeant-grown : (es : EntryTerms) (ps : List (List ℕ × AttrView A)) → AreEntriesMeant old es ps →
        AreEntriesMeant new es ps
    AreEntriesMeant-grown no_entries ps m = m
    AreEntriesMeant-grown (entry_before k t es) ps m = (
      m.0,
      m.1,
      IsMeant-grown t m.0 m.2,
      AreEntriesMeant-grown es m.1 m.3,
      m.4,
    )

  pub IsDictMeant-grown : (es : EntryTerms) (entries : List (List ℕ × AttrView A)) → IsDictMeant old es entries →
      IsDictMeant new es entries
  IsDictMeant-grown es entries m = (m.0, AreEntriesMeant-grown es m.0 m.1, m.2)

-- the attributes, and the dictionary, of what was read so far
module _ {A T : Type 0} where
  abbrev pub ItemsFront : List (TypeView T) → List (AttrView A) → List AttrTerm → Type 0
  ItemsFront table held front = AreMeant table (attrs_of front) held

  pub ItemsFront-grown : (old new : List (TypeView T)) (held : List (AttrView A)) (ts : List AttrTerm) → Grows old new →
      ItemsFront old held ts → ItemsFront new held ts
  ItemsFront-grown old new held ts g m = AreMeant-grown old new g (attrs_of ts) held m

  abbrev pub DictFront : List (TypeView T) → List (List ℕ × AttrView A) → List (List ℕ × AttrTerm) → Type 0
  DictFront table held front = IsDictMeant table (entries_of front) held

  pub DictFront-grown : (old new : List (TypeView T)) (held : List (List ℕ × AttrView A))
      (es : List (List ℕ × AttrTerm)) → Grows old new → DictFront old held es → DictFront new held es
  DictFront-grown old new held es g m = IsDictMeant-grown old new g (entries_of es) held m

module _ {A T : Type 0} (table : List (TypeView T)) where
  pub AreMeant-push : (xs : List (AttrView A)) (ts : List AttrTerm) (x : AttrView A) (t : AttrTerm) →
      AreMeant table (attrs_of ts) xs → IsMeant table t x → AreMeant table (attrs_of (ts ++ t ∷ [])) (xs ++ x ∷ [])
  AreMeant-push xs [] x t m n = (x, [], n, refl, ap (λ (l : List (AttrView A)). l ++ x ∷ []) m)
  AreMeant-push xs (s ∷ ts) x t m n = (
    m.0,
    m.1 ++ x ∷ [],
    m.2,
    AreMeant-push m.1 ts x t m.3 n,
    ap (λ (l : List (AttrView A)). l ++ x ∷ []) m.4,
  )

  pub ItemsFront-push : {D K E : Type 0} (xs ys : List (AttrObj D K A T E)) (ts : List AttrTerm) (x : AttrObj D K A T E)
      (t : AttrTerm) → ys ≡ xs ++ x ∷ [] → ItemsFront table (map attr_view xs) ts → IsMeant table t (attr_view x) →
      ItemsFront table (map attr_view ys) (ts ++ t ∷ [])
  ItemsFront-push xs ys ts x t e m n =
      subst (λ l. AreMeant table (attrs_of (ts ++ t ∷ [])) l) (sym (ap (map attr_view) e ∙
      map-append attr_view xs (x ∷ []))) (AreMeant-push (map attr_view xs) ts (attr_view x) t m n)

  entries-push : (ps : List (List ℕ × AttrView A)) (es : List (List ℕ × AttrTerm)) (k : List ℕ) (x : AttrView A)
      (t : AttrTerm) → AreEntriesMeant table (entries_of es) ps → IsMeant table t x →
      AreEntriesMeant table (entries_of (es ++ (k, t) ∷ [])) (ps ++ (k, x) ∷ [])
  entries-push ps [] k x t m n = (x, [], n, refl, ap (λ (l : List (List ℕ × AttrView A)). l ++ (k, x) ∷ []) m)
  entries-push ps (e ∷ es) k x t m n = (
    m.0,
    m.1 ++ (k, x) ∷ [],
    m.2,
    entries-push m.1 es k x t m.3 n,
    ap (λ (l : List (List ℕ × AttrView A)). l ++ (k, x) ∷ []) m.4,
  )

  put_all-push : (es ps : List (List ℕ × AttrView A)) (k : List ℕ) (x : AttrView A) → dict_put_all es (ps ++ (k, x) ∷
      []) ≡ dict_put (dict_put_all es ps) k x
  put_all-push es [] k x = refl
  put_all-push es (p ∷ ps) k x = put_all-push (dict_put es p.0 p.1) ps k x

  IsDictMeant-push : (held held' : List (List ℕ × AttrView A)) (es : List (List ℕ × AttrTerm)) (k l : List ℕ)
      (x : AttrView A) (t : AttrTerm) → held' ≡ dict_put held k x → k ≡ l → IsDictMeant table (entries_of es) held →
      IsMeant table t x → IsDictMeant table (entries_of (es ++ (l, t) ∷ [])) held'
  IsDictMeant-push held held' es k l x t put same m n = (
    m.0 ++ (l, x) ∷ [],
    entries-push m.0 es l x t m.1 n,
    put ∙
        ap (λ (es : List (List ℕ × AttrView A)). dict_put es k x) m.2 ∙
        ap (λ (w : List ℕ). dict_put (dict_of m.0) w x) same ∙ sym (put_all-push [] m.0 l x),
  )

  pub DictFront-push : {D K E : Type 0} (ps qs : List (List ℕ × AttrObj D K A T E)) (d : List (List ℕ × AttrView A))
      (es : List (List ℕ × AttrTerm)) (k l : List ℕ) (x : AttrObj D K A T E) (t : AttrTerm) → qs ≡ ps ++ (k, x) ∷ [] →
      d ≡ dict_of (pairs_view qs) → k ≡ l → DictFront table (dict_of (pairs_view ps)) es →
      IsMeant table t (attr_view x) → DictFront table d (es ++ (l, t) ∷ [])
  DictFront-push ps qs d es k l x t e is same m n =
      IsDictMeant-push (dict_of (pairs_view ps)) d es k l (attr_view x) t (is ∙ ap (λ rs. dict_of (pairs_view rs)) e ∙
      ap dict_of (map-append (λ p. (p.0, attr_view p.1)) ps ((k, x) ∷ [])) ∙
      put_all-push [] (pairs_view ps) k (attr_view x)) same m n

-- ---- what is meant holds handles of the table alone

module _ {A T : Type 0} (own : A → List ℕ) (table : List (TypeView T)) where
  abbrev IsHeld : AttrView A → Type 0
  IsHeld x = IsAttrLive own table x

  put_listed : (es : List (List ℕ × AttrView A)) (k : List ℕ) (x : AttrView A) → IsHeld x →
      AreEntriesLive own table (views.entries_of es) → AreEntriesLive own table (views.entries_of (dict_put es k x))
  put_listed es k x h all =
      live_listed own table (dict_put es k x) (put_live own table es k x h (listed_live own table es all))

  put_all_live : (es ps : List (List ℕ × AttrView A)) → AreEntriesLive own table (views.entries_of es) →
      AreEntriesLive own table (views.entries_of ps) → AreEntriesLive own table (views.entries_of (dict_put_all es ps))
  put_all_live es [] all more = all
  put_all_live es (p ∷ ps) all more = put_all_live (dict_put es p.0 p.1) ps (put_listed es p.0 p.1 more.0 all) more.1

  pub one_live : (h : ℕ) → h < length table → AllLive table (h ∷ [])
  one_live h lt zero d p = lt
  one_live h lt (suc k) d p = absurd (omega (arith, p))

  pub leaf_live : (x : Leaf A) → leaf_handles own x ≡ [] → IsHeld (leaf x)
  leaf_live x none = subst (AllLive table) (sym none) (λ k d p. absurd (omega (arith, p)))

  mutual
    pub IsMeant-live : (t : AttrTerm) (x : AttrView A) → IsMeant table t x → IsHeld x
    IsMeant-live (terms.identifier w) x m = subst IsHeld (sym m) (leaf_live (views.identifier w) refl)
    IsMeant-live (terms.string s) x m = subst IsHeld (sym m) (leaf_live (views.string s) refl)
    IsMeant-live (terms.bool b) x m = subst IsHeld (sym m) (leaf_live (views.bool b) refl)
    IsMeant-live (terms.integer s w b) x m =
        subst IsHeld (sym m.2) (one_live m.0 (slice_get_within table m.0 (types.integer s w) m.1))
    IsMeant-live terms.unit x m = subst IsHeld (sym m) (leaf_live views.unit refl)
    IsMeant-live (terms.type t) x m = subst IsHeld (sym m.2) (one_live m.0 (Names-live table m.0 t m.1))
    IsMeant-live (terms.operand_segment_sizes ns) x m =
        subst IsHeld (sym m) (leaf_live (views.operand_segment_sizes ns) refl)
    IsMeant-live (terms.given_names ns) x m = subst IsHeld (sym m) (leaf_live (views.given_names ns) refl)
    IsMeant-live (terms.dict es) x m = subst IsHeld (sym m.2) (put_all_live [] m.0 tt (entries_live es m.0 m.1))
    IsMeant-live (terms.vec ts) x m = subst IsHeld (sym m.2) (items_live ts m.0 m.1)

    items_live : (ts : AttrTerms) (xs : List (AttrView A)) → AreMeant table ts xs →
        AreItemsLive own table (views.items_of xs)
    items_live no_attrs xs m = subst (λ l. AreItemsLive own table (views.items_of l)) (sym m) tt
    items_live (attr_before t ts) xs m = subst (λ l. AreItemsLive own table (views.items_of l)) (sym m.4)
        (IsMeant-live t m.0 m.2, items_live ts m.1 m.3)

    entries_live : (es : EntryTerms) (ps : List (List ℕ × AttrView A)) → AreEntriesMeant table es ps →
        AreEntriesLive own table (views.entries_of ps)
    entries_live no_entries ps m = subst (λ l. AreEntriesLive own table (views.entries_of l)) (sym m) tt
    entries_live (entry_before k t es) ps m = subst (λ l. AreEntriesLive own table (views.entries_of l)) (sym m.4)
        (IsMeant-live t m.0 m.2, entries_live es m.1 m.3)

  -- so are the entries of a dictionary that is meant
  pub IsDictMeant-live : (es : EntryTerms) (entries : List (List ℕ × AttrView A)) → IsDictMeant table es entries →
      HandlesLive own table entries
  IsDictMeant-live es entries m = subst (HandlesLive own table) (sym m.2)
      (listed_live own table (dict_of m.0) (IsMeant-live (terms.dict es) (views.dict (views.entries_of (dict_of m.0)))
      (m.0, m.1, refl)))
