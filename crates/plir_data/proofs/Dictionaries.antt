-- What a dictionary stays, and what its entries make, put one after another.
use Rattle.std.proofs.Common.{◌≡◌, ℕ, Bool, true, false, cond, List, [], ◌∷◌, map, Ordering, Less, Equal, Greater}
use Rattle.std.proofs.Common.{nat_cmp, refl, ap, subst, sym, ◌∙◌, ◌++◌, append_assoc, append-nil}
use Rattle.std.proofs.lemmas.Cmp.{nat_list_cmp_total}
use Rattle.std.specs.BTreeMap.{insert_entry}
use Rattle.std.specs.Ordering.{match_ordering, ordering_reverse}
use Rattle.std.specs.Cmp.Lexicographic.{slice_cmp}
use Rattle.plir_data.specs.Dictionary.{dict_put, dict_without, dict_put_all, dict_of, is_key, IsBelowAll, IsDictionary}
use Rattle.plir_data.specs.Identifier.{is_identifier}

module _ {V : Type 0} where
  below_all : (es : List (List ℕ × V)) (k l : List ℕ) → slice_cmp nat_cmp k l ≡ Less → IsBelowAll l es → IsBelowAll k es
  below_all [] k l less below = tt
  below_all (e ∷ es) k l less below = (nat_list_cmp_total.trans k l e.0 less below.0, below_all es k l less below.1)

  below_match : (o : Ordering) (l : List ℕ) (xs ys zs : List (List ℕ × V)) → IsBelowAll l xs → IsBelowAll l ys →
      IsBelowAll l zs → IsBelowAll l (match_ordering o xs ys zs)
  below_match Less l xs ys zs x y z = x
  below_match Equal l xs ys zs x y z = y
  below_match Greater l xs ys zs x y z = z

  below_put : (es : List (List ℕ × V)) (k l : List ℕ) (v : V) → slice_cmp nat_cmp l k ≡ Less → IsBelowAll l es →
      IsBelowAll l (dict_put es k v)
  below_put [] k l v less below = (less, tt)
  below_put (e ∷ es) k l v less below =
      below_match (slice_cmp nat_cmp k e.0) l ((k, v) ∷ e ∷ es) ((e.0, v) ∷ es) (e ∷ dict_put es k v)
      (less, (below.0, below.1)) (below.0, below.1) (below.0, below_put es k l v less below.1)

  pub dictionary_put : (es : List (List ℕ × V)) (k : List ℕ) (v : V) → is_identifier k ≡ true → IsDictionary es →
      IsDictionary (dict_put es k v)
  dictionary_put [] k v formed d = (formed, tt, tt)
  dictionary_put (e ∷ es) k v formed d = by (slice_cmp nat_cmp k e.0) refl (dictionary_put es k v formed d.2)
    where
      by : (o : Ordering) → slice_cmp nat_cmp k e.0 ≡ o → IsDictionary (dict_put es k v) → IsDictionary
          (match_ordering o ((k, v) ∷ e ∷ es) ((e.0, v) ∷ es) (e ∷ dict_put es k v))
      by Less is rest = (formed, (is, below_all es k e.0 is d.1), d)
      by Equal is rest = d
      by Greater is rest = (
        d.0,
        below_put es k e.0 v (nat_list_cmp_total.antisymm e.0 k ∙ ap ordering_reverse is) d.1,
        rest,
      )

  below_cond : (b : Bool) (l : List ℕ) (xs ys : List (List ℕ × V)) → IsBelowAll l xs → IsBelowAll l ys → IsBelowAll l
      (cond b xs ys)
  below_cond true l xs ys x y = x
  below_cond false l xs ys x y = y

  below_without : (es : List (List ℕ × V)) (k l : List ℕ) → IsBelowAll l es → IsBelowAll l (dict_without es k)
  below_without [] k l below = tt
  below_without (e ∷ es) k l below = below_cond (is_key k e.0) l es (e ∷ dict_without es k) below.1
      (below.0, below_without es k l below.1)

  pub dictionary_without : (es : List (List ℕ × V)) (k : List ℕ) → IsDictionary es → IsDictionary (dict_without es k)
  dictionary_without [] k d = tt
  dictionary_without (e ∷ es) k d = by (is_key k e.0) (dictionary_without es k d.2)
    where
      by : (b : Bool) → IsDictionary (dict_without es k) → IsDictionary (cond b es (e ∷ dict_without es k))
      by true rest = d.2
      by false rest = (d.0, below_without es k e.0 d.1, rest)

  -- ---- entries that are put one after another

  below_at : (done : List (List ℕ × V)) (e : List ℕ × V) (more : List (List ℕ × V)) (k : List ℕ) → IsBelowAll k
      (done ++ e ∷ more) → slice_cmp nat_cmp k e.0 ≡ Less
  below_at [] e more k below = below.0
  below_at (f ∷ done) e more k below = below_at done e more k below.1

  -- each key is less than those behind it
  abbrev Ascend : List (List ℕ × V) → Type 0
  Ascend [] = Unit {0}
  Ascend (e ∷ es) = IsBelowAll e.0 es × Ascend es

  dictionary_ascends : (es : List (List ℕ × V)) → IsDictionary es → Ascend es
  dictionary_ascends [] d = tt
  dictionary_ascends (e ∷ es) d = (d.1, dictionary_ascends es d.2)

  ascending_put : (es : List (List ℕ × V)) (k : List ℕ) (v : V) → Ascend es → Ascend (dict_put es k v)
  ascending_put [] k v a = (tt, tt)
  ascending_put (e ∷ es) k v a = by (slice_cmp nat_cmp k e.0) refl (ascending_put es k v a.1)
    where
      by : (o : Ordering) → slice_cmp nat_cmp k e.0 ≡ o → Ascend (dict_put es k v) → Ascend (match_ordering o ((k, v) ∷
          e ∷ es) ((e.0, v) ∷ es) (e ∷ dict_put es k v))
      by Less is rest = ((is, below_all es k e.0 is a.0), a)
      by Equal is rest = a
      by Greater is rest = (
        below_put es k e.0 v (nat_list_cmp_total.antisymm e.0 k ∙ ap ordering_reverse is) a.0,
        rest,
      )

  ascending_put_all : (es ps : List (List ℕ × V)) → Ascend es → Ascend (dict_put_all es ps)
  ascending_put_all es [] a = a
  ascending_put_all es (p ∷ ps) a = ascending_put_all (dict_put es p.0 p.1) ps (ascending_put es p.0 p.1 a)

  -- a key above all others comes last
  put_last : (done : List (List ℕ × V)) (e : List ℕ × V) (more : List (List ℕ × V)) → Ascend (done ++ e ∷ more) →
      dict_put done e.0 e.1 ≡ done ++ e ∷ []
  put_last [] e more a = refl
  put_last (f ∷ done) e more a =
      ap (λ o. match_ordering o (e ∷ f ∷ done) ((f.0, e.1) ∷ done) (f ∷ dict_put done e.0 e.1))
      (nat_list_cmp_total.antisymm e.0 f.0 ∙ ap ordering_reverse (below_at done e more f.0 a.0)) ∙ ap (λ es. f ∷ es)
      (put_last done e more a.1)

  put_all_behind : (done more : List (List ℕ × V)) → Ascend (done ++ more) → dict_put_all done more ≡ done ++ more
  put_all_behind done [] a = sym (append-nil done)
  put_all_behind done (e ∷ more) a =
      ap (λ es. dict_put_all es more) (put_last done e more a) ∙ put_all_behind (done ++ e ∷ []) more
      (subst Ascend (sym (append_assoc done (e ∷ []) more)) a) ∙ append_assoc done (e ∷ []) more

  -- a dictionary is the dictionary of its own entries
  pub dict_of-itself : (es : List (List ℕ × V)) → IsDictionary es → dict_of es ≡ es
  dict_of-itself es d = put_all_behind [] es (dictionary_ascends es d)

  -- and so is that of any pairs
  pub dict_of-again : (ps : List (List ℕ × V)) → dict_of (dict_of ps) ≡ dict_of ps
  dict_of-again ps = put_all_behind [] (dict_of ps) (ascending_put_all [] ps tt)

module _ {X V : Type 0} (see : X → V) where
  -- an entry that is put in a map of the standard library is put in the dictionary of what its values are seen as
  pub put_seen : (es : List (List ℕ × X)) (k : List ℕ) (x : X) → map (λ e. (e.0, see e.1)) (insert_entry
      (slice_cmp nat_cmp) es k x) ≡ dict_put (map (λ e. (e.0, see e.1)) es) k (see x)
  put_seen [] k x = refl
  put_seen (e ∷ es) k x = by (slice_cmp nat_cmp k e.0) (put_seen es k x)
    where
      by : (o : Ordering) → map (λ e. (e.0, see e.1)) (insert_entry (slice_cmp nat_cmp) es k x) ≡ dict_put
          (map (λ e. (e.0, see e.1)) es) k (see x) → map (λ e. (e.0, see e.1)) (match_ordering o ((k, x) ∷ e ∷ es)
          ((e.0, x) ∷ es) (e ∷ insert_entry (slice_cmp nat_cmp) es k x)) ≡ match_ordering o ((k, see x) ∷
          (e.0, see e.1) ∷ map (λ e. (e.0, see e.1)) es) ((e.0, see x) ∷ map (λ e. (e.0, see e.1)) es)
          ((e.0, see e.1) ∷ dict_put (map (λ e. (e.0, see e.1)) es) k (see x))
      by Less rest = refl
      by Equal rest = refl
      by Greater rest = ap (λ l. (e.0, see e.1) ∷ l) rest

module _ {E X : Type 0} (see : E → X) where
  -- one more behind those that are done is the first of those that are left
  pub one_more : (es : List E) (e : E) (rest : List X) → map see (es ++ e ∷ []) ++ rest ≡ map see es ++ see e ∷ rest
  one_more [] e rest = refl
  one_more (d ∷ es) e rest = ap (λ xs. see d ∷ xs) (one_more es e rest)
