-- What stands at the place of a key, and edits there, beside the dictionary that the entries stand for.
use Rattle.std.proofs.Common.{◌≡◌, ℕ, zero, suc, ◌+◌, ◌<◌, ◌⊎◌, inl, inr, true, cond, List, [], ◌∷◌, map, length}
use Rattle.std.proofs.Common.{get_or, set, Ordering, Less, Equal, Greater, Option, Some, None, Result, Ok, Err, OnOk}
use Rattle.std.proofs.Common.{OnErr, nat_cmp, refl, ap, subst, sym, ◌∙◌, arith}
use Rattle.std.specs.List.{insert, remove}
use Rattle.std.specs.Ordering.{match_ordering, ordering_reverse, is_eq}
use Rattle.std.specs.Cmp.Lexicographic.{slice_cmp}
use Rattle.std.proofs.lemmas.Bool.{cases_order}
use Rattle.std.proofs.lemmas.Cmp.{nat_list_cmp_total}
use Rattle.std.proofs.lemmas.List.{get_or_default, get_or_read}
use Rattle.std.proofs.lemmas.Map.Lookups.{exact_bytes}
use Rattle.plir_data.specs.DictLaws.{without-absent}
use Rattle.plir_data.specs.Dictionary.{dict_get, dict_put, dict_without, IsBelowAll, IsDictionary}
use Rattle.plir_data.specs.Identifier.{is_identifier}
use Rattle.plir_data.specs.Places.{KeysAscend, AreBefore, AreBehind, IsPlace}
use Rattle.plir_data.proofs.Dictionaries.{dictionary_put}

turned : (k l : List ℕ) (o : Ordering) → slice_cmp nat_cmp k l ≡ o → slice_cmp nat_cmp l k ≡ ordering_reverse o
turned k l o is = nat_list_cmp_total.antisymm l k ∙ ap ordering_reverse is

-- ---- a search goes on, or ends, at one of the entries, x

module _ {E : Type 0} (key : E → List ℕ) (es : List E) (k : List ℕ) (at : ℕ) (x : E) (here : at < length es)
    (is : x ≡ get_or es at x) where
  pub key_at : (o : Ordering) → slice_cmp nat_cmp k (key x) ≡ o → (d : E) → slice_cmp nat_cmp k (key (get_or es at d)) ≡
      o
  key_at o e d = ap (λ y. slice_cmp nat_cmp k (key y)) (sym (get_or_read es at x here is d)) ∙ e

  pub before_greater : KeysAscend key es → slice_cmp nat_cmp k (key x) ≡ Greater → AreBefore key es k (at + 1)
  before_greater up e i d below = by (cases_order i at)
    where
      by : (i ≡ at) ⊎ ((i < at) ⊎ (at < i)) → slice_cmp nat_cmp k (key (get_or es i d)) ≡ Greater
      by (inl same) = ap (λ j. slice_cmp nat_cmp k (key (get_or es j d))) same ∙ key_at Greater e d
      by (inr (inl less)) =
          turned (key (get_or es i d)) k Less (nat_list_cmp_total.trans _ (key (get_or es at d)) k (up i at d less here)
          (turned k (key (get_or es at d)) Greater (key_at Greater e d)))
      by (inr (inr more)) = absurd (omega arith)

  pub before_equal : KeysAscend key es → slice_cmp nat_cmp k (key x) ≡ Equal → AreBefore key es k at
  before_equal up e i d less =
      nat_list_cmp_total.congr k (key (get_or es at d)) (key (get_or es i d)) (key_at Equal e d) ∙ turned
      (key (get_or es i d)) (key (get_or es at d)) Less (up i at d less here)

  pub behind_less : KeysAscend key es → slice_cmp nat_cmp k (key x) ≡ Less → AreBehind key es k at
  behind_less up e i d from within = by (cases_order i at)
    where
      by : (i ≡ at) ⊎ ((i < at) ⊎ (at < i)) → slice_cmp nat_cmp k (key (get_or es i d)) ≡ Less
      by (inl same) = ap (λ j. slice_cmp nat_cmp k (key (get_or es j d))) same ∙ key_at Less e d
      by (inr (inl less)) = absurd (omega arith)
      by (inr (inr more)) = nat_list_cmp_total.trans k (key (get_or es at d)) _ (key_at Less e d)
          (up at i d more within)

-- ---- what stands at a place

module _ {E V : Type 0} (key : E → List ℕ) (value : E → V) where
  -- entries as the dictionary that they stand for
  abbrev pub seen : List E → List (List ℕ × V)
  seen es = map (λ e. (key e, value e)) es

  above_all : (es : List E) (k : List ℕ) → IsBelowAll k (seen es) → (i : ℕ) (d : E) → i < length es → slice_cmp nat_cmp
      k (key (get_or es i d)) ≡ Less
  above_all [] k below i d within = absurd (omega (arith, within))
  above_all (e ∷ es) k below zero d within = below.0
  above_all (e ∷ es) k below (suc i) d within = above_all es k below.1 i d (omega (arith, within))

  pub keys_ascend : (es : List E) → IsDictionary (seen es) → KeysAscend key es
  keys_ascend [] d i j x less within = absurd (omega (arith, within))
  keys_ascend (e ∷ es) d i zero x less within = absurd (omega (arith, less))
  keys_ascend (e ∷ es) d zero (suc j) x less within = above_all es (key e) d.1 j x (omega (arith, within))
  keys_ascend (e ∷ es) d (suc i) (suc j) x less within = keys_ascend es d.2 i j x (omega (arith, less))
      (omega (arith, within))

  module _ (k : List ℕ) where
    -- the place among the entries behind the first
    found_later : (e : E) (es : List E) (i : ℕ) → IsPlace key (e ∷ es) k (Ok (suc i)) → IsPlace key es k (Ok i)
    found_later e es i p = (omega (arith, p.0), (λ j d q. p.1 (suc j) d (omega (arith, q))), p.2)

    absent_later : (e : E) (es : List E) (i : ℕ) → IsPlace key (e ∷ es) k (Err (suc i)) → IsPlace key es k (Err i)
    absent_later e es i p = (
      omega (arith, p.0),
      (λ j d q. p.1 (suc j) d (omega (arith, q))),
      λ j d q r. p.2 (suc j) d (omega (arith, q))
          (omega (arith, r)),
    )

    absent_before : (e : E) (es : List E) → IsPlace key (e ∷ es) k (Err 0) → IsPlace key es k (Err 0)
    absent_before e es p = (
      omega arith,
      (λ j d q. absurd (omega (arith, q))),
      λ j d q r. p.2 (suc j) d (omega arith)
          (omega (arith, r)),
    )

    -- the value at a key, as the key stands to the first one
    abbrev at_first : E → List E → Ordering → Option V
    at_first e es o = cond (is_eq o) (Some (value e)) (dict_get (seen es) k)

    pub get_found : (es : List E) (i : ℕ) (d : E) → IsPlace key es k (Ok i) → Some (value (get_or es i d)) ≡ dict_get
        (seen es) k
    get_found [] i d p = absurd (omega (arith, p.0))
    get_found (e ∷ es) zero d p = sym (ap (at_first e es) (p.2 d))
    get_found (e ∷ es) (suc i) d p = get_found es i d (found_later e es i p) ∙ sym
        (ap (at_first e es) (p.1 0 d (omega arith)))

    pub get_absent : (es : List E) (i : ℕ) → IsPlace key es k (Err i) → dict_get (seen es) k ≡ None
    get_absent [] i p = refl
    get_absent (e ∷ es) zero p = ap (at_first e es) (p.2 0 e (omega arith) (omega arith)) ∙ get_absent es 0
        (absent_before e es p)
    get_absent (e ∷ es) (suc i) p = ap (at_first e es) (p.1 0 e (omega arith)) ∙ get_absent es i (absent_later e es i p)

    -- the entries with v at the key, as the key stands to the first one
    abbrev put_first : E → List E → V → Ordering → List (List ℕ × V)
    put_first e es v o = match_ordering o ((k, v) ∷ seen (e ∷ es)) ((key e, v) ∷ seen es)
        ((key e, value e) ∷ dict_put (seen es) k v)

    pub put_found : (es : List E) (i : ℕ) (x : E) (v : V) → ((d : E) → key x ≡ key (get_or es i d)) → value x ≡ v →
        IsPlace key es k (Ok i) → seen (set es i x) ≡ dict_put (seen es) k v
    put_found [] i x v same is p = absurd (omega (arith, p.0))
    put_found (e ∷ es) zero x v same is p = ap (λ l. (l, value x) ∷ seen es) (same e) ∙ ap (λ w. (key e, w) ∷ seen es)
        is ∙ sym (ap (put_first e es v) (p.2 e))
    put_found (e ∷ es) (suc i) x v same is p =
        ap (λ fs. (key e, value e) ∷ fs) (put_found es i x v same is (found_later e es i p)) ∙ sym
        (ap (put_first e es v) (p.1 0 e (omega arith)))

    pub put_absent : (es : List E) (i : ℕ) (x : E) (v : V) → key x ≡ k → value x ≡ v → IsPlace key es k (Err i) → seen
        (insert es i x) ≡ dict_put (seen es) k v
    put_absent [] zero x v same is p = ap (λ l. (l, value x) ∷ []) same ∙ ap (λ w. (k, w) ∷ []) is
    put_absent [] (suc i) x v same is p = absurd (omega (arith, p.0))
    put_absent (e ∷ es) zero x v same is p =
        ap (λ l. (l, value x) ∷ seen (e ∷ es)) same ∙ ap (λ w. (k, w) ∷ seen (e ∷ es)) is ∙ sym
        (ap (put_first e es v) (p.2 0 e (omega arith) (omega arith)))
    put_absent (e ∷ es) (suc i) x v same is p =
        ap (λ fs. (key e, value e) ∷ fs) (put_absent es i x v same is (absent_later e es i p)) ∙ sym
        (ap (put_first e es v) (p.1 0 e (omega arith)))

    pub without_found : (es : List E) (i : ℕ) → IsPlace key es k (Ok i) → seen (remove es i) ≡ dict_without (seen es) k
    without_found [] i p = absurd (omega (arith, p.0))
    without_found (e ∷ es) zero p = sym (ap (λ o. cond (is_eq o) (seen es) ((key e, value e) ∷ dict_without (seen es)
        k)) (p.2 e))
    without_found (e ∷ es) (suc i) p =
        ap (λ fs. (key e, value e) ∷ fs) (without_found es i (found_later e es i p)) ∙ sym
        (ap (λ o. cond (is_eq o) (seen es) ((key e, value e) ∷ dict_without (seen es) k)) (p.1 0 e (omega arith)))

    pub without_absent : (es : List E) (i : ℕ) → IsPlace key es k (Err i) → seen es ≡ dict_without (seen es) k
    without_absent es i p = sym (without-absent (seen es) k (get_absent es i p))

    -- a key that is found is an identifier, as all keys of a dictionary are
    pub found_formed : (es : List E) (i : ℕ) → IsDictionary (seen es) → IsPlace key es k (Ok i) → is_identifier k ≡ true
    found_formed [] i d p = absurd (omega (arith, p.0))
    found_formed (e ∷ es) zero d p = ap is_identifier (exact_bytes k (key e) (p.2 e)) ∙ d.0
    found_formed (e ∷ es) (suc i) d p = found_formed es i d.2 (found_later e es i p)

    -- the same of what is known of an entry at a place at each default
    pub got_by : (es : List E) (i : ℕ) (w : V) → ((d : E) → w ≡ value (get_or es i d)) → IsPlace key es k (Ok i) → Some
        w ≡ dict_get (seen es) k
    got_by [] i w is p = absurd (omega (arith, p.0))
    got_by (e ∷ es) i w is p = ap (λ v. Some v) (is e) ∙ get_found (e ∷ es) i e p

    pub put_by : (es fs : List E) (i : ℕ) (v : V) (x : E → E) → ((e : E) → key (x e) ≡ key e) →
        ((e : E) → value (x e) ≡ v) → ((d : E) → fs ≡ set es i (x (get_or es i d))) → IsPlace key es k (Ok i) → seen fs
        ≡ dict_put (seen es) k v
    put_by [] fs i v x same is to p = absurd (omega (arith, p.0))
    put_by (e ∷ es) fs i v x same is to p =
        let y = get_or (e ∷ es) i e in
        ap seen (to e) ∙ put_found (e ∷ es) i (x y) v (λ d. same y ∙ ap key (get_or_default (e ∷ es) i e d p.0)) (is y)
        p

-- ---- where a new entry is put at its place, or memory is refused

module _ {E V X Y : Type 0} (key : E → List ℕ) (value : E → V) (es fs : List E) (i : ℕ) (x : E) (r : Result X Y) where
  pub inserted : (k : List ℕ) → key x ≡ k → IsPlace key es k (Err i) → OnOk r (fs ≡ insert es i x) → OnOk r
      (seen key value fs ≡ dict_put (seen key value es) k (value x))
  inserted k same p ok = by r ok
    where
      by : (q : Result X Y) → OnOk q (fs ≡ insert es i x) → OnOk q (seen key value fs ≡ dict_put (seen key value es) k
          (value x))
      by (Ok y) is = ap (seen key value) is ∙ put_absent key value k es i x (value x) same refl p
      by (Err y) is = tt

  pub dictionary_inserted : (k : List ℕ) → key x ≡ k → is_identifier k ≡ true → IsPlace key es k (Err i) → IsDictionary
      (seen key value es) → OnOk r (fs ≡ insert es i x) → OnErr r (fs ≡ es) → IsDictionary (seen key value fs)
  dictionary_inserted k same formed p d ok err = by r (inserted k same p ok) err
    where
      by : (q : Result X Y) → OnOk q (seen key value fs ≡ dict_put (seen key value es) k (value x)) → OnErr q (fs ≡ es)
          → IsDictionary (seen key value fs)
      by (Ok y) is _ = subst IsDictionary (sym is) (dictionary_put (seen key value es) k (value x) formed d)
      by (Err y) _ is = subst IsDictionary (sym (ap (seen key value) is)) d
