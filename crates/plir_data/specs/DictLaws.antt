-- Laws of dictionaries, proved beside their words so that the crates above can cite them: what is found after an entry
-- was put, replaced or taken out. No contract cites this module.
use Rattle.std.proofs.Common.{◌≡◌, ℕ, Bool, true, false, cond, List, [], ◌∷◌, Ordering, Less, Equal, Greater, Option}
use Rattle.std.proofs.Common.{Some, None, IsSome, nat_cmp, refl, sym, ap, subst, ◌∙◌}
use Rattle.std.proofs.lemmas.Cmp.{nat_list_cmp_total}
use Rattle.std.proofs.lemmas.Map.Lookups.{exact_bytes}
use Rattle.std.proofs.lemmas.Option.{same_Some, none-some}
use Rattle.std.specs.Ordering.{match_ordering, ordering_reverse, is_eq}
use Rattle.std.specs.Cmp.Lexicographic.{slice_cmp}
use Rattle.plir_data.specs.Dictionary.{dict_get, dict_put, dict_without, is_key, IsBelowAll, IsDictionary}

same-key : (k : List ℕ) → slice_cmp nat_cmp k k ≡ Equal
same-key k = by (slice_cmp nat_cmp k k) (nat_list_cmp_total.antisymm k k)
  where
    by : (o : Ordering) → o ≡ ordering_reverse o → o ≡ Equal
    by Less e = absurd (let z : ⊥ = cc (e) in z)
    by Equal e = refl
    by Greater e = absurd (let z : ⊥ = cc (e) in z)

module _ {V : Type 0} where
  -- the entries with v in place of what stands under a key
  abbrev dict_with : List (List ℕ × V) → List ℕ → V → List (List ℕ × V)
  dict_with [] k v = []
  dict_with (e ∷ es) k v = cond (is_key k e.0) ((e.0, v) ∷ es) (e ∷ dict_with es k v)

  -- a key before another is before all that the other is before
  below-all : (es : List (List ℕ × V)) (k l : List ℕ) → slice_cmp nat_cmp k l ≡ Less → IsBelowAll l es → IsBelowAll k es
  below-all [] k l less below = tt
  below-all (e ∷ es) k l less below = (nat_list_cmp_total.trans k l e.0 less below.0, below-all es k l less below.1)

  none-below : (es : List (List ℕ × V)) (k : List ℕ) → IsBelowAll k es → dict_get es k ≡ None
  none-below [] k below = refl
  none-below (e ∷ es) k below = ap (λ o. cond (is_eq o) (Some e.1) (dict_get es k)) below.0 ∙ none-below es k below.1

  -- where the key is there, that is to put v under it
  with_is_put : (es : List (List ℕ × V)) (k : List ℕ) (v : V) → IsDictionary es → IsSome (dict_get es k) →
      dict_with es k v ≡ dict_put es k v
  with_is_put [] k v d some = cc
  with_is_put (e ∷ es) k v d some = by (slice_cmp nat_cmp k e.0) refl (with_is_put es k v d.2)
    where
      by : (o : Ordering) → slice_cmp nat_cmp k e.0 ≡ o →
          (IsSome (dict_get es k) → dict_with es k v ≡ dict_put es k v) → cond (is_eq o) ((e.0, v) ∷ es) (e ∷
          dict_with es k v) ≡ match_ordering o ((k, v) ∷ e ∷ es) ((e.0, v) ∷ es) (e ∷ dict_put es k v)
      by Less is rest =
          let none : dict_get (e ∷ es) k ≡ None = ap (λ o. cond (is_eq o) (Some e.1) (dict_get es k)) is ∙
          none-below es k (below-all es k e.0 is d.1) in
          absurd (let z : ⊥ = cc (some, none) in z)
      by Equal is rest = refl
      by Greater is rest = ap (λ l. e ∷
          l) (rest (subst (λ o. IsSome (cond (is_eq o) (Some e.1) (dict_get es k))) is some))

  -- of two values put under a key the second stays
  pub put-put : (es : List (List ℕ × V)) (k : List ℕ) (u v : V) → dict_put (dict_put es k u) k v ≡ dict_put es k v
  put-put [] k u v = ap (λ o. match_ordering o ((k, v) ∷ (k, u) ∷ []) ((k, v) ∷ []) ((k, u) ∷ (k, v) ∷ [])) (same-key k)
  put-put (e ∷ es) k u v = by (slice_cmp nat_cmp k e.0) refl (put-put es k u v)
    where
      by : (o : Ordering) → slice_cmp nat_cmp k e.0 ≡ o → dict_put (dict_put es k u) k v ≡ dict_put es k v →
          dict_put (match_ordering o ((k, u) ∷ e ∷ es) ((e.0, u) ∷ es) (e ∷ dict_put es k u)) k v ≡ match_ordering o
          ((k, v) ∷ e ∷ es) ((e.0, v) ∷ es) (e ∷ dict_put es k v)
      by Less is rest = ap (λ o. match_ordering o ((k, v) ∷ (k, u) ∷ e ∷ es) ((k, v) ∷ e ∷ es) ((k, u) ∷
          dict_put (e ∷ es) k v)) (same-key k)
      by Equal is rest = ap (λ o. match_ordering o ((k, v) ∷ (e.0, u) ∷ es) ((e.0, v) ∷ es) ((e.0, u) ∷
          dict_put es k v)) is
      by Greater is rest = ap (λ o. match_ordering o ((k, v) ∷ e ∷ dict_put es k u) ((e.0, v) ∷ dict_put es k u) (e ∷
          dict_put (dict_put es k u) k v)) is ∙ ap (λ l. e ∷ l) rest

  without-with : (es : List (List ℕ × V)) (k : List ℕ) (u : V) → dict_without (dict_with es k u) k ≡ dict_without es k
  without-with [] k u = refl
  without-with (e ∷ es) k u = by (is_key k e.0) refl (without-with es k u)
    where
      by : (b : Bool) → is_key k e.0 ≡ b → dict_without (dict_with es k u) k ≡ dict_without es k →
          dict_without (cond b ((e.0, u) ∷ es) (e ∷ dict_with es k u)) k ≡ cond b es (e ∷ dict_without es k)
      by true is rest = ap (λ b. cond b es ((e.0, u) ∷ dict_without es k)) is
      by false is rest = ap (λ b. cond b (dict_with es k u) (e ∷ dict_without (dict_with es k u) k)) is ∙
          ap (λ l. e ∷ l) rest

  with-same : (es : List (List ℕ × V)) (k : List ℕ) (v : V) → dict_get es k ≡ Some v → dict_with es k v ≡ es
  with-same [] k v got = refl
  with-same (e ∷ es) k v got = by (is_key k e.0) got (with-same es k v)
    where
      by : (b : Bool) → cond b (Some e.1) (dict_get es k) ≡ Some v → (dict_get es k ≡ Some v → dict_with es k v ≡ es) →
          cond b ((e.0, v) ∷ es) (e ∷ dict_with es k v) ≡ e ∷ es
      by true g rest = ap (λ z. (e.0, z) ∷ es) (sym (same_Some e.1 v g))
      by false g rest = ap (λ l. e ∷ l) (rest g)

  some-of : (o : Option V) (v : V) → o ≡ Some v → IsSome o
  some-of o v e = subst IsSome (sym e) refl

  -- what was put under a key that was there can be taken out again
  pub without-put : (es : List (List ℕ × V)) (k : List ℕ) (u v : V) → IsDictionary es → dict_get es k ≡ Some v →
      dict_without (dict_put es k u) k ≡ dict_without es k
  without-put es k u v d got = ap (λ z. dict_without z k) (sym (with_is_put es k u d (some-of (dict_get es k) v got))) ∙
      without-with es k u

  -- to put the value that is there changes nothing
  pub put-same : (es : List (List ℕ × V)) (k : List ℕ) (v : V) → IsDictionary es → dict_get es k ≡ Some v →
      dict_put es k v ≡ es
  put-same es k v d got = sym (with_is_put es k v d (some-of (dict_get es k) v got)) ∙ with-same es k v got

  -- nor does it to take out what is not there
  pub without-absent : (es : List (List ℕ × V)) (k : List ℕ) → dict_get es k ≡ None → dict_without es k ≡ es
  without-absent [] k absent = refl
  without-absent (e ∷ es) k absent = by (is_key k e.0) absent (without-absent es k)
    where
      by : (b : Bool) → cond b (Some e.1) (dict_get es k) ≡ None → (dict_get es k ≡ None → dict_without es k ≡ es) →
          cond b es (e ∷ dict_without es k) ≡ e ∷ es
      by true a rest = absurd (none-some e.1 (sym a))
      by false a rest = ap (λ l. e ∷ l) (rest a)

  -- what is put under a key is there
  pub get-put : (es : List (List ℕ × V)) (k : List ℕ) (v : V) → dict_get (dict_put es k v) k ≡ Some v
  get-put [] k v = ap (λ o. cond (is_eq o) (Some v) None) (same-key k)
  get-put (e ∷ es) k v = by (slice_cmp nat_cmp k e.0) refl (get-put es k v)
    where
      by : (o : Ordering) → slice_cmp nat_cmp k e.0 ≡ o → dict_get (dict_put es k v) k ≡ Some v →
          dict_get (match_ordering o ((k, v) ∷ e ∷ es) ((e.0, v) ∷ es) (e ∷ dict_put es k v)) k ≡ Some v
      by Less is rest = ap (λ o. cond (is_eq o) (Some v) (dict_get (e ∷ es) k)) (same-key k)
      by Equal is rest = ap (λ o. cond (is_eq o) (Some v) (dict_get es k)) is
      by Greater is rest = ap (λ o. cond (is_eq o) (Some e.1) (dict_get (dict_put es k v) k)) is ∙ rest

  -- and what stands under another key stays
  pub get-other : (es : List (List ℕ × V)) (k l : List ℕ) (v : V) → is_key l k ≡ false →
      dict_get (dict_put es k v) l ≡ dict_get es l
  get-other [] k l v other = ap (λ b. cond b (Some v) None) other
  get-other (e ∷ es) k l v other = by (slice_cmp nat_cmp k e.0) refl (get-other es k l v other)
    where
      by : (o : Ordering) → slice_cmp nat_cmp k e.0 ≡ o → dict_get (dict_put es k v) l ≡ dict_get es l →
          dict_get (match_ordering o ((k, v) ∷ e ∷ es) ((e.0, v) ∷ es) (e ∷ dict_put es k v)) l ≡ dict_get (e ∷ es) l
      by Less is rest = ap (λ b. cond b (Some v) (dict_get (e ∷ es) l)) other
      by Equal is rest =
          let same : k ≡ e.0 = exact_bytes k e.0 is in
          let no : is_key l e.0 ≡ false = subst (λ z. is_key l z ≡ false) same other in
          ap (λ b. cond b (Some v) (dict_get es l)) no ∙ sym (ap (λ b. cond b (Some e.1) (dict_get es l)) no)
      by Greater is rest = ap (λ z. cond (is_key l e.0) (Some e.1) z) rest
