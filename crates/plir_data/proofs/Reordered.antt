-- Pairs of different keys, put in either order.
use Rattle.std.proofs.Common.{◌≡◌, ℕ, zero, suc, false, List, [], ◌∷◌, ◌++◌, Ordering, Less, Equal, Greater, nat_cmp}
use Rattle.std.proofs.Common.{refl, sym, ap, ◌∙◌, true≢false}
use Rattle.std.proofs.lemmas.Cmp.{nat_list_cmp_total}
use Rattle.std.specs.Ordering.{match_ordering, ordering_reverse, is_eq, is_lt}
use Rattle.std.specs.Cmp.Lexicographic.{slice_cmp}
use Rattle.plir_data.specs.AttrView.{AttrView, Entries, no_entries, entry, entries_of}
use Rattle.plir_data.specs.Dictionary.{dict_put, dict_put_all, dict_of, is_key}
use Rattle.plir_data.specs.Laws.{OrderIsNotSeen}

turned : (k l : List ℕ) (o : Ordering) → slice_cmp nat_cmp k l ≡ o → slice_cmp nat_cmp l k ≡ ordering_reverse o
turned k l o is = nat_list_cmp_total.antisymm l k ∙ ap ordering_reverse is

module _ {V : Type 0} where
  -- what is put at a key, as that key stands to the first one
  abbrev at_key : Ordering → List ℕ → V → List ℕ × V → List (List ℕ × V) → List (List ℕ × V) → List (List ℕ × V)
  at_key o k v e es put = match_ordering o ((k, v) ∷ e ∷ es) ((e.0, v) ∷ es) (e ∷ put)

  -- the lesser of two keys comes first, whichever is put first
  both_put : (d : List (List ℕ × V)) (k l : List ℕ) (v w : V) → slice_cmp nat_cmp k l ≡ Less → dict_put (dict_put d k v)
      l w ≡ dict_put (dict_put d l w) k v
  both_put [] k l v w less =
      ap (λ o. at_key o l w (k, v) [] ((l, w) ∷ [])) (turned k l Less less) ∙ sym
      (ap (λ o. at_key o k v (l, w) [] ((k, v) ∷ [])) less)
  both_put (e ∷ es) k l v w less = by (slice_cmp nat_cmp k e.0) (slice_cmp nat_cmp l e.0) refl refl
      (both_put es k l v w less)
    where
      put_l : Ordering → List (List ℕ × V)
      put_l o = at_key o l w e es (dict_put es l w)

      put_k : Ordering → List (List ℕ × V)
      put_k o = at_key o k v e es (dict_put es k v)

      not_less : Less ≡ Greater → ⊥
      not_less f = true≢false (ap is_lt f)

      not_equal : Equal ≡ Greater → ⊥
      not_equal f = true≢false (ap is_eq f)

      above_equal : slice_cmp nat_cmp k e.0 ≡ Equal → slice_cmp nat_cmp l e.0 ≡ Greater
      above_equal a = turned e.0 l Less (sym (nat_list_cmp_total.congr k e.0 l a) ∙ less)

      above_greater : slice_cmp nat_cmp k e.0 ≡ Greater → slice_cmp nat_cmp l e.0 ≡ Greater
      above_greater a = turned e.0 l Less (nat_list_cmp_total.trans e.0 k l (turned k e.0 Greater a) less)

      by : (o p : Ordering) → slice_cmp nat_cmp k e.0 ≡ o → slice_cmp nat_cmp l e.0 ≡ p → dict_put (dict_put es k v) l w
          ≡ dict_put (dict_put es l w) k v → dict_put (put_k o) l w ≡ dict_put (put_l p) k v
      by Less Less a b rest =
          ap (λ o. at_key o l w (k, v) (e ∷ es) (dict_put (e ∷ es) l w)) (turned k l Less less) ∙ ap
          (λ o. (k, v) ∷ put_l o) b ∙ sym (ap (λ o. at_key o k v (l, w) (e ∷ es) (dict_put (e ∷ es) k v)) less)
      by Less Equal a b rest =
          ap (λ o. at_key o l w (k, v) (e ∷ es) (dict_put (e ∷ es) l w)) (turned k l Less less) ∙ ap
          (λ o. (k, v) ∷ put_l o) b ∙ sym (ap (λ o. at_key o k v (e.0, w) es (dict_put es k v)) a)
      by Less Greater a b rest =
          ap (λ o. at_key o l w (k, v) (e ∷ es) (dict_put (e ∷ es) l w)) (turned k l Less less) ∙ ap
          (λ o. (k, v) ∷ put_l o) b ∙ sym (ap (λ o. at_key o k v e (dict_put es l w)
          (dict_put (dict_put es l w) k v)) a)
      by Equal Less a b rest = absurd (not_less (sym b ∙ above_equal a))
      by Equal Equal a b rest = absurd (not_equal (sym b ∙ above_equal a))
      by Equal Greater a b rest =
          ap (λ o. at_key o l w (e.0, v) es (dict_put es l w)) b ∙ sym (ap (λ o. at_key o k v e (dict_put es l w)
          (dict_put (dict_put es l w) k v)) a)
      by Greater Less a b rest = absurd (not_less (sym b ∙ above_greater a))
      by Greater Equal a b rest = absurd (not_equal (sym b ∙ above_greater a))
      by Greater Greater a b rest =
          ap (λ o. at_key o l w e (dict_put es k v) (dict_put (dict_put es k v) l w)) b ∙ ap (λ es. e ∷ es) rest ∙ sym
          (ap (λ o. at_key o k v e (dict_put es l w) (dict_put (dict_put es l w) k v)) a)

  exchanged : (d : List (List ℕ × V)) (p q : List ℕ × V) → is_key p.0 q.0 ≡ false → dict_put (dict_put d p.0 p.1) q.0
      q.1 ≡ dict_put (dict_put d q.0 q.1) p.0 p.1
  exchanged d p q differ = by (slice_cmp nat_cmp p.0 q.0) refl
    where
      by : (o : Ordering) → slice_cmp nat_cmp p.0 q.0 ≡ o → dict_put (dict_put d p.0 p.1) q.0 q.1 ≡ dict_put
          (dict_put d q.0 q.1) p.0 p.1
      by Less is = both_put d p.0 q.0 p.1 q.1 is
      by Equal is = absurd (true≢false (sym (ap is_eq is) ∙ differ))
      by Greater is = sym (both_put d q.0 p.0 q.1 p.1 (turned p.0 q.0 Greater is))

  exchanged_within : (front : List (List ℕ × V)) (d : List (List ℕ × V)) (p q : List ℕ × V) (back : List (List ℕ × V)) →
      is_key p.0 q.0 ≡ false → dict_put_all d (front ++ p ∷ q ∷ back) ≡ dict_put_all d (front ++ q ∷ p ∷ back)
  exchanged_within [] d p q back differ = ap (λ es. dict_put_all es back) (exchanged d p q differ)
  exchanged_within (f ∷ front) d p q back differ = exchanged_within front (dict_put d f.0 f.1) p q back differ

  pub order_is_not_seen : OrderIsNotSeen V
  order_is_not_seen zero ps qs same = ap dict_of same
  order_is_not_seen (suc n) ps qs r = ap dict_of r.5 ∙ exchanged_within r.0 [] r.1 r.2 r.3 r.4 ∙ order_is_not_seen n
      (r.0 ++ r.2 ∷ r.1 ∷ r.3) qs r.6

module _ {A : Type 0} where
  abbrev list_of : Entries A → List (List ℕ × AttrView A)
  list_of no_entries = []
  list_of (entry k x es) = (k, x) ∷ list_of es

  list_of-entries_of : (es : List (List ℕ × AttrView A)) → list_of (entries_of es) ≡ es
  list_of-entries_of [] = refl
  list_of-entries_of (e ∷ es) = ap (λ fs. e ∷ fs) (list_of-entries_of es)

  -- dictionaries with the same entries are the same
  pub same_list : (es fs : List (List ℕ × AttrView A)) → entries_of es ≡ entries_of fs → es ≡ fs
  same_list es fs same = sym (list_of-entries_of es) ∙ ap list_of same ∙ list_of-entries_of fs
