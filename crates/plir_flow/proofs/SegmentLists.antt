-- Lists in segments: what edits of one segment do to the flattening and to the sizes.
use Rattle.std.proofs.Common.{◌≡◌, ◌≢◌, ℕ, zero, suc, ◌+◌, ◌-◌, ◌<◌, ◌≤◌, List, [], ◌∷◌, ◌++◌, length, map, take, drop}
use Rattle.std.proofs.Common.{sum, Some, refl, sym, ap, ◌∙◌, arith}
use Rattle.std.specs.Prelude.{insert, remove, slice_get, slice_set, slice_index_or, slice_range}
use Rattle.std.proofs.lemmas.List.{nil_from_length, take-append-drop, length-take-le, length-drop, take_at, drop_at}
use Rattle.std.proofs.lemmas.List.{drop-drop, append-nil, drop_all, length_push}
use Rattle.std.proofs.lemmas.List.Edits.{insert-append_left, insert-append_right, remove-append_left}
use Rattle.std.proofs.lemmas.List.Edits.{remove-append_right, insert_end}
use Rattle.std.proofs.lemmas.List.Sums.{sum_by-cons}
use Rattle.plir_flow.specs.Segments.{in_segments, flatten, segment_at, edit_at, start_in}

pub sum-cons : (n : ℕ) (ns : List ℕ) → sum (n ∷ ns) ≡ n + sum ns
sum-cons n ns = sum_by-cons (λ x. x) n ns

-- a segment ends within the values
pub end-inside : (ns : List ℕ) (i : ℕ) → start_in ns i + slice_index_or ns i 0 ≤ sum ns
end-inside [] zero = omega arith
end-inside [] (suc i) = omega arith
end-inside (n ∷ ns) zero = omega (arith, sum-cons n ns)
end-inside (n ∷ ns) (suc i) = omega (arith, sum-cons n ns, sum-cons n (take i ns), end-inside ns i)

module _ {V : Type 0} where
  pub count-in : (ns : List ℕ) (vs : List V) → length (in_segments ns vs) ≡ length ns
  count-in [] vs = refl
  count-in (n ∷ ns) vs = ap suc (count-in ns (drop n vs))

  -- the flattening is the values
  pub flatten-in : (ns : List ℕ) (vs : List V) → sum ns ≡ length vs → flatten (in_segments ns vs) ≡ vs
  flatten-in [] vs e = sym (nil_from_length vs (sym e))
  flatten-in (n ∷ ns) vs e =
      let rest : sum ns ≡ length (drop n vs) = omega (arith, sum-cons n ns, length-drop n vs) in
      ap (λ z. take n vs ++ z) (flatten-in ns (drop n vs) rest) ∙ take-append-drop n vs

  -- and the lengths are the sizes
  pub sizes-in : (ns : List ℕ) (vs : List V) → sum ns ≤ length vs → map length (in_segments ns vs) ≡ ns
  sizes-in [] vs le = refl
  sizes-in (n ∷ ns) vs le =
      let whole : n ≤ length vs = omega (arith, sum-cons n ns) in
      let rest : sum ns ≤ length (drop n vs) = omega (arith, sum-cons n ns, length-drop n vs) in
      ap (λ z. z ∷ map length (in_segments ns (drop n vs))) (length-take-le n vs whole)
      ∙ ap (λ z. n ∷ z) (sizes-in ns (drop n vs) rest)

  -- what is flattened comes back by its sizes
  pub in-flatten : (segs : List (List V)) → in_segments (map length segs) (flatten segs) ≡ segs
  in-flatten [] = refl
  in-flatten (seg ∷ segs) =
      ap (λ z. z ∷ in_segments (map length segs) (drop (length seg) (seg ++ flatten segs)))
      (take_at seg (flatten segs) (length seg) refl)
      ∙ ap (λ z. seg ∷ in_segments (map length segs) z) (drop_at seg (flatten segs) (length seg) refl)
      ∙ ap (λ z. seg ∷ z) (in-flatten segs)

  -- the size of a segment is its length
  pub size-at : (segs : List (List V)) (i : ℕ) → slice_index_or (map length segs) i 0 ≡ length (segment_at segs i)
  size-at [] i = refl
  size-at (seg ∷ segs) zero = refl
  size-at (seg ∷ segs) (suc i) = size-at segs i

  start-next : (seg : List V) (segs : List (List V)) (i : ℕ)
      → start_in (map length (seg ∷ segs)) (suc i) ≡ length seg + start_in (map length segs) i
  start-next seg segs i = sum-cons (length seg) (take i (map length segs))

  pub flatten-insert : (i k : ℕ) (v : V) (segs : List (List V)) → i < length segs → k ≤ length (segment_at segs i)
      → flatten (edit_at i (λ xs. insert xs k v) segs) ≡ insert (flatten segs) (start_in (map length segs) i + k) v
  flatten-insert i k v [] below within = absurd (omega arith)
  flatten-insert zero k v (seg ∷ segs) below within =
      let at : 0 + k ≡ k = omega arith in
      sym (insert-append_left seg (flatten segs) k v within) ∙ ap (λ z. insert (seg ++ flatten segs) z v) (sym at)
  flatten-insert (suc i) k v (seg ∷ segs) below within =
      let rest : i < length segs = omega arith in
      let at : start_in (map length (seg ∷ segs)) (suc i) + k - length seg ≡ start_in (map length segs) i + k =
      omega (arith, start-next seg segs i) in
      let past : length seg ≤ start_in (map length (seg ∷ segs)) (suc i) + k = omega (arith, start-next seg segs i) in
      ap (λ z. seg ++ z) (flatten-insert i k v segs rest within ∙ ap (λ z. insert (flatten segs) z v) (sym at))
      ∙ sym (insert-append_right seg (flatten segs) (length seg) (start_in (map length (seg ∷ segs)) (suc i) + k) v refl
      past)

  pub flatten-remove : (i k : ℕ) (segs : List (List V)) → i < length segs → k < length (segment_at segs i)
      → flatten (edit_at i (λ xs. remove xs k) segs) ≡ remove (flatten segs) (start_in (map length segs) i + k)
  flatten-remove i k [] below within = absurd (omega arith)
  flatten-remove zero k (seg ∷ segs) below within =
      let at : 0 + k ≡ k = omega arith in
      sym (remove-append_left seg (flatten segs) k within) ∙ ap (λ z. remove (seg ++ flatten segs) z) (sym at)
  flatten-remove (suc i) k (seg ∷ segs) below within =
      let rest : i < length segs = omega arith in
      let at : start_in (map length (seg ∷ segs)) (suc i) + k - length seg ≡ start_in (map length segs) i + k =
      omega (arith, start-next seg segs i) in
      let past : length seg ≤ start_in (map length (seg ∷ segs)) (suc i) + k = omega (arith, start-next seg segs i) in
      ap (λ z. seg ++ z) (flatten-remove i k segs rest within ∙ ap (λ z. remove (flatten segs) z) (sym at))
      ∙ sym (remove-append_right seg (flatten segs) (length seg) (start_in (map length (seg ∷ segs)) (suc i) + k) refl
      past)

  pub sizes-edit : (i : ℕ) (f : List V → List V) (segs : List (List V))
      → map length (edit_at i f segs) ≡ slice_set (map length segs) i (length (f (segment_at segs i)))
  sizes-edit i f [] = refl
  sizes-edit zero f (seg ∷ segs) = refl
  sizes-edit (suc i) f (seg ∷ segs) = ap (λ z. length seg ∷ z) (sizes-edit i f segs)

  pub count-edit : (i : ℕ) (f : List V → List V) (segs : List (List V)) → length (edit_at i f segs) ≡ length segs
  count-edit i f [] = refl
  count-edit zero f (seg ∷ segs) = refl
  count-edit (suc i) f (seg ∷ segs) = ap suc (count-edit i f segs)

  -- where two edits do the same
  pub edit-same : (i : ℕ) (f g : List V → List V) (segs : List (List V)) → f (segment_at segs i) ≡ g (segment_at segs i)
      → edit_at i f segs ≡ edit_at i g segs
  edit-same i f g [] e = refl
  edit-same zero f g (seg ∷ segs) e = ap (λ z. z ∷ segs) e
  edit-same (suc i) f g (seg ∷ segs) e = ap (λ z. seg ∷ z) (edit-same i f g segs e)

  slice_get-append : (xs ys : List V) (k : ℕ) → slice_get (xs ++ ys) (length xs + k) ≡ slice_get ys k
  slice_get-append [] ys k = let e : 0 + k ≡ k = omega arith in ap (slice_get ys) e
  slice_get-append (x ∷ xs) ys k =
      let e : suc (length xs) + k ≡ suc (length xs + k) = omega arith in
      ap (slice_get (x ∷ (xs ++ ys))) e ∙ slice_get-append xs ys k

  slice_get-front : (xs ys : List V) (k : ℕ) → k < length xs → slice_get (xs ++ ys) k ≡ slice_get xs k
  slice_get-front [] ys k le = absurd (omega arith)
  slice_get-front (x ∷ xs) ys zero le = refl
  slice_get-front (x ∷ xs) ys (suc k) le = slice_get-front xs ys k (omega arith)

  -- a value of a segment among all
  pub value-at : (i k : ℕ) (segs : List (List V)) → i < length segs → k < length (segment_at segs i)
      → slice_get (flatten segs) (start_in (map length segs) i + k) ≡ slice_get (segment_at segs i) k
  value-at i k [] below within = absurd (omega arith)
  value-at zero k (seg ∷ segs) below within =
      let at : 0 + k ≡ k = omega arith in
      ap (slice_get (seg ++ flatten segs)) at ∙ slice_get-front seg (flatten segs) k within
  value-at (suc i) k (seg ∷ segs) below within =
      let rest : i < length segs = omega arith in
      let at : start_in (map length (seg ∷ segs)) (suc i) + k ≡ length seg + (start_in (map length segs) i + k) =
      omega (arith, start-next seg segs i) in
      ap (slice_get (seg ++ flatten segs)) at ∙ slice_get-append seg (flatten segs) (start_in (map length segs) i + k)
      ∙ value-at i k segs rest within

  -- a segment stands in a row
  pub segment-range : (ns : List ℕ) (i : ℕ) (vs : List V)
      → segment_at (in_segments ns vs) i ≡ slice_range vs (start_in ns i) (start_in ns i + slice_index_or ns i 0)
  segment-range [] zero vs = refl
  segment-range [] (suc i) vs = refl
  segment-range (n ∷ ns) zero vs = let e : 0 + n - 0 ≡ n = omega arith in ap (λ m. take m vs) (sym e)
  segment-range (n ∷ ns) (suc i) vs =
      let a : ℕ = start_in ns i in
      let m : ℕ = slice_index_or ns i 0 in
      let start : n + a ≡ start_in (n ∷ ns) (suc i) = sym (sum-cons n (take i ns)) in
      let here : a + m - a ≡ n + a + m - (n + a) = omega arith in
      segment-range ns i (drop n vs)
      ∙ ap (take (a + m - a)) (drop-drop a n vs)
      ∙ ap (λ k. take k (drop (n + a) vs)) here
      ∙ ap (λ k. slice_range vs k (k + m)) start

  -- a value at the end, and the last one taken off
  pub pushed : (xs : List V) (n : ℕ) (v : V) → n ≡ length xs → insert xs n v ≡ xs ++ v ∷ []
  pushed xs n v e = ap (λ k. insert xs k v) e ∙ insert_end xs v

  pub popped : (xs : List V) (n : ℕ) → n ≡ length xs → 0 < n → remove xs (n - 1) ≡ take (length xs - 1) xs
  popped xs n e some =
      let last : suc (n - 1) ≡ length xs = omega arith in
      ap (λ z. take (n - 1) xs ++ drop z xs) last
      ∙ ap (λ z. take (n - 1) xs ++ z) (drop_all (length xs) xs (omega arith))
      ∙ append-nil (take (n - 1) xs)
      ∙ ap (λ z. take (z - 1) xs) e

  -- an edit of one segment changes that one, and no other
  pub edit-here : (i : ℕ) (f : List V → List V) (segs : List (List V)) → i < length segs
      → segment_at (edit_at i f segs) i ≡ f (segment_at segs i)
  edit-here i f [] below = absurd (omega arith)
  edit-here zero f (seg ∷ segs) below = refl
  edit-here (suc i) f (seg ∷ segs) below = edit-here i f segs (omega arith)

  pub edit-others : (i j : ℕ) (f : List V → List V) (segs : List (List V)) → j ≢ i
      → segment_at (edit_at i f segs) j ≡ segment_at segs j
  edit-others i j f [] other = refl
  edit-others zero zero f (seg ∷ segs) other = absurd (other refl)
  edit-others zero (suc j) f (seg ∷ segs) other = refl
  edit-others (suc i) zero f (seg ∷ segs) other = refl
  edit-others (suc i) (suc j) f (seg ∷ segs) other = edit-others i j f segs (λ e. other (ap suc e))

  -- what is put at the end and taken off leaves the same
  pub put-taken : (xs : List V) (v : V) → take (length (xs ++ v ∷ []) - 1) (xs ++ v ∷ []) ≡ xs
  put-taken xs v =
      let n : length (xs ++ v ∷ []) - 1 ≡ length xs = omega (arith, length_push xs v) in
      ap (λ k. take k (xs ++ v ∷ [])) n ∙ take_at xs (v ∷ []) (length xs) refl

  pub edit-taken : (i : ℕ) (v : V) (segs : List (List V))
      → edit_at i (λ xs. take (length xs - 1) xs) (edit_at i (λ xs. xs ++ v ∷ []) segs) ≡ segs
  edit-taken i v [] = refl
  edit-taken zero v (seg ∷ segs) = ap (λ z. z ∷ segs) (put-taken seg v)
  edit-taken (suc i) v (seg ∷ segs) = ap (λ z. seg ∷ z) (edit-taken i v segs)

  -- and the one taken off is the one that was put
  pub last-put : (xs : List V) (v : V) (n : ℕ) → n ≡ length (xs ++ v ∷ []) → slice_get (xs ++ v ∷ []) (n - 1) ≡ Some v
  last-put xs v n e =
      let at : n - 1 ≡ length xs + 0 = omega (arith, length_push xs v) in
      ap (slice_get (xs ++ v ∷ [])) at ∙ slice_get-append xs (v ∷ []) 0
