-- Lists that are taken from other lists: what one more element makes of them.
use Rattle.std.proofs.Common.{◌≡◌, ◌↔◌, ℕ, zero, suc, ◌+◌, ◌<◌, ◌≤◌, Bool, true, false, not, cond, List, [], ◌∷◌, ◌++◌}
use Rattle.std.proofs.Common.{length, take, map, get_or, append_assoc, ◌⊎◌, inl, inr, refl, sym, ap, subst, ◌∙◌, arith}
use Rattle.std.specs.Prelude.{All, IsTrue}
use Rattle.std.specs.Bool.{Decides}
use Rattle.std.specs.List.{list_any, items_where_true, flat_map}
use Rattle.std.specs.List.Retain.{IsFiltered, ReturnsInTurn}
use Rattle.std.proofs.lemmas.Bool.Decides.{Decides-or, Decides-like}
use Rattle.std.proofs.lemmas.List.{map-append, take_more, flat_map_more, take-append-le, take_all, length-append}
use Rattle.std.proofs.lemmas.Bool.{cases_lt, both_ways, not-true, not-false}
use Rattle.std.proofs.Math.Seq.{take-length}
use Rattle.std.proofs.lemmas.List.Elements.{All-tail, All-head, All-cons, All-map, All-weaker}
use Rattle.plir_store.specs.MemberLaws.{Has-append_left, Has-append_right, Has-append_cases}
use Rattle.plir_store.specs.Members.{Has, Distinct}
use Rattle.plir_flow.specs.Taken.{AreThose, IsOnceEach, AreTakenOnce, put_once}

module _ {A : Type 0} where
  pub has-last : (xs : List A) (x : A) → Has (xs ++ x ∷ []) x
  has-last xs x = Has-append_right xs (x ∷ []) x (inl refl)

  pub has-more : (xs : List A) (y x : A) → Has (xs ++ y ∷ []) x → Has xs x ⊎ (y ≡ x)
  has-more xs y x h =
      elim (Has-append_cases xs (y ∷ []) x h) [ inl a ↦ inl a | inr b ↦ elim b [ inl e ↦ inr e | inr n ↦ absurd n ] ]

  pub distinct-push : (ys : List A) (x : A) → Distinct ys → (Has ys x → ⊥) → Distinct (ys ++ x ∷ [])
  distinct-push [] x d n = (λ h. h, tt)
  distinct-push (y ∷ ys) x d n = (
    λ h. elim (has-more ys x y h) [ inl a ↦ d.0 a | inr e ↦ n (inl (sym e)) ],
    distinct-push ys x d.1 (λ h. n (inr h)),
  )

  pub one-more : (xs : List A) (i : ℕ) (x : A) → i < length xs → x ≡ get_or xs i x
      → take i xs ++ x ∷ [] ≡ take (i + 1) xs
  one-more xs i x h e = ap (λ y. take i xs ++ y ∷ []) e ∙ sym (take_more xs i x h)

  -- one element more of a list that is gone over
  pub grown : (us xs : List A) (i : ℕ) (x : A) → i < length xs → x ≡ get_or xs i x
      → (us ++ take i xs) ++ x ∷ [] ≡ us ++ take (i + 1) xs
  grown us xs i x h e = append_assoc us (take i xs) (x ∷ []) ∙ ap (λ l. us ++ l) (one-more xs i x h e)

  -- what holds of each element
  pub each-has : (P : A → Type 0) (xs : List A) (x : A) → All P xs → Has xs x → P x
  each-has P [] x a h = absurd h
  each-has P (y ∷ ys) x a (inl e) = subst P e (All-head P y ys a)
  each-has P (y ∷ ys) x a (inr h) = each-has P ys x (All-tail P y ys a) h

  pub each-from-has : (P : A → Type 0) (xs : List A) → ((x : A) → Has xs x → P x) → All P xs
  each-from-has P [] f = λ k d h. absurd (omega arith)
  each-from-has P (y ∷ ys) f = All-cons P y ys (f y (inl refl)) (each-from-has P ys (λ x h. f x (inr h)))

  -- those that a closure kept, which answers whether P holds
  module _ {F : Type 0} (P : A → Type 0) (R : F → A → Bool → F → Type 0) (p : F)
      (says : (x : A) (b : Bool) (q : F) → R p x b q → (IsTrue b ↔ P x) × (q ≡ p)) where
    those-true : (bs : List Bool) (xs : List A) (q r : F) → q ≡ p → length bs ≡ length xs → ReturnsInTurn R q bs xs r
        → AreThose P xs (items_where_true bs xs)
    those-true [] [] q r e n t = refl
    those-true [] (x ∷ xs) q r e n t = absurd (omega arith)
    those-true (b ∷ bs) [] q r e n t = absurd t
    those-true (b ∷ bs) (x ∷ xs) q r e n (j, h, t) =
        let s : (IsTrue b ↔ P x) × (j ≡ p) = says x b j (subst (λ f. R f x b j) e h) in
        by b s.0 (those-true bs xs j r s.1 (omega arith) t)
      where
        by : (v : Bool) → (IsTrue v ↔ P x) → AreThose P xs (items_where_true bs xs)
            → AreThose P (x ∷ xs) (items_where_true (v ∷ bs) (x ∷ xs))
        by true s w = inl (s.0 refl, (items_where_true bs xs, (refl, w)))
        by false s w = inr (λ y. let g : false ≡ true = s.1 y in cc, w)

    pub those-retained : (xs ys : List A) → IsFiltered R p xs ys → AreThose P xs ys
    those-retained xs ys f = subst (AreThose P xs) (sym f.4) (those-true f.0 xs p f.1 refl f.2 f.3)

  -- those of more elements
  pub those-yes : (P : A → Type 0) (xs ys : List A) (x : A) → AreThose P xs ys → P x
      → AreThose P (xs ++ x ∷ []) (ys ++ x ∷ [])
  those-yes P [] ys x e p = inl (p, ([], (ap (λ l. l ++ x ∷ []) e, refl)))
  those-yes P (z ∷ xs) ys x (inl (q, (zs, (e, r)))) p =
      inl (q, (zs ++ x ∷ [], (ap (λ l. l ++ x ∷ []) e, those-yes P xs zs x r p)))
  those-yes P (z ∷ xs) ys x (inr (n, r)) p = inr (n, those-yes P xs ys x r p)

  pub those-no : (P : A → Type 0) (xs ys : List A) (x : A) → AreThose P xs ys → (P x → ⊥) → AreThose P (xs ++ x ∷ []) ys
  those-no P [] ys x e n = inr (n, e)
  those-no P (z ∷ xs) ys x (inl (q, (zs, (e, r)))) n = inl (q, (zs, (e, those-no P xs zs x r n)))
  those-no P (z ∷ xs) ys x (inr (m, r)) n = inr (m, those-no P xs ys x r n)

  -- those of some elements are among them, and P holds for them
  pub those-has : (P : A → Type 0) (xs ys : List A) (x : A) → AreThose P xs ys → Has ys x → Has xs x × P x
  those-has P [] ys x e h = absurd (subst (λ l. Has l x) e h)
  those-has P (z ∷ xs) ys x (inl (q, (zs, (e, r)))) h =
      elim (subst (λ l. Has l x) e h) [
        | inl i ↦ (inl i, subst P i q)
        | inr j ↦ let k = those-has P xs zs x r j in (inr k.0, k.1)
      ]
  those-has P (z ∷ xs) ys x (inr (n, r)) h = let k = those-has P xs ys x r h in (inr k.0, k.1)

  -- no element
  pub once-none : IsOnceEach {A = A} [] []
  once-none = record { once = tt; same = λ x. (λ h. h, λ h. h); order = none }
    where
      none : (n : ℕ) → (m : ℕ) × ((m ≤ 0) × ((x : A) → Has (take m []) x ↔ Has (take n []) x))
      none zero = (0, (omega arith, λ x. (λ h. h, λ h. h)))
      none (suc n) = (0, (omega arith, λ x. (λ h. h, λ h. h)))

  module _ (eq : A → A → Bool) (exact : (a b : A) → Decides (eq a b) (a ≡ b)) where
    -- whether a key of a set is equal to an element
    pub any-has : (x : A) (ys : List A) → Decides (list_any (eq x) ys) (Has ys x)
    any-has x [] = (λ e. absurd (no e), λ h. absurd h)
      where
        no : false ≡ true → ⊥
        no e = cc
    any-has x (y ∷ ys) =
        Decides-or (eq x y) (list_any (eq x) ys) (Decides-like (eq x y) (λ e. sym e) (λ e. sym e) (exact x y))
        (any-has x ys)

    pub any-is : (x : A) (ys : List A) → Decides (list_any (λ y. eq y x) ys) (Has ys x)
    any-is x [] = (λ e. absurd (let f : false ≡ true = e in cc), λ h. absurd h)
    any-is x (y ∷ ys) = Decides-or (eq y x) (list_any (λ z. eq z x) ys) (exact y x) (any-is x ys)

    -- what an insertion says of whether the element is new
    pub fresh-says : (x : A) (ys : List A) (b : Bool) → b ≡ not (list_any (eq x) ys) → b ≡ true → Has ys x → ⊥
    fresh-says x ys b e t h =
        both_ways (list_any (eq x) ys) (not-true (list_any (eq x) ys) (sym e ∙ t)) ((any-has x ys).1 h)

    pub twice-says : (x : A) (ys : List A) (b : Bool) → b ≡ not (list_any (eq x) ys) → b ≡ false → Has ys x
    twice-says x ys b e f = (any-has x ys).0 (not-false (list_any (eq x) ys) (sym e ∙ f))

    -- one element more
    pub once-more : (xs ys : List A) (x : A) → IsOnceEach xs ys → IsOnceEach (xs ++ x ∷ []) (put_once eq ys x)
    once-more xs ys x w = by (list_any (eq x) ys) refl
      where
        there : Has ys x → (y : A) → Has ys y ↔ Has (xs ++ x ∷ []) y
        there h y = (
          λ k. Has-append_left xs (x ∷ []) y ((w.same y).0 k),
          λ k. elim (has-more xs x y k) [ inl a ↦ (w.same y).1 a | inr e ↦ subst (Has ys) e h ],
        )

        new : (y : A) → Has (ys ++ x ∷ []) y ↔ Has (xs ++ x ∷ []) y
        new y = (
          λ k. elim (has-more ys x y k) [
            | inl a ↦ Has-append_left xs (x ∷ []) y ((w.same y).0 a)
            | inr e ↦ subst (Has (xs ++ x ∷ [])) e (has-last xs x)
          ],
          λ k. elim (has-more xs x y k) [
            | inl a ↦ Has-append_left ys (x ∷ []) y ((w.same y).1 a)
            | inr e ↦ subst (Has (ys ++ x ∷ [])) e (has-last ys x)
          ],
        )

        -- what stands in a beginning of xs with x behind it, by what stands in one of xs
        upto : (zs : List A) → length ys ≤ length zs → ((m : ℕ) → m ≤ length ys → take m zs ≡ take m ys)
            → ((y : A) → Has zs y ↔ Has (xs ++ x ∷ []) y)
            → (n : ℕ) → (m : ℕ) × ((m ≤ length zs) × ((y : A) → Has (take m zs) y ↔ Has (take n (xs ++ x ∷ [])) y))
        upto zs long begins all n = elim (cases_lt (length xs) n) [
          | inr h ↦ let o = w.order n in
              (o.0, (omega (arith, o.1.0), λ y. rw (begins o.0 o.1.0, take-append-le n xs (x ∷ []) h) (o.1.1 y)))
          | inl h ↦ (
            length zs,
            (
              omega arith,
              λ y. rw (take-length zs, take_all n (xs ++ x ∷ []) (omega (arith, length-append xs (x ∷ [])))) (all y),
            ),
          )
        ]

        by : (b : Bool) → list_any (eq x) ys ≡ b → IsOnceEach (xs ++ x ∷ []) (cond b ys (ys ++ x ∷ []))
        by true e = record {
          once = w.once;
          same = there ((any-has x ys).0 e);
          order = upto ys (omega arith) (λ m h. refl) (there ((any-has x ys).0 e));
        }
        by false e = record {
          once = distinct-push ys x w.once (λ h. let t : list_any (eq x) ys ≡ true = (any-has x ys).1 h in cc);
          same = new;
          order =
              upto (ys ++ x ∷ []) (omega (arith, length-append ys (x ∷ []))) (λ m h. take-append-le m ys (x ∷ []) h)
              new;
        }

-- the list after an element was put, by whether it was told to be new
pub put-told : {A : Type 0} (x : A) (ys zs : List A) (there new : Bool) → new ≡ not there
    → zs ≡ cond new (ys ++ x ∷ []) ys
    → cond there ys (ys ++ x ∷ []) ≡ zs
put-told x ys zs true new e is = sym (is ∙ ap (λ b. cond b (ys ++ x ∷ []) ys) e)
put-told x ys zs false new e is = sym (is ∙ ap (λ b. cond b (ys ++ x ∷ []) ys) e)

-- what stands on one element more
pub joined-more : {A B : Type 0} (f : A → List B) (us : List B) (xs : List A) (i : ℕ) (x : A) → i < length xs
    → x ≡ get_or xs i x
    → (us ++ flat_map f (take i xs)) ++ f x ≡ us ++ flat_map f (take (i + 1) xs)
joined-more f us xs i x h e = flat_map_more f us (take i xs) x ∙ ap (λ l. us ++ flat_map f l) (one-more xs i x h e)

-- what is taken of one element more
module _ {A B : Type 0} (P : A → Type 0) (f : A → List B) (xs : List A) (i : ℕ) (x : A) (h : i < length xs)
    (e : x ≡ get_or xs i x) where
  pub taken-yes : (ys zs : List B) → AreTakenOnce P f (take i xs) ys → P x
      → ((us : List B) → IsOnceEach us ys → IsOnceEach (us ++ f x) zs) → AreTakenOnce P f (take (i + 1) xs) zs
  taken-yes ys zs (those, (t, o)) p more = (
    those ++ x ∷ [],
    (
      subst (λ l. AreThose P l (those ++ x ∷ [])) (one-more xs i x h e) (those-yes P (take i xs) those x t p),
      subst (λ l. IsOnceEach l zs) (flat_map_more f [] those x) (more (flat_map f those) o),
    ),
  )

  pub taken-no : (ys : List B) → AreTakenOnce P f (take i xs) ys → (P x → ⊥) → AreTakenOnce P f (take (i + 1) xs) ys
  taken-no ys (those, (t, o)) n =
      (those, (subst (λ l. AreThose P l those) (one-more xs i x h e) (those-no P (take i xs) those x t n), o))

pub taken-none : {A B : Type 0} (P : A → Type 0) (f : A → List B) → AreTakenOnce P f [] []
taken-none P f = ([], (refl, once-none))

pub mapped-at : {A B : Type 0} (f : A → B) (us : List B) (xs : List A) (i : ℕ) (d : A) → i < length xs
    → (us ++ map f (take i xs)) ++ f (get_or xs i d) ∷ [] ≡ us ++ map f (take (i + 1) xs)
mapped-at f us xs i d h =
    append_assoc us (map f (take i xs)) (f (get_or xs i d) ∷ [])
    ∙ ap (λ l. us ++ l) (sym (map-append f (take i xs) (get_or xs i d ∷ [])))
    ∙ ap (λ l. us ++ map f l) (sym (take_more xs i d h))

-- what holds of all that stands on some elements holds of what is taken of them
module _ {A B : Type 0} (f : A → List B) (R : A → Type 0) (Q : B → Type 0) (on : (x : A) → R x → All Q (f x)) where
  joined-has : (xs : List A) → ((x : A) → Has xs x → R x) → (y : B) → Has (flat_map f xs) y → Q y
  joined-has [] r y h = absurd h
  joined-has (x ∷ xs) r y h = elim (Has-append_cases (f x) (flat_map f xs) y h) [
    | inl a ↦ each-has Q (f x) y (on x (r x (inl refl))) a
    | inr b ↦ joined-has xs (λ z k. r z (inr k)) y b
  ]

  pub joined-all : (xs : List A) → All R xs → All Q (flat_map f xs)
  joined-all xs r = each-from-has Q (flat_map f xs) (joined-has xs (λ x h. each-has R xs x r h))

  pub taken-all : (P : A → Type 0) (xs : List A) (ys : List B) → All R xs → AreTakenOnce P f xs ys → All Q ys
  taken-all P xs ys r (those, (t, o)) =
      each-from-has Q ys
      (λ y h. joined-has those (λ x k. each-has R xs x r (those-has P xs those x t k).0) y ((o.same y).0 h))

  pub once-all : (xs : List A) (ys : List B) → All R xs → IsOnceEach (flat_map f xs) ys → All Q ys
  once-all xs ys r o = each-from-has Q ys (λ y h. joined-has xs (λ x k. each-has R xs x r k) y ((o.same y).0 h))

pub those-live : {A : Type 0} (P R : A → Type 0) (xs ys : List A) → All R xs → AreThose P xs ys → All R ys
those-live P R xs ys r t = each-from-has R ys (λ x h. each-has R xs x r (those-has P xs ys x t h).0)

pub mapped-all : {A B : Type 0} (f : A → B) (R : A → Type 0) (Q : B → Type 0) → ((x : A) → R x → Q (f x))
    → (xs : List A) → All R xs → All Q (map f xs)
mapped-all f R Q on xs r = All-map Q f xs (All-weaker R (λ x. Q (f x)) on xs r)
