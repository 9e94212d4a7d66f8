-- A child is taken out of its list.
use Rattle.std.proofs.Common.{◌≡◌, ℕ, ◌<◌, List, [], ◌∷◌, ◌++◌, map, length, Option, Some, None, ◌⊎◌, inl, inr, refl}
use Rattle.std.proofs.Common.{sym, ◌∙◌, ap, subst, length-set, eq-eqb, arith}
use Rattle.std.proofs.lemmas.Bool.{cases_eq, ne_eqb}
use Rattle.std.proofs.lemmas.List.{get_or-set_same, get_or-set_other}
use Rattle.std.proofs.lemmas.Option.{same_Some, none-some}
use Rattle.plir_store.specs.Lists.{Lists, IsAgreed, children_at, parent_at, without, without_child, without_under}
use Rattle.plir_store.specs.ListLaws.{within_from_parent_at, within_from_child}
use Rattle.plir_store.specs.Members.{Has, Distinct}
use Rattle.plir_store.specs.MemberLaws.{Has-mid, Has-map}

without-here : (c x : ℕ) (xs : List ℕ) → x ≡ c → without c (x ∷ xs) ≡ xs
without-here c x xs e = rw (eq-eqb x c e) refl

without-past : (c x : ℕ) (xs : List ℕ) → (x ≡ c → ⊥) → without c (x ∷ xs) ≡ x ∷ without c xs
without-past c x xs n = rw (ne_eqb x c n) refl

Has-without : (c x : ℕ) (xs : List ℕ) → Has (without c xs) x → Has xs x
Has-without c x [] i = i
Has-without c x (y ∷ ys) i = elim (cases_eq y c) [
  | inl e ↦ inr (subst (λ z. Has z x) (without-here c y ys e) i)
  | inr n ↦ elim (subst (λ z. Has z x) (without-past c y ys n) i) [ inl e ↦ inl e | inr j ↦ inr (Has-without c x ys j) ]
]

without-Has : (c x : ℕ) (xs : List ℕ) → (x ≡ c → ⊥) → Has xs x → Has (without c xs) x
without-Has c x [] n i = i
without-Has c x (y ∷ ys) n i = elim (cases_eq y c) [
  | inl e ↦ subst (λ z. Has z x) (sym (without-here c y ys e)) (elim i [ inl q ↦ absurd (n (sym q ∙ e)) | inr j ↦ j ])
  | inr m ↦ subst (λ z. Has z x) (sym (without-past c y ys m)) (elim i [
    | inl q ↦ inl q
    | inr j ↦ inr
        (without-Has c x ys n j)
  ])
]

without-gone : (c : ℕ) (xs : List ℕ) → Distinct xs → Has (without c xs) c → ⊥
without-gone c [] a i = i
without-gone c (y ∷ ys) a i = elim (cases_eq y c) [
  | inl e ↦ a.0 (subst (λ z. Has ys z) (sym e) (subst (λ z. Has z c) (without-here c y ys e) i))
  | inr n ↦ elim (subst (λ z. Has z c) (without-past c y ys n) i) [ inl e ↦ n e | inr j ↦ without-gone c ys a.1 j ]
]

Distinct-without : (c : ℕ) (xs : List ℕ) → Distinct xs → Distinct (without c xs)
Distinct-without c [] a = a
Distinct-without c (y ∷ ys) a = elim (cases_eq y c) [
  | inl e ↦ subst Distinct (sym (without-here c y ys e)) a.1
  | inr n ↦ subst Distinct (sym (without-past c y ys n)) (λ i. a.0 (Has-without c y ys i), Distinct-without c ys a.1)
]

module _ (l : Lists) (a : IsAgreed l) where
  under_here : (c p : ℕ) (o : Option ℕ) → parent_at l c ≡ o → o ≡ Some p → children_at (without_under l c o) p ≡ without
      c (children_at l p)
  under_here c p None e f = absurd (none-some p f)
  under_here c p (Some q) e f =
      let g : q ≡ p = same_Some q p f in
      let in' : q < length l.children = within_from_child l q c (a.held q c e) in
      subst (λ z. children_at (without_under l c (Some q)) z ≡ without c (children_at l z)) g
      (get_or-set_same l.children q (without c (children_at l q)) [] in')

  -- the list that it stood in
  pub children_at-without_here : (c p : ℕ) → parent_at l c ≡ Some p → children_at (without_child l c) p ≡ without c
      (children_at l p)
  children_at-without_here c p e = under_here c p (parent_at l c) refl e

  under_other : (c q : ℕ) (o : Option ℕ) → (o ≡ Some q → ⊥) → children_at (without_under l c o) q ≡ children_at l q
  under_other c q None n = refl
  under_other c q (Some p) n = get_or-set_other l.children p q (without c (children_at l p)) []
      (λ e. n (ap (λ z. Some z) (sym e)))

  -- every other list
  pub children_at-without_other : (c q : ℕ) → (parent_at l c ≡ Some q → ⊥) → children_at (without_child l c) q ≡
      children_at l q
  children_at-without_other c q n = under_other c q (parent_at l c) n

  gone_under : (c : ℕ) (o : Option ℕ) → parent_at l c ≡ o → parent_at (without_under l c o) c ≡ None
  gone_under c None e = e
  gone_under c (Some p) e = get_or-set_same l.parents c None None (within_from_parent_at l c p e)

  pub parent_at-without_here : (c : ℕ) → parent_at (without_child l c) c ≡ None
  parent_at-without_here c = gone_under c (parent_at l c) refl

  parent_under : (c x : ℕ) (o : Option ℕ) → (x ≡ c → ⊥) → parent_at (without_under l c o) x ≡ parent_at l x
  parent_under c x None n = refl
  parent_under c x (Some p) n = get_or-set_other l.parents c x None None n

  pub parent_at-without_other : (c x : ℕ) → (x ≡ c → ⊥) → parent_at (without_child l c) x ≡ parent_at l x
  parent_at-without_other c x n = parent_under c x (parent_at l c) n

  option_cases : (o : Option ℕ) (p : ℕ) → (o ≡ Some p) ⊎ (o ≡ Some p → ⊥)
  option_cases None p = inr (λ e. none-some p e)
  option_cases (Some q) p = elim (cases_eq q p) [
    | inl e ↦ inl
        (ap (λ z. Some z) e)
    | inr n ↦ inr (λ e. n (same_Some q p e))
  ]

  child_of : (c p x : ℕ) → Has (children_at (without_child l c) p) x → Has (children_at l p) x × (x ≡ c → ⊥)
  child_of c p x i = elim (option_cases (parent_at l c) p) [
    | inl e ↦
        let j : Has (without c (children_at l p)) x = subst (λ z. Has z x) (children_at-without_here c p e) i in (
          Has-without c x (children_at l p) j,
          λ q. without-gone c (children_at l p) (a.apart p)
              (subst (λ z. Has (without c (children_at l p)) z) q j),
        )
    | inr n ↦
        let j : Has (children_at l p) x = subst (λ z. Has z x) (children_at-without_other c p n) i in
        (j, λ q. n (a.owned p c (subst (λ z. Has (children_at l p) z) q j)))
  ]

  of_child : (c p x : ℕ) → Has (children_at l p) x → (x ≡ c → ⊥) → Has (children_at (without_child l c) p) x
  of_child c p x i ne = elim (option_cases (parent_at l c) p) [
    | inl e ↦ subst (λ z. Has z x) (sym (children_at-without_here c p e)) (without-Has c x (children_at l p) ne i)
    | inr n ↦ subst (λ z. Has z x) (sym (children_at-without_other c p n)) i
  ]

  num_parents : (c : ℕ) (o : Option ℕ) → length (without_under l c o).parents ≡ length l.parents
  num_parents c None = refl
  num_parents c (Some p) = length-set l.parents c None

  list_count : (c : ℕ) (o : Option ℕ) → length (without_under l c o).children ≡ length l.children
  list_count c None = refl
  list_count c (Some p) = length-set l.children p (without c (children_at l p))

  pub length-parents_without : (c : ℕ) → length (without_child l c).parents ≡ length l.parents
  length-parents_without c = num_parents c (parent_at l c)

  pub length-children_without : (c : ℕ) → length (without_child l c).children ≡ length l.children
  length-children_without c = list_count c (parent_at l c)

  pub IsAgreed-without : (c : ℕ) → IsAgreed (without_child l c)
  IsAgreed-without c = record {
    apart = λ p. elim (option_cases (parent_at l c) p) [
      | inl e ↦ subst Distinct (sym (children_at-without_here c p e)) (Distinct-without c (children_at l p) (a.apart p))
      | inr n ↦ subst Distinct (sym (children_at-without_other c p n)) (a.apart p)
    ];
    owned = λ p x i. let r = child_of c p x i in parent_at-without_other c x r.1 ∙ a.owned p x r.0;
    held = λ p x e. elim (cases_eq x c) [
      | inl q ↦ absurd (none-some p (sym (parent_at-without_here c) ∙ ap (parent_at (without_child l c)) (sym q) ∙ e))
      | inr n ↦ of_child c p x (a.held p x (sym (parent_at-without_other c x n) ∙ e)) n
    ];
    within = λ p x i. let h = a.within p x ((child_of c p x i).0) in let n = length-parents_without c in omega arith;
    num_lists = let h = a.num_lists in let n = length-children_without c in omega arith;
    num_children = let h = a.num_children in let n = length-parents_without c in omega arith;
  }

-- f gives each number an image of its own
module _ {A : Type 0} (f : ℕ → A) (one : (i j : ℕ) → f i ≡ f j → i ≡ j) (c : ℕ) where
  pub among : (ks : List ℕ) (xs ys : List A) → map f ks ≡ xs ++ f c ∷ ys → Has ks c
  among ks xs ys t = let r = Has-map f ks (f c) (subst (λ z. Has z (f c)) (sym t) (Has-mid xs ys (f c))) in subst
      (λ z. Has ks z) (one r.0 c r.1.1) r.1.0

  -- the images of a list without c, where the image of c stood between xs and ys
  pub map-without : (ks : List ℕ) (xs ys : List A) → Distinct ks → map f ks ≡ xs ++ f c ∷ ys → map f (without c ks) ≡ xs
      ++ ys
  map-without [] [] ys a e = cc
  map-without [] (x ∷ xs) ys a e = cc
  map-without (k ∷ ks) [] ys a e =
      let h : f k ≡ f c = cc in
      let t : map f ks ≡ ys = cc in
      ap (map f) (without-here c k ks (one k c h)) ∙ t
  map-without (k ∷ ks) (x ∷ xs) ys a e =
      let h : f k ≡ x = cc in
      let t : map f ks ≡ xs ++ f c ∷ ys = cc in
      elim (cases_eq k c) [
        | inl q ↦ absurd (a.0 (subst (λ z. Has ks z) (sym q) (among ks xs ys t)))
        | inr n ↦ ap (map f) (without-past c k ks n) ∙ rw (h, map-without ks xs ys a.1 t) refl
      ]
