-- A doubly linked list over two functions: N leads on and P leads back, `None` being the place before the first
-- and after the last.
use Rattle.std.proofs.Common.{◌≡◌, ℕ, zero, suc, ◌≤◌, List, [], ◌∷◌, ◌++◌, length, Option, Some, None, inl, inr, refl}
use Rattle.std.proofs.Common.{sym, ◌∙◌, ap, subst, arith, eq-eqb}
use Rattle.std.proofs.lemmas.Bool.{cases_eq, ne_eqb}
use Rattle.std.proofs.lemmas.Option.{same_Some, none-some}
use Rattle.plir_store.specs.Members.{Has, Distinct, head}
use Rattle.plir_store.specs.Lists.{last_from, next_in, prev_in}
use Rattle.plir_store.specs.Links.{Joined, walk}
use Rattle.plir_store.proofs.Members.{Distinct-mid_left, Distinct-mid_right, Distinct-remove}
use Rattle.plir_store.specs.MemberLaws.{Has-append_left, Has-append_right, Distinct-left, Distinct-right}
use Rattle.plir_store.specs.MemberLaws.{Distinct-cross}

pub last_from-push : (a : Option ℕ) (xs : List ℕ) (m : ℕ) → last_from a (xs ++ m ∷ []) ≡ Some m
last_from-push a [] m = refl
last_from-push a (x ∷ xs) m = last_from-push (Some x) xs m

-- what is joined from the first of bs on, once the place before it is left out
abbrev pub Tail : (Option ℕ → Option ℕ) → (Option ℕ → Option ℕ) → List ℕ → Type 0
Tail N P [] = Unit {0}
Tail N P (m ∷ bs) = Joined N P (Some m) bs None

module _ (N P : Option ℕ → Option ℕ) where
  pub Joined-cut : (a : Option ℕ) (xs ys : List ℕ) → Joined N P a (xs ++ ys) None → Joined N P a xs (head ys) × Tail N P
      ys
  Joined-cut a [] [] j = (j, tt)
  Joined-cut a [] (y ∷ ys) j = ((j.0, j.1), j.2)
  Joined-cut a (x ∷ xs) ys j = let t = Joined-cut (Some x) xs ys j.2 in ((j.0, j.1, t.0), t.1)

  pub Joined-paste : (a : Option ℕ) (xs ys : List ℕ) → Joined N P a xs (head ys) → Tail N P ys → Joined N P a (xs ++ ys)
      None
  Joined-paste a [] [] j t = j
  Joined-paste a [] (y ∷ ys) j t = (j.0, j.1, t)
  Joined-paste a (x ∷ xs) ys j t = (j.0, j.1, Joined-paste (Some x) xs ys j.2 t)

  -- what leads back from the end is the last element
  pub back_is_in : (a r : Option ℕ) (x : ℕ) (xs : List ℕ) → Joined N P a (x ∷ xs) r → (y : ℕ) ×
      (Has (x ∷ xs) y × (P r ≡ Some y))
  back_is_in a r x [] j = (x, (inl refl, j.2.1))
  back_is_in a r x (y ∷ ys) j = let t = back_is_in (Some x) r y ys j.2 in (t.0, (inr t.1.0, t.1.1))

  pub back_is : (a r : Option ℕ) (xs : List ℕ) → Joined N P a xs r → P r ≡ last_from a xs
  back_is a r [] j = j.1
  back_is a r (x ∷ xs) j = back_is (Some x) r xs j.2

  pub front_is : (a r : Option ℕ) (xs : List ℕ) → Joined N P a xs None → N a ≡ head xs
  front_is a r [] j = j.0
  front_is a r (x ∷ xs) j = j.0

  pub next_is : (a : Option ℕ) (xs : List ℕ) (c : ℕ) → Joined N P a xs None → Has xs c → N (Some c) ≡ next_in xs c
  next_is a [] c j i = absurd i
  next_is a (x ∷ xs) c j i = elim (cases_eq x c) [
    | inl e ↦ rw (eq-eqb x c e) (subst (λ w. N (Some w) ≡ head xs) e (front_is (Some x) None xs j.2))
    | inr n ↦ rw (ne_eqb x c n) (elim i [ inl e ↦ absurd (n e) | inr k ↦ next_is (Some x) xs c j.2 k ])
  ]

  pub prev_is : (a r : Option ℕ) (xs : List ℕ) (c : ℕ) → Joined N P a xs r → Has xs c → P (Some c) ≡ prev_in a xs c
  prev_is a r [] c j i = absurd i
  prev_is a r (x ∷ xs) c j i = elim (cases_eq x c) [
    | inl e ↦ rw (eq-eqb x c e) (subst (λ w. P (Some w) ≡ a) e j.1)
    | inr n ↦ rw (ne_eqb x c n) (elim i [ inl e ↦ absurd (n e) | inr k ↦ prev_is (Some x) r xs c j.2 k ])
  ]

  pub walk_is : (n : ℕ) (a : Option ℕ) (xs : List ℕ) → Joined N P a xs None → length xs ≤ n → walk n
      (λ x. N (Some x)) (N a) ≡ xs
  walk_is zero a [] j h = refl
  walk_is (suc n) a [] j h = rw j.0 refl
  walk_is zero a (x ∷ xs) j h = absurd (omega arith)
  walk_is (suc n) a (x ∷ xs) j h = rw j.0 (ap (λ ws. x ∷ ws) (walk_is n (Some x) xs j.2 (omega arith)))

-- nothing in us is the first of bs
first_not_in : (r : Option ℕ) (us bs : List ℕ) (x : ℕ) → r ≡ head bs → Distinct (us ++ bs) → Has us x → Some x ≡ r → ⊥
first_not_in r us [] x e apart i q = none-some x (sym (q ∙ e))
first_not_in r us (m ∷ bs) x e apart i q = Distinct-mid_left m us bs apart (subst
    (λ z. Has us z) (same_Some x m (q ∙ e)) i)

module _ (N P N' P' : Option ℕ → Option ℕ) where
  -- a list whose places read the same stays joined
  pub Joined-frame : (a b : Option ℕ) (xs : List ℕ) → N' a ≡ N a → P' b ≡ P b → ((x : ℕ) → Has xs x →
      (N' (Some x) ≡ N (Some x)) × (P' (Some x) ≡ P (Some x))) → Joined N P a xs b → Joined N' P' a xs b
  Joined-frame a b [] na pb same j = (na ∙ j.0, pb ∙ j.1)
  Joined-frame a b (x ∷ xs) na pb same j = (
    na ∙ j.0,
    (same x (inl refl)).1 ∙ j.1,
    Joined-frame (Some x) b xs (same x (inl refl)).0 pb
        (λ y i. same y (inr i)) j.2,
  )

  -- a stretch that ended at r ends at r'
  pub Joined-retarget : (a r r' : Option ℕ) (xs : List ℕ) → Joined N P a xs r → ((a ≡ P r → ⊥) → N' a ≡ N a) →
      ((x : ℕ) → Has xs x → (Some x ≡ P r → ⊥) → N' (Some x) ≡ N (Some x)) → ((x : ℕ) → Has xs x → P' (Some x) ≡ P
      (Some x)) → N' (P r) ≡ r' → P' r' ≡ P r → ((y : ℕ) → Has xs y → a ≡ Some y → ⊥) → Distinct xs → Joined N' P' a xs
      r'
  Joined-retarget a r r' [] j na nx px n p fresh apart = (subst (λ k. N' k ≡ r') j.1 n, p ∙ j.1)
  Joined-retarget a r r' (x ∷ xs) j na nx px n p fresh apart =
      let l = back_is_in N P a r x xs j in (
        na (λ q. fresh l.0 l.1.0 (q ∙ l.1.1)) ∙ j.0,
        px x (inl refl) ∙ j.1,
        Joined-retarget (Some x) r r' xs j.2
            (nx x (inl refl)) (λ y i. nx y (inr i)) (λ y i. px y (inr i)) n p (λ y i q. apart.0
            (subst (λ z. Has xs z) (sym (same_Some x y q)) i)) apart.1,
      )

  -- what follows the first of bs stays us it was
  Tail-frame : (r l c : Option ℕ) (bs : List ℕ) → r ≡ head bs → ((k : Option ℕ) → (k ≡ l → ⊥) → (k ≡ c → ⊥) → N' k ≡ N
      k) → ((k : Option ℕ) → (k ≡ r → ⊥) → (k ≡ c → ⊥) → P' k ≡ P k) → ((x : ℕ) → Has bs x → Some x ≡ l → ⊥) →
      ((x : ℕ) → Has bs x → Some x ≡ c → ⊥) → (None ≡ c → ⊥) → Distinct bs → Tail N P bs → Tail N' P' bs
  Tail-frame r l c [] e sn sp nl nc cn apart t = tt
  Tail-frame r l c (m ∷ bs) e sn sp nl nc cn apart t =
      Joined-frame (Some m) None bs (sn (Some m) (nl m (inl refl)) (nc m (inl refl)))
      (sp None (λ q. none-some m (q ∙ e)) cn)
      (λ x i. (
        sn (Some x) (nl x (inr i)) (nc x (inr i)),
        sp (Some x) (λ q. apart.0
            (subst (λ z. Has bs z) (same_Some x m (q ∙ e)) i)) (nc x (inr i)),
      )) t

  back_not_in : (a r : Option ℕ) (us bs : List ℕ) (x : ℕ) → Joined N P a us r → Distinct (us ++ bs) → (a ≡ Some x → ⊥) →
      Has bs x → Some x ≡ P r → ⊥
  back_not_in a r [] bs x j apart n i q = n (sym (q ∙ j.1))
  back_not_in a r (y ∷ ys) bs x j apart n i q =
      let l = back_is_in N P a r y ys j in
      Distinct-cross (y ∷ ys) bs apart x (subst (λ z. Has (y ∷ ys) z) (sym (same_Some x l.0 (q ∙ l.1.1))) l.1.0) i

  -- c is put between two neighbours
  pub Joined-insert : (c : ℕ) (us bs : List ℕ) (l r : Option ℕ) → Joined N P None (us ++ bs) None → Distinct (us ++ bs)
      → (Has (us ++ bs) c → ⊥) → r ≡ head bs → l ≡ P r → ((k : Option ℕ) → (k ≡ l → ⊥) → (k ≡ Some c → ⊥) → N' k ≡ N k)
      → ((k : Option ℕ) → (k ≡ r → ⊥) → (k ≡ Some c → ⊥) → P' k ≡ P k) → N' l ≡ Some c → P' (Some c) ≡ l → N' (Some c) ≡
      r → P' r ≡ Some c → Joined N' P' None (us ++ c ∷ bs) None
  Joined-insert c us bs l r j apart fresh re le sn sp nl pc nc pr =
      let t = Joined-cut N P None us bs j in
      let left : Joined N P None us r = subst (λ k. Joined N P None us k) (sym re) t.0 in
      let nb : (x : ℕ) → Has bs x → Some x ≡ l → ⊥ = λ x i q. back_not_in None r us bs x left apart (none-some x) i
      (q ∙ le) in
      let cb : (x : ℕ) → Has bs x → Some x ≡ Some c → ⊥ = λ x i q. fresh (Has-append_right us bs c
      (subst (λ z. Has bs z) (same_Some x c q) i)) in
      let tail : Tail N' P' bs = Tail-frame r l (Some c) bs re sn sp nb cb (none-some c) (Distinct-right us bs apart)
      t.1 in
      let front : Joined N' P' None us (Some c) =
      Joined-retarget None r (Some c) us left (λ q. sn None (λ e. q (e ∙ le)) (none-some c))
      (λ x i q. sn (Some x) (λ e. q (e ∙ le)) (λ e. fresh (Has-append_left us bs c
      (subst (λ z. Has us z) (same_Some x c e) i))))
      (λ x i. sp (Some x) (first_not_in r us bs x re apart i) (λ e. fresh (Has-append_left us bs c
      (subst (λ z. Has us z) (same_Some x c e) i))))
      (subst (λ k. N' k ≡ Some c) le nl) (pc ∙ le) (λ y i. none-some y) (Distinct-left us bs apart) in
      Joined-paste N' P' None us (c ∷ bs) front (Joined-paste N' P' (Some c) [] bs
      (nc ∙ re, subst (λ k. P' k ≡ Some c) re pr) tail)

  -- c is taken out from between its neighbours
  pub Joined-remove : (c : ℕ) (us bs : List ℕ) (l r : Option ℕ) → Joined N P None (us ++ c ∷ bs) None → Distinct
      (us ++ c ∷ bs) → l ≡ P (Some c) → r ≡ N (Some c) → ((k : Option ℕ) → (k ≡ l → ⊥) → (k ≡ Some c → ⊥) → N' k ≡ N k)
      → ((k : Option ℕ) → (k ≡ r → ⊥) → (k ≡ Some c → ⊥) → P' k ≡ P k) → N' l ≡ r → P' r ≡ l → Joined N' P' None
      (us ++ bs) None
  Joined-remove c us bs l r j apart le rn sn sp nl pr =
      let t = Joined-cut N P None us (c ∷ bs) j in
      let u = Joined-cut N P (Some c) [] bs t.1 in
      let re : r ≡ head bs = rn ∙ u.0.0 in
      let rest : Distinct (us ++ bs) = Distinct-remove c us bs apart in
      let nb : (x : ℕ) → Has bs x → Some x ≡ l → ⊥ = λ x i q. back_not_in None (Some c) us bs x t.0 rest (none-some x) i
      (q ∙ le) in
      let cb : (x : ℕ) → Has bs x → Some x ≡ Some c → ⊥ = λ x i q. Distinct-mid_right c us bs apart
      (subst (λ z. Has bs z) (same_Some x c q) i) in
      let ca : (x : ℕ) → Has us x → Some x ≡ Some c → ⊥ = λ x i q. Distinct-mid_left c us bs apart
      (subst (λ z. Has us z) (same_Some x c q) i) in
      let tail : Tail N' P' bs = Tail-frame r l (Some c) bs re sn sp nb cb (none-some c) (Distinct-right us bs rest) u.1
      in
      let front : Joined N' P' None us r =
      Joined-retarget None (Some c) r us t.0 (λ q. sn None (λ e. q (e ∙ le)) (none-some c))
      (λ x i q. sn (Some x) (λ e. q (e ∙ le)) (ca x i))
      (λ x i. sp (Some x) (first_not_in r us bs x re rest i) (ca x i))
      (subst (λ k. N' k ≡ r) le nl) (pr ∙ le) (λ y i. none-some y) (Distinct-left us bs rest) in
      Joined-paste N' P' None us bs (subst (λ k. Joined N' P' None us k) re front) tail
