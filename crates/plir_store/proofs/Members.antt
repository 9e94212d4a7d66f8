-- Lists of numbers cut at an element.
use Rattle.std.proofs.Common.{◌≡◌, ℕ, List, [], ◌∷◌, ◌++◌, inl, inr, refl, sym, ap, eq-eqb}
use Rattle.std.proofs.lemmas.Bool.{ne_eqb}
use Rattle.plir_store.specs.Members.{Has, Distinct}
use Rattle.plir_store.specs.MemberLaws.{Has-append_left, Has-append_right, Has-append_cases, Distinct-right}
use Rattle.plir_store.specs.MemberLaws.{Distinct-cross}
use Rattle.plir_store.specs.Lists.{put_in, put_in_after, without}

pub Distinct-insert : (c : ℕ) (xs ys : List ℕ) → (Has (xs ++ ys) c → ⊥) → Distinct (xs ++ ys) → Distinct (xs ++ c ∷ ys)
Distinct-insert c [] ys n a = (n, a)
Distinct-insert c (x ∷ xs) ys n a = (
  λ i. elim (Has-append_cases xs (c ∷ ys) x i) [
    | inl k ↦ a.0 (Has-append_left xs ys x k)
    | inr k ↦ elim k [ inl e ↦ n (inl (sym e)) | inr l ↦ a.0 (Has-append_right xs ys x l) ]
  ],
  Distinct-insert c xs ys (λ i. n (inr i)) a.1,
)

pub Distinct-remove : (c : ℕ) (xs ys : List ℕ) → Distinct (xs ++ c ∷ ys) → Distinct (xs ++ ys)
Distinct-remove c [] ys a = a.1
Distinct-remove c (x ∷ xs) ys a = (
  λ i. elim (Has-append_cases xs ys x i) [
    | inl k ↦ a.0 (Has-append_left xs (c ∷ ys) x k)
    | inr k ↦ a.0 (Has-append_right xs (c ∷ ys) x (inr k))
  ],
  Distinct-remove c xs ys a.1,
)

-- the element at which the list is cut is in neither part
pub Distinct-mid_left : (c : ℕ) (xs ys : List ℕ) → Distinct (xs ++ c ∷ ys) → Has xs c → ⊥
Distinct-mid_left c xs ys a i = Distinct-cross xs (c ∷ ys) a c i (inl refl)

pub Distinct-mid_right : (c : ℕ) (xs ys : List ℕ) → Distinct (xs ++ c ∷ ys) → Has ys c → ⊥
Distinct-mid_right c xs ys a i = (Distinct-right xs (c ∷ ys) a).0 i

pub Distinct-mid : (c : ℕ) (xs ys : List ℕ) → Distinct (xs ++ c ∷ ys) → Has (xs ++ ys) c → ⊥
Distinct-mid c xs ys a i = elim (Has-append_cases xs ys c i) [
  | inl k ↦ Distinct-mid_left c xs ys a k
  | inr k ↦
      Distinct-mid_right c xs ys a k
]

-- a list cut at its element
pub record Cut (x : ℕ) (xs : List ℕ) : Type 0 where
  pub front : List ℕ
  pub back : List ℕ
  pub whole : xs ≡ front ++ x ∷ back

pub cut : (x : ℕ) (xs : List ℕ) → Has xs x → Cut x xs
cut x [] i = absurd i
cut x (z ∷ zs) i = elim i [
  | inl e ↦ record { front = []; back = zs; whole = ap (λ w. w ∷ zs) e }
  | inr j ↦ let t = cut x zs j in record { front = z ∷ t.front; back = t.back; whole = ap (λ ws. z ∷ ws) t.whole }
]

pub put_in-cut : (c m : ℕ) (xs ys : List ℕ) → (Has xs m → ⊥) → put_in c m (xs ++ m ∷ ys) ≡ xs ++ c ∷ m ∷ ys
put_in-cut c m [] ys n = rw (eq-eqb m m refl) refl
put_in-cut c m (x ∷ xs) ys n = rw (ne_eqb x m (λ e. n (inl e))) (ap (λ ws. x ∷ ws)
    (put_in-cut c m xs ys (λ i. n (inr i))))

pub put_in_after-cut : (c m : ℕ) (xs ys : List ℕ) → (Has xs m → ⊥) → put_in_after c m (xs ++ m ∷ ys) ≡ (xs ++ m ∷ []) ++
    c ∷ ys
put_in_after-cut c m [] ys n = rw (eq-eqb m m refl) refl
put_in_after-cut c m (x ∷ xs) ys n = rw (ne_eqb x m (λ e. n (inl e))) (ap (λ ws. x ∷ ws)
    (put_in_after-cut c m xs ys (λ i. n (inr i))))

pub without-cut : (c : ℕ) (xs ys : List ℕ) → (Has xs c → ⊥) → without c (xs ++ c ∷ ys) ≡ xs ++ ys
without-cut c [] ys n = rw (eq-eqb c c refl) refl
without-cut c (x ∷ xs) ys n = rw (ne_eqb x c (λ e. n (inl e))) (ap (λ ws. x ∷ ws)
    (without-cut c xs ys (λ i. n (inr i))))
