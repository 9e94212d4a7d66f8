-- Hops in a row: one more, and those from one region gone over.
use Rattle.std.proofs.Common.{◌≡◌, ◌↔◌, ℕ, zero, suc, ◌+◌, ◌<◌, ◌≤◌, Bool, true, false, cond, List, [], ◌∷◌, ◌++◌}
use Rattle.std.proofs.Common.{length, ◌⊎◌, Option, Some, None, inl, inr, refl, sym, ap, subst, ◌∙◌, arith}
use Rattle.std.specs.Prelude.{slice_get}
use Rattle.std.specs.Bool.{Decides}
use Rattle.std.specs.List.{list_any}
use Rattle.std.proofs.lemmas.Bool.{cases_lt, cases_eq}
use Rattle.std.proofs.lemmas.List.{take-append-le, length-append, length_push}
use Rattle.std.proofs.lemmas.Option.{same_Some, slice_get_within}
use Rattle.plir_core.specs.declared.ptr.Ptr.{Ptr}
use Rattle.plir_core.specs.declared.ptr.Region.{Region as RegionKind}
use Rattle.plir_store.specs.Members.{Has}
use Rattle.plir_flow.specs.declared.hops.Hop.{Hop}
use Rattle.plir_core.specs.ContextView.{ContextView}
use Rattle.plir_store.specs.MemberLaws.{Has-append_left}
use Rattle.plir_flow.specs.RegionEdges.{EdgeView, IsFromRegion, IsStep, IsStepOn}
use Rattle.plir_flow.specs.Taken.{put_once}
use Rattle.plir_flow.specs.Hops.{IsHop, IsNoneFrom, IsLatest, AreLinked, AreHeads, IsReachedMore}
use Rattle.plir_flow.proofs.TakenLists.{has-last, has-more, distinct-push, any-has}

module _ {N : Type 0} where
  -- nothing has come yet
  pub more-none : (P : N → Type 0) (xs : List N) → ((x : N) → P x → ⊥) → IsReachedMore P xs xs
  more-none P xs empty = record {
    begins = λ m h. refl;
    longer = omega arith;
    all = λ x. (λ h. inl h, λ h. elim h [ inl a ↦ a | inr p ↦ absurd (empty x p) ]);
    once = λ d. d;
  }

  pub more-like : (P Q : N → Type 0) (xs ys : List N) → IsReachedMore P xs ys → ((x : N) → P x ↔ Q x)
      → IsReachedMore Q xs ys
  more-like P Q xs ys w alike = record {
    begins = w.begins;
    longer = w.longer;
    all =
        λ x. (
          λ h. elim ((w.all x).0 h) [ inl a ↦ inl a | inr p ↦ inr ((alike x).0 p) ],
          λ h. (w.all x).1 (elim h [ inl a ↦ inl a | inr q ↦ inr ((alike x).1 q) ]),
        );
    once = w.once;
  }

  -- one more comes
  pub more-insert : (eq : N → N → Bool) → ((a b : N) → Decides (eq a b) (a ≡ b))
      → (P : N → Type 0) (xs ys : List N) (y : N) → IsReachedMore P xs ys
      → IsReachedMore (λ x. P x ⊎ (y ≡ x)) xs (put_once eq ys y)
  more-insert eq exact P xs ys y w = by (list_any (eq y) ys) refl
    where
      by : (b : Bool) → list_any (eq y) ys ≡ b → IsReachedMore (λ x. P x ⊎ (y ≡ x)) xs (cond b ys (ys ++ y ∷ []))
      by true e =
          let here : Has ys y = (any-has eq exact y ys).0 e in record {
            begins = w.begins;
            longer = w.longer;
            all = λ x. (
              λ h. elim ((w.all x).0 h) [ inl a ↦ inl a | inr p ↦ inr (inl p) ],
              λ h. elim h [
                | inl a ↦ (w.all x).1 (inl a)
                | inr q ↦ elim q [ inl p ↦ (w.all x).1 (inr p) | inr same ↦ subst (Has ys) same here ]
              ],
            );
            once = w.once;
          }
      by false e = record {
        begins = λ m h. take-append-le m ys (y ∷ []) (omega (arith, w.longer)) ∙ w.begins m h;
        longer = omega (arith, w.longer, length-append ys (y ∷ []));
        all = λ x. (
          λ h. elim (has-more ys y x h) [
            | inl a ↦ elim ((w.all x).0 a) [ inl b ↦ inl b | inr p ↦ inr (inl p) ]
            | inr same ↦ inr (inr same)
          ],
          λ h. elim h [
            | inl a ↦ Has-append_left ys (y ∷ []) x ((w.all x).1 (inl a))
            | inr q ↦ elim q [
              | inl p ↦ Has-append_left ys (y ∷ []) x ((w.all x).1 (inr p))
              | inr same ↦ subst (Has (ys ++ y ∷ [])) same (has-last ys y)
            ]
          ],
        );
        once =
            λ d.
            distinct-push ys y (w.once d) (λ h. let t : list_any (eq y) ys ≡ true = (any-has eq exact y ys).1 h in cc);
      }

pub get-front : {A : Type 0} (xs : List A) (x : A) (i : ℕ) → i < length xs → slice_get (xs ++ x ∷ []) i ≡ slice_get xs i
get-front [] x i h = absurd (omega arith)
get-front (y ∷ xs) x zero h = refl
get-front (y ∷ xs) x (suc i) h = get-front xs x i (omega arith)

pub get-last : {A : Type 0} (xs : List A) (x : A) → slice_get (xs ++ x ∷ []) (length xs) ≡ Some x
get-last [] x = refl
get-last (y ∷ xs) x = get-last xs x

-- one hop more
module _ (hops : List Hop) (x : Hop) where
  abbrev more : List Hop
  more = hops ++ x ∷ []

  none-kept : (low n : ℕ) (r : Ptr RegionKind) → n ≤ length hops → IsNoneFrom hops low n r → IsNoneFrom more low n r
  none-kept low n r fits none i h from below at = none i h from below (sym (get-front hops x i (omega arith)) ∙ at)

  latest-kept : (n : ℕ) (r : Ptr RegionKind) (o : Option ℕ) → n ≤ length hops → IsLatest hops n r o
      → IsLatest more n r o
  latest-kept n r None fits l = none-kept 0 n r fits l
  latest-kept n r (Some k) fits l =
      (l.0, (l.1.0, (get-front hops x k (omega (arith, l.0)) ∙ l.1.1.0, l.1.1.1)), none-kept (k + 1) n r fits l.2)

  none-next : (low : ℕ) (r : Ptr RegionKind) → (x.from ≡ r → ⊥) → IsNoneFrom more low (length hops) r
      → IsNoneFrom more low (length hops + 1) r
  none-next low r other none i h from below at is = elim (cases_eq i (length hops)) [
    | inl e ↦
        other (ap (λ (z : Hop). z.from) (same_Some x h (sym (get-last hops x) ∙ ap (slice_get more) (sym e) ∙ at)) ∙ is)
    | inr n ↦ none i h from (omega arith) at is
  ]

  latest-next : (r : Ptr RegionKind) (o : Option ℕ) → (x.from ≡ r → ⊥) → IsLatest more (length hops) r o
      → IsLatest more (length hops + 1) r o
  latest-next r None other l = none-next 0 r other l
  latest-next r (Some k) other l = (omega (arith, l.0), l.1, none-next (k + 1) r other l.2)

  latest-here : IsLatest more (length hops + 1) x.from (Some (length hops))
  latest-here = (omega arith, (x, (get-last hops x, refl)), λ i h from below at is. absurd (omega arith))

  module _ (eq : Ptr RegionKind → Ptr RegionKind → Bool) (exact : (a b : Ptr RegionKind) → Decides (eq a b) (a ≡ b))
      (head : Ptr RegionKind → Option ℕ) where
    pub linked-more : AreLinked hops → IsLatest hops (length hops) x.from x.earlier → AreLinked more
    linked-more linked latest i h at = elim (cases_lt i (length hops)) [
      | inl below ↦ latest-kept i h.from h.earlier (omega arith) (linked i h (sym (get-front hops x i below) ∙ at))
      | inr past ↦
          let within : i < length more = slice_get_within more i h at in
          let last : i ≡ length hops = omega (arith, length_push hops x) in
          let same : x ≡ h = same_Some x h (sym (get-last hops x) ∙ ap (slice_get more) (sym last) ∙ at) in
          subst (λ (z : Hop). IsLatest more i z.from z.earlier) same
          (subst (λ n. IsLatest more n x.from x.earlier) (sym last)
          (latest-kept (length hops) x.from x.earlier (omega arith) latest))
    ]

    pub heads-more : AreHeads hops head → (now : Ptr RegionKind → Option ℕ)
        → ((r : Ptr RegionKind) → now r ≡ cond (eq x.from r) (Some (length hops)) (head r)) → AreHeads more now
    heads-more heads now is r =
        let n : length hops + 1 ≡ length more = sym (length_push hops x) in
        subst (λ m. IsLatest more m r (now r)) n (by (eq x.from r) refl (is r))
      where
        by : (b : Bool) → eq x.from r ≡ b → now r ≡ cond b (Some (length hops)) (head r)
            → IsLatest more (length hops + 1) r (now r)
        by true e is =
            let same : x.from ≡ r = (exact x.from r).0 e in
            rw is (subst (λ z. IsLatest more (length hops + 1) z (Some (length hops))) same latest-here)
        by false e is =
            let other : x.from ≡ r → ⊥ = λ s. let t : eq x.from r ≡ true = (exact x.from r).1 s in cc in
            rw is (latest-next r (head r) other (latest-kept (length hops) r (head r) (omega arith) (heads r)))

  pub hops-more : (a b : Ptr RegionKind) → IsHop more a b ↔ (IsHop hops a b ⊎ ((x.from ≡ a) × (x.to ≡ b)))
  hops-more a b = (
    there,
    λ h. elim h [
      | inl (i, (h, (at, f, t))) ↦ (i, (h, (get-front hops x i (slice_get_within hops i h at) ∙ at, f, t)))
      | inr (f, t) ↦ (length hops, (x, (get-last hops x, f, t)))
    ],
  )
    where
      there : IsHop more a b → IsHop hops a b ⊎ ((x.from ≡ a) × (x.to ≡ b))
      there (i, (h, (at, f, t))) = elim (cases_lt i (length hops)) [
        | inl below ↦ inl (i, (h, (sym (get-front hops x i below) ∙ at, f, t)))
        | inr past ↦
            let within : i < length more = slice_get_within more i h at in
            let last : i ≡ length hops = omega (arith, length_push hops x) in
            let same : x ≡ h = same_Some x h (sym (get-last hops x) ∙ ap (slice_get more) (sym last) ∙ at) in
            inr (ap (λ (z : Hop). z.from) same ∙ f, ap (λ (z : Hop). z.to) same ∙ t)
      ]

-- the hops from one region that stand from a place on
module _ (hops : List Hop) (r : Ptr RegionKind) where
  abbrev pub IsHopFrom : (n : ℕ) → Ptr RegionKind → Type 0
  IsHopFrom n b = (i : ℕ) × ((h : Hop) × ((n ≤ i) × (slice_get hops i ≡ Some h) × (h.from ≡ r) × (h.to ≡ b)))

  pub from-end : (b : Ptr RegionKind) → IsHopFrom (length hops) b → ⊥
  from-end b (i, (h, (past, at, f, t))) = let w : i < length hops = slice_get_within hops i h at in omega arith

  pub from-start : (n : ℕ) → IsNoneFrom hops 0 n r → (b : Ptr RegionKind) → IsHopFrom n b ↔ IsHop hops r b
  from-start n none b = (λ (i, (h, (past, at, f, t))). (i, (h, (at, f, t))), back)
    where
      back : IsHop hops r b → IsHopFrom n b
      back (i, (h, (at, f, t))) = elim (cases_lt i n) [
        | inl below ↦ absurd (none i h (omega arith) below at f)
        | inr past ↦ (i, (h, (past, at, f, t)))
      ]

  pub from-next : (n k : ℕ) (g : Hop) → k < n → slice_get hops k ≡ Some g → g.from ≡ r → IsNoneFrom hops (k + 1) n r
      → (b : Ptr RegionKind) → (IsHopFrom n b ⊎ (g.to ≡ b)) ↔ IsHopFrom k b
  from-next n k g below here own none b = (
    λ h. elim h [
      | inl (i, (h, (past, at, f, t))) ↦ (i, (h, (omega arith, at, f, t)))
      | inr e ↦ (k, (g, (omega arith, here, own, e)))
    ],
    back,
  )
    where
      back : IsHopFrom k b → IsHopFrom n b ⊎ (g.to ≡ b)
      back (i, (h, (past, at, f, t))) = elim (cases_eq i k) [
        | inl e ↦ inr (ap (λ (z : Hop). z.to) (same_Some g h (sym here ∙ ap (slice_get hops) (sym e) ∙ at)) ∙ t)
        | inr other ↦ elim (cases_lt i n) [
          | inl within ↦ absurd (none i h (omega arith) within at f)
          | inr beyond ↦ inl (i, (h, (beyond, at, f, t)))
        ]
      ]

  module _ (eq : Ptr RegionKind → Ptr RegionKind → Bool)
      (exact : (a b : Ptr RegionKind) → Decides (eq a b) (a ≡ b)) where
    -- the last hop among those from the region that are left leads to one region more
    pub hop-done : (n k : ℕ) (g : Hop) (xs ys : List (Ptr RegionKind)) → AreLinked hops → n ≤ length hops
        → IsLatest hops n r (Some k) → IsReachedMore (IsHopFrom n) xs ys → slice_get hops k ≡ Some g
        → (m : ℕ) ×
        ((m ≤ length hops) × IsLatest hops m r g.earlier × IsReachedMore (IsHopFrom m) xs (put_once eq ys g.to))
    hop-done n k g xs ys linked fits latest w here =
        let own : g.from ≡ r =
        ap (λ (z : Hop). z.from) (same_Some g latest.1.0 (sym here ∙ latest.1.1.0)) ∙ latest.1.1.1 in (
          k,
          (
            omega (arith, latest.0),
            subst (λ z. IsLatest hops k z g.earlier) own (linked k g here),
            more-like _ _ xs (put_once eq ys g.to) (more-insert eq exact (IsHopFrom n) xs ys g.to w)
                (from-next n k g latest.0 here own latest.2),
          ),
        )

-- an edge more
module _ {K A T : Type 0} (s : ContextView K A T) (es : List EdgeView) (e : EdgeView) (a b : Ptr RegionKind) where
  pub steps-more : (IsStep s es a b ⊎ IsStepOn s e a b) ↔ IsStep s (es ++ e ∷ []) a b
  steps-more = (
    λ h. elim h [
      | inl (d, (here, (from, to))) ↦ (d, (Has-append_left es (e ∷ []) d here, (from, to)))
      | inr (from, to) ↦ (e, (has-last es e, (from, to)))
    ],
    λ (d, (here, (from, to))). elim (has-more es e d here) [
      | inl before ↦ inl (d, (before, (from, to)))
      | inr same ↦
          inr (subst (λ (z : EdgeView). IsFromRegion s a z) (sym same) from, ap (λ (z : EdgeView). z.to) same ∙ to)
    ],
  )

pub sum-like : {A B C D : Type 0} → (A ↔ C) → (B ↔ D) → (A ⊎ B) ↔ (C ⊎ D)
sum-like f g = (
  λ h. elim h [ inl a ↦ inl (f.0 a) | inr b ↦ inr (g.0 b) ],
  λ h. elim h [ inl c ↦ inl (f.1 c) | inr d ↦ inr (g.1 d) ],
)

pub pair-same : {A B : Type 0} (x y : A × B) → ((x.0 ≡ y.0) × (x.1 ≡ y.1)) ↔ (Some x ≡ Some y)
pair-same {A} {B} x y = (
  λ (p, q). let e : x ≡ y = λ i. (p i, q i) in ap (λ z. Some z) e,
  λ e. let s : x ≡ y = same_Some x y e in (ap (λ (z : A × B). z.0) s, ap (λ (z : A × B). z.1) s),
)
