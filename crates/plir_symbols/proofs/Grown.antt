-- Operations that are put behind those that were reached.
use Rattle.std.proofs.Common.{◌≡◌, ◌≤◌, Option, ℕ, suc, Bool, true, false, true≢false, cond, List, [], ◌∷◌, ◌++◌, take, length}
use Rattle.std.proofs.Common.{◌⊎◌, Some, inl, inr, refl, sym, ap, subst, ◌∙◌}
use Rattle.std.specs.Prelude.{◌&&◌, nat_eq, not, slice_get}
use Rattle.std.specs.List.{list_any}
use Rattle.std.proofs.lemmas.List.{append_assoc, append-nil, take_all}
use Rattle.plir_store.specs.FilterLaws.{not-both}
use Rattle.plir_store.specs.Members.{Distinct, Has}
use Rattle.plir_store.specs.MemberLaws.{Distinct-append, Distinct-one, Has-append_cases, Has-append_left}
use Rattle.plir_store.specs.MemberLaws.{Has-append_right}
use Rattle.plir_core.specs.declared.ptr.Ptr.{Ptr}
use Rattle.plir_core.specs.declared.ptr.Operation.{Operation as OperationKind}
use Rattle.plir_walk.specs.NodeLaws.{same_ptr_tells}
use Rattle.plir_core.specs.SameValue.{same_ptr}
use Rattle.plir_symbols.specs.declared.reached.Reached.{Reached}
use Rattle.plir_symbols.specs.Reaching.{IsGrown, IsWhole, is_among, ops_of, ptr_eq}
use Rattle.plir_symbols.proofs.Edges.{take-next}

-- ---- whether an operation is one of some

pub among-has : (ps : List (Ptr OperationKind)) (p : Ptr OperationKind) → is_among ps p ≡ true → Has ps p
among-has [] p e = absurd (true≢false (sym e))
among-has (q ∷ qs) p e = elim (same_ptr_tells q p) [
  | inl h ↦ inl h.1
  | inr h ↦ inr (among-has qs p (sym (ap (λ b. cond b true (is_among qs p)) h.0) ∙ e))
]

pub has-among : (ps : List (Ptr OperationKind)) (p : Ptr OperationKind) → Has ps p → is_among ps p ≡ true
has-among [] p h = absurd h
has-among (q ∷ qs) p (inl same) = elim (same_ptr_tells q p) [
  | inl k ↦ ap (λ b. cond b true (is_among qs p)) k.0
  | inr k ↦ absurd (k.1 same)
]
has-among (q ∷ qs) p (inr more) = elim (same_ptr_tells q p) [
  | inl k ↦ ap (λ b. cond b true (is_among qs p)) k.0
  | inr k ↦ ap (λ b. cond b true (is_among qs p)) k.0 ∙ has-among qs p more
]

turn : (a b c : Bool) → cond a true (cond b true c) ≡ cond b true (cond a true c)
turn true true c = refl
turn true false c = refl
turn false b c = refl

among-behind : (ps : List (Ptr OperationKind)) (q p : Ptr OperationKind) →
    is_among (ps ++ q ∷ []) p ≡ cond (same_ptr q p) true (is_among ps p)
among-behind [] q p = refl
among-behind (r ∷ rs) q p =
    ap (λ b. cond (same_ptr r p) true b) (among-behind rs q p)
    ∙ turn (same_ptr r p) (same_ptr q p) (is_among rs p)

and-true : (b : Bool) → (b && true) ≡ b
and-true true = refl
and-true false = refl

pub eq-same : (p q : Ptr OperationKind) → ptr_eq p q ≡ same_ptr p q
eq-same p q = ap (λ b. nat_eq p.slot q.slot && b) (and-true (nat_eq p.version q.version))

pub not-no : (b : Bool) → not b ≡ false → b ≡ true
not-no true e = refl
not-no false e = absurd (true≢false e)

pub not-yes : (b : Bool) → not b ≡ true → b ≡ false
not-yes true e = absurd (true≢false (sym e))
not-yes false e = refl

-- ---- one operation is put

module _ (r r' : Reached) (p : Ptr OperationKind)
    (updates : (q : Ptr OperationKind) → list_any (ptr_eq q) r'.marks.keys ≡
    cond (ptr_eq p q) true (list_any (ptr_eq q) r.marks.keys)) where
  -- it was not there
  pub put-new : list_any (ptr_eq p) r.marks.keys ≡ false → ops_of r' ≡ ops_of r ++ p ∷ [] →
      IsGrown (λ q. q ≡ p) r r'
  put-new fresh behind = record {
    more = p ∷ [];
    behind = behind;
    only = λ q h. elim h [ inl same ↦ sym same | inr none ↦ absurd none ];
    all = λ w q same. subst (λ z. Has z q) (sym behind) (Has-append_right (ops_of r) (p ∷ []) q (inl (sym same)));
    whole = λ w. record {
      marked = λ q.
          updates q ∙ ap (λ b. cond b true (list_any (ptr_eq q) r.marks.keys)) (eq-same p q)
          ∙ ap (λ b. cond (same_ptr p q) true b) (w.marked q) ∙ sym (among-behind (ops_of r) p q)
          ∙ ap (λ ps. is_among ps q) (sym behind);
      once = subst Distinct (sym behind)
          (Distinct-append (ops_of r) (p ∷ []) w.once (Distinct-one p)
          (λ q h k. elim k [
            | inl same ↦ not-both (is_among (ops_of r) p)
                (has-among (ops_of r) p (subst (Has (ops_of r)) (sym same) h)) (sym (w.marked p) ∙ fresh)
            | inr none ↦ none
          ]));
    };
  }

  -- it was there
  pub put-again : list_any (ptr_eq p) r.marks.keys ≡ true → ops_of r' ≡ ops_of r → IsGrown (λ q. q ≡ p) r r'
  put-again there still = record {
    more = [];
    behind = still ∙ sym (append-nil (ops_of r));
    only = λ q h. absurd h;
    all = λ w q same. subst (λ z. Has z q) (sym still)
        (subst (Has (ops_of r)) (sym same) (among-has (ops_of r) p (sym (w.marked p) ∙ there)));
    whole = λ w. record {
      marked = λ q.
          updates q ∙ ap (λ b. cond b true (list_any (ptr_eq q) r.marks.keys)) (eq-same p q)
          ∙ ap (λ b. cond (same_ptr p q) true b) (w.marked q) ∙ within w q
          ∙ ap (λ ps. is_among ps q) (sym still);
      once = subst Distinct (sym still) w.once;
    };
  }
    where
      within : IsWhole r → (q : Ptr OperationKind) →
          cond (same_ptr p q) true (is_among (ops_of r) q) ≡ is_among (ops_of r) q
      within w q = elim (same_ptr_tells p q) [
        | inl h ↦ ap (λ b. cond b true (is_among (ops_of r) q)) h.0
            ∙ sym (subst (λ z. is_among (ops_of r) z ≡ true) h.1 (sym (w.marked p) ∙ there))
        | inr h ↦ ap (λ b. cond b true (is_among (ops_of r) q)) h.0
      ]

-- ---- some are put, and then others

module _ {P : Ptr OperationKind → Type 0} where
  pub grown-none : (r r' : Reached) → r' ≡ r → ((p : Ptr OperationKind) → P p → ⊥) → IsGrown P r r'
  grown-none r r' e none = record {
    more = [];
    behind = ap ops_of e ∙ sym (append-nil (ops_of r));
    only = λ p h. absurd h;
    all = λ w p h. absurd (none p h);
    whole = λ w. subst IsWhole (sym e) w;
  }

module _ {P Q : Ptr OperationKind → Type 0} where
  pub grown-as : (r r' : Reached) → ((p : Ptr OperationKind) → P p → Q p) → ((p : Ptr OperationKind) → Q p → P p) →
      IsGrown P r r' → IsGrown Q r r'
  grown-as r r' f g h = record {
    more = h.more;
    behind = h.behind;
    only = λ p k. f p (h.only p k);
    all = λ w p k. h.all w p (g p k);
    whole = h.whole;
  }

module _ {P Q R : Ptr OperationKind → Type 0} where
  pub grown-both : (r m t : Reached) → ((p : Ptr OperationKind) → R p → P p ⊎ Q p) →
      ((p : Ptr OperationKind) → P p → R p) → ((p : Ptr OperationKind) → Q p → R p) → IsGrown P r m → IsGrown Q m t →
      IsGrown R r t
  grown-both r m t f g j h k = record {
    more = h.more ++ k.more;
    behind = k.behind ∙ ap (λ ps. ps ++ k.more) h.behind ∙ append_assoc (ops_of r) h.more k.more;
    only = λ p has. elim (Has-append_cases h.more k.more p has) [
      | inl a ↦ g p (h.only p a)
      | inr a ↦ j p (k.only p a)
    ];
    all = λ w p is. elim (f p is) [
      | inl a ↦ subst (λ z. Has z p) (sym k.behind) (Has-append_left (ops_of m) k.more p (h.all w p a))
      | inr a ↦ k.all (h.whole w) p a
    ];
    whole = λ w. k.whole (h.whole w);
  }

-- ---- what a table tells of names, one after another

module _ (L : Ptr OperationKind → Type 0) (find : List ℕ → Option (Ptr OperationKind)) (names : List (List ℕ)) where
  -- it is told under one of some names
  abbrev pub IsFoundUnder : List (List ℕ) → Ptr OperationKind → Type 0
  IsFoundUnder xs q = L q × ((x : List ℕ) × Has xs x × (find x ≡ Some q))

  -- under one name more
  pub names-next : (i : ℕ) (x : List ℕ) (r m t : Reached) → slice_get names i ≡ Some x →
      IsGrown (IsFoundUnder (take i names)) r m → IsGrown (λ q. L q × (find x ≡ Some q)) m t →
      IsGrown (IsFoundUnder (take (suc i) names)) r t
  names-next i x r m t at h k =
      grown-both r m t
      (λ q f. elim (Has-append_cases (take i names) (x ∷ []) f.1.0 (subst (λ z. Has z f.1.0) more f.1.1)) [
        | inl old ↦ inl (f.0, (f.1.0, old, f.1.2))
        | inr new ↦ elim new [
          | inl same ↦ inr (f.0, ap find same ∙ f.1.2)
          | inr none ↦ absurd none
        ]
      ])
      (λ q f. (
        f.0,
        (
          f.1.0,
          subst (λ z. Has z f.1.0) (sym more) (Has-append_left (take i names) (x ∷ []) f.1.0 f.1.1),
          f.1.2,
        ),
      ))
      (λ q f. (f.0, (x, subst (λ z. Has z x) (sym more) (Has-append_right (take i names) (x ∷ []) x (inl refl)), f.1)))
      h k
    where
      more : take (suc i) names ≡ take i names ++ x ∷ []
      more = take-next names i x at

  pub names-all : (i : ℕ) (r t : Reached) → length names ≤ i → IsGrown (IsFoundUnder (take i names)) r t →
      IsGrown (IsFoundUnder names) r t
  names-all i r t past h =
      subst (λ z. IsGrown (IsFoundUnder z) r t) (take_all i names past) h
