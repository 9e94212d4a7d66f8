-- What is listed, and what waits.
use Rattle.std.proofs.Common.{◌≡◌, Bool, true, false, cond, List, [], ◌∷◌, ◌++◌}
use Rattle.std.proofs.Common.{◌⊎◌, inl, inr, refl, sym, ap, subst, ◌∙◌}
use Rattle.std.specs.Prelude.{◌≢◌, ◌&&◌, nat_eq}
use Rattle.std.specs.List.{list_any}
use Rattle.plir_store.specs.Members.{Has}
use Rattle.plir_store.specs.MemberLaws.{Has-append_cases, Has-append_left, Has-append_right}
use Rattle.plir_core.specs.declared.ptr.Ptr.{Ptr}
use Rattle.plir_core.specs.declared.ptr.Operation.{Operation as OperationKind}
use Rattle.plir_walk.specs.NodeLaws.{same_ptr_tells}
use Rattle.plir_core.specs.SameValue.{same_ptr}
use Rattle.plir_passes.specs.declared.worklist.Worklist.{Worklist}
use Rattle.plir_passes.specs.Worklists.{AreListed, IsListed, WaitAgain, Waits, ptr_eq}

-- ---- pointers

and-true : (b : Bool) → (b && true) ≡ b
and-true true = refl
and-true false = refl

eq-same : (p q : Ptr OperationKind) → ptr_eq p q ≡ same_ptr p q
eq-same p q = ap (λ b. nat_eq p.slot q.slot && b) (and-true (nat_eq p.version q.version))

eq-tells : (p q : Ptr OperationKind) → ((ptr_eq p q ≡ true) × (p ≡ q)) ⊎ ((ptr_eq p q ≡ false) × (p ≢ q))
eq-tells p q = elim (same_ptr_tells p q) [
  | inl h ↦ inl (eq-same p q ∙ h.0, h.1)
  | inr h ↦ inr (eq-same p q ∙ h.0, h.1)
]

or-true : (b : Bool) → cond b true true ≡ true
or-true true = refl
or-true false = refl

-- ---- one is put

-- what has one more at its end
Has-last : (ps : List (Ptr OperationKind)) (p q : Ptr OperationKind) → Has (ps ++ p ∷ []) q → Has ps q ⊎ (q ≡ p)
Has-last ps p q h = elim (Has-append_cases ps (p ∷ []) q h) [
  | inl k ↦ inl k
  | inr k ↦ elim k [ inl e ↦ inr (sym e) | inr none ↦ absurd none ]
]

last-Has : (ps : List (Ptr OperationKind)) (p q : Ptr OperationKind) → Has ps q ⊎ (q ≡ p) → Has (ps ++ p ∷ []) q
last-Has ps p q (inl k) = Has-append_left ps (p ∷ []) q k
last-Has ps p q (inr e) = Has-append_right ps (p ∷ []) q (inl (sym e))

module _ (w w' : Worklist) (p : Ptr OperationKind) where
  pub put-listed : ((q : Ptr OperationKind) → list_any (ptr_eq q) w'.listed.keys ≡
      cond (ptr_eq p q) true (list_any (ptr_eq q) w.listed.keys)) → w'.waiting.items ≡ w.waiting.items ++ p ∷ [] →
      AreListed (λ q. q ≡ p) w w'
  put-listed updates behind = record {
    listed = λ q. (after q, before q);
    waits = λ q. (
      λ h. Has-last w.waiting.items p q (subst (λ z. Has z q) behind h),
      λ h. subst (λ z. Has z q) (sym behind) (last-Has w.waiting.items p q h),
    );
  }
    where
      either : (q : Ptr OperationKind) (b : Bool) → ptr_eq p q ≡ b → list_any (ptr_eq q) w'.listed.keys ≡
          cond b true (list_any (ptr_eq q) w.listed.keys)
      either q b e = updates q ∙ ap (λ z. cond z true (list_any (ptr_eq q) w.listed.keys)) e

      after : (q : Ptr OperationKind) → IsListed w' q → IsListed w q ⊎ (q ≡ p)
      after q h = elim (eq-tells p q) [
        | inl e ↦ inr (sym e.1)
        | inr e ↦ inl (sym (either q false e.0) ∙ h)
      ]

      before : (q : Ptr OperationKind) → IsListed w q ⊎ (q ≡ p) → IsListed w' q
      before q (inl h) = updates q ∙ ap (λ z. cond (ptr_eq p q) true z) h ∙ or-true (ptr_eq p q)
      before q (inr h) = elim (eq-tells p q) [
        | inl e ↦ either q true e.0
        | inr e ↦ absurd (e.1 (sym h))
      ]

  module _ (same : w'.listed.keys ≡ w.listed.keys) where
    pub again-listed : IsListed w p → w'.waiting.items ≡ w.waiting.items ++ p ∷ [] → WaitAgain (λ q. q ≡ p) w w'
    again-listed is behind = record {
      same = same;
      waits = λ q. (
        λ h. elim (Has-last w.waiting.items p q (subst (λ z. Has z q) behind h)) [
          | inl k ↦ inl k
          | inr e ↦ inr (e, subst (IsListed w) (sym e) is)
        ],
        λ h. subst (λ z. Has z q) (sym behind) (last-Has w.waiting.items p q (first q h)),
      );
    }
      where
        first : (q : Ptr OperationKind) → Waits w q ⊎ ((q ≡ p) × IsListed w q) → Waits w q ⊎ (q ≡ p)
        first q (inl k) = inl k
        first q (inr k) = inr k.0

    pub again-other : (IsListed w p → ⊥) → w'.waiting.items ≡ w.waiting.items → WaitAgain (λ q. q ≡ p) w w'
    again-other away still = record {
      same = same;
      waits = λ q. (
        λ h. inl (subst (λ z. Has z q) still h),
        λ h. subst (λ z. Has z q) (sym still) (first q h),
      );
    }
      where
        first : (q : Ptr OperationKind) → Waits w q ⊎ ((q ≡ p) × IsListed w q) → Waits w q
        first q (inl k) = k
        first q (inr k) = absurd (away (subst (IsListed w) k.0 k.1))

-- ---- some are put, and then others

still-listed : (w w' : Worklist) (p : Ptr OperationKind) → w'.listed.keys ≡ w.listed.keys → IsListed w' p → IsListed w p
still-listed w w' p e h = ap (λ ks. list_any (ptr_eq p) ks) (sym e) ∙ h

module _ {P Q R : Ptr OperationKind → Type 0} (w m t : Worklist) (cases : (p : Ptr OperationKind) → R p → P p ⊎ Q p)
    (first : (p : Ptr OperationKind) → P p → R p) (second : (p : Ptr OperationKind) → Q p → R p) where
  pub listed-both : AreListed P w m → AreListed Q m t → AreListed R w t
  listed-both h k = record {
    listed = λ p. (
      λ x. elim ((k.listed p).0 x) [
        | inl y ↦ elim ((h.listed p).0 y) [ inl z ↦ inl z | inr z ↦ inr (first p z) ]
        | inr y ↦ inr (second p y)
      ],
      back p,
    );
    waits = λ p. (
      λ x. elim ((k.waits p).0 x) [
        | inl y ↦ elim ((h.waits p).0 y) [ inl z ↦ inl z | inr z ↦ inr (first p z) ]
        | inr y ↦ inr (second p y)
      ],
      back-waits p,
    );
  }
    where
      back : (p : Ptr OperationKind) → IsListed w p ⊎ R p → IsListed t p
      back p (inl x) = (k.listed p).1 (inl ((h.listed p).1 (inl x)))
      back p (inr x) = elim (cases p x) [
        | inl y ↦ (k.listed p).1 (inl ((h.listed p).1 (inr y)))
        | inr y ↦ (k.listed p).1 (inr y)
      ]

      back-waits : (p : Ptr OperationKind) → Waits w p ⊎ R p → Waits t p
      back-waits p (inl x) = (k.waits p).1 (inl ((h.waits p).1 (inl x)))
      back-waits p (inr x) = elim (cases p x) [
        | inl y ↦ (k.waits p).1 (inl ((h.waits p).1 (inr y)))
        | inr y ↦ (k.waits p).1 (inr y)
      ]

  pub again-both : WaitAgain P w m → WaitAgain Q m t → WaitAgain R w t
  again-both h k = record {
    same = k.same ∙ h.same;
    waits = λ p. (
      λ x. elim ((k.waits p).0 x) [
        | inl y ↦ elim ((h.waits p).0 y) [ inl z ↦ inl z | inr z ↦ inr (first p z.0, z.1) ]
        | inr y ↦ inr (second p y.0, still-listed w m p h.same y.1)
      ],
      back p,
    );
  }
    where
      back : (p : Ptr OperationKind) → Waits w p ⊎ (R p × IsListed w p) → Waits t p
      back p (inl x) = (k.waits p).1 (inl ((h.waits p).1 (inl x)))
      back p (inr x) = elim (cases p x.0) [
        | inl y ↦ (k.waits p).1 (inl ((h.waits p).1 (inr (y, x.1))))
        | inr y ↦ (k.waits p).1 (inr (y, still-listed m w p (sym h.same) x.1))
      ]

module _ {P : Ptr OperationKind → Type 0} (w w' : Worklist) (e : w' ≡ w)
    (none : (p : Ptr OperationKind) → P p → ⊥) where
  pub listed-none : AreListed P w w'
  listed-none = subst (AreListed P w) (sym e) (record {
    listed = λ p. (λ h. inl h, λ h. elim h [ inl k ↦ k | inr k ↦ absurd (none p k) ]);
    waits = λ p. (λ h. inl h, λ h. elim h [ inl k ↦ k | inr k ↦ absurd (none p k) ]);
  })

  pub again-none : WaitAgain P w w'
  again-none = subst (WaitAgain P w) (sym e) (record {
    same = refl;
    waits = λ p. (λ h. inl h, λ h. elim h [ inl k ↦ k | inr k ↦ absurd (none p k.0) ]);
  })

-- the same, told of the same operations in other words
module _ {P Q : Ptr OperationKind → Type 0} (w w' : Worklist) (there : (p : Ptr OperationKind) → P p → Q p)
    (back : (p : Ptr OperationKind) → Q p → P p) where
  pub listed-as : AreListed P w w' → AreListed Q w w'
  listed-as h = listed-both w w w' (λ p x. inr (back p x)) (λ p x. absurd x) there (listed-none w w refl (λ p x. x)) h

  pub again-as : WaitAgain P w w' → WaitAgain Q w w'
  again-as h = again-both w w w' (λ p x. inr (back p x)) (λ p x. absurd x) there (again-none w w refl (λ p x. x)) h

-- ---- one is taken

-- what waited waits, or is the one that was taken
pub taken-cases : (ps qs : List (Ptr OperationKind)) (p q : Ptr OperationKind) → qs ≡ ps ++ p ∷ [] → Has qs q →
    Has ps q ⊎ (q ≡ p)
taken-cases ps qs p q e h = Has-last ps p q (subst (λ z. Has z q) e h)

pub taken-before : (ps qs : List (Ptr OperationKind)) (p q : Ptr OperationKind) → qs ≡ ps ++ p ∷ [] →
    Has ps q ⊎ (q ≡ p) → Has qs q
taken-before ps qs p q e h = subst (λ z. Has z q) (sym e) (last-Has ps p q h)
