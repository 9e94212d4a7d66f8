-- What is listed, and what waits to be done.
use Rattle.std.proofs.Common.{◌≡◌, ◌<◌, ◌+◌, ◌^◌, ℕ, arith, Bool, true, false, cond, List, [], ◌∷◌, ◌++◌, length}
use Rattle.std.proofs.Common.{◌⊎◌, inl, inr, refl, sym, ap, subst, ◌∙◌, length-append, true≢false}
use Rattle.std.specs.Prelude.{◌≢◌, ◌&&◌, nat_eq}
use Rattle.std.specs.List.{list_any}
use Rattle.plir_store.specs.Members.{Has}
use Rattle.plir_store.specs.MemberLaws.{Has-append_cases, Has-append_left, Has-append_right}
use Rattle.plir_core.specs.declared.ptr.Ptr.{Ptr}
use Rattle.plir_core.specs.declared.ptr.Operation.{Operation as OperationKind}
use Rattle.plir_core.specs.SameValue.{same_ptr}
use Rattle.plir_walk.specs.NodeLaws.{same_ptr_tells}
use Rattle.plir_folding.specs.declared.worklist.Step.{Step}
use Rattle.plir_folding.specs.declared.worklist.Step.TheVariants.{Prepare, Fold}
use Rattle.plir_folding.specs.declared.worklist.Worklist.{Worklist}
use Rattle.plir_folding.specs.Worklists.{AreOf, IsListed, IsPrepared, IsPut, WaitMore, op_of, ptr_eq}

-- ---- pointers

eq-same : (p q : Ptr OperationKind) → ptr_eq p q ≡ same_ptr p q
eq-same p q = ap (λ b. nat_eq p.slot q.slot && b) (and-true (nat_eq p.version q.version))
  where
    and-true : (b : Bool) → (b && true) ≡ b
    and-true true = refl
    and-true false = refl

eq-tells : (p q : Ptr OperationKind) → ((ptr_eq p q ≡ true) × (p ≡ q)) ⊎ ((ptr_eq p q ≡ false) × (p ≢ q))
eq-tells p q = elim (same_ptr_tells p q) [
  | inl h ↦ inl (eq-same p q ∙ h.0, h.1)
  | inr h ↦ inr (eq-same p q ∙ h.0, h.1)
]

-- ---- one more at the end

-- what stands in a list with one more at its end
Has-last : (xs : List Step) (x y : Step) → Has (xs ++ x ∷ []) y → Has xs y ⊎ (x ≡ y)
Has-last xs x y h = elim (Has-append_cases xs (x ∷ []) y h) [
  | inl k ↦ inl k
  | inr k ↦ elim k [ inl e ↦ inr e | inr none ↦ absurd none ]
]

longer : (xs : List Step) (x : Step) → length (xs ++ x ∷ []) ≡ length xs + 1
longer xs x = length-append xs (x ∷ [])

-- ---- one is put

module _ (w w' : Worklist) (p : Ptr OperationKind) where
  pub put-listed : ((q : Ptr OperationKind) → list_any (ptr_eq q) w'.listed.keys ≡
      cond (ptr_eq p q) true (list_any (ptr_eq q) w.listed.keys)) → w'.waiting.items ≡ w.waiting.items ++ Prepare p ∷ [] →
      IsPut p w w'
  put-listed updates behind = record { listed = λ q. (after q, before q); waits = behind }
    where
      either : (q : Ptr OperationKind) (b : Bool) → ptr_eq p q ≡ b → list_any (ptr_eq q) w'.listed.keys ≡
          cond b true (list_any (ptr_eq q) w.listed.keys)
      either q b e = updates q ∙ ap (λ z. cond z true (list_any (ptr_eq q) w.listed.keys)) e

      after : (q : Ptr OperationKind) → IsListed w' q → IsListed w q ⊎ (q ≡ p)
      after q h = elim (eq-tells p q) [
        | inl e ↦ inr (sym e.1)
        | inr e ↦ inl (sym (either q false e.0) ∙ h)
      ]

      or-true : (b : Bool) → cond b true true ≡ true
      or-true true = refl
      or-true false = refl

      before : (q : Ptr OperationKind) → IsListed w q ⊎ (q ≡ p) → IsListed w' q
      before q (inl h) = updates q ∙ ap (λ z. cond (ptr_eq p q) true z) h ∙ or-true (ptr_eq p q)
      before q (inr h) = elim (eq-tells p q) [
        | inl e ↦ either q true e.0
        | inr e ↦ absurd (e.1 (sym h))
      ]

-- what is listed once one was removed was listed before
pub removed-listed : (w w' : Worklist) (p : Ptr OperationKind)
    → ((q : Ptr OperationKind) → list_any (ptr_eq q) w'.listed.keys ≡
    cond (ptr_eq p q) false (list_any (ptr_eq q) w.listed.keys)) → (q : Ptr OperationKind) → IsListed w' q → IsListed w q
removed-listed w w' p updates q h = go (ptr_eq p q) (sym (updates q) ∙ h)
  where
    go : (b : Bool) → cond b false (list_any (ptr_eq q) w.listed.keys) ≡ true → IsListed w q
    go true e = absurd (true≢false (sym e))
    go false e = e

-- ---- more wait

still-listed : (w w' : Worklist) (p : Ptr OperationKind) → w'.listed.keys ≡ w.listed.keys → IsListed w' p → IsListed w p
still-listed w w' p e h = ap (λ ks. list_any (ptr_eq p) ks) (sym e) ∙ h

pub more-one : (w w' : Worklist) (p : Ptr OperationKind) → IsListed w p → w'.listed.keys ≡ w.listed.keys
    → w'.waiting.items ≡ w.waiting.items ++ Prepare p ∷ [] → WaitMore 1 w w'
more-one w w' p is same behind = record {
  same = same;
  waits = λ x h. elim (Has-last w.waiting.items (Prepare p) x (subst (λ z. Has z x) behind h)) [
    | inl k ↦ inl k
    | inr e ↦ inr (subst (λ z. IsListed w (op_of z)) e is)
  ];
  most = (let e = ap length behind ∙ longer w.waiting.items (Prepare p) in omega (arith, e));
}

-- ---- one is prepared

-- one was removed from what is listed, it waits to be folded, and then others wait
pub prepared-one : (w m t w' : Worklist) (p : Ptr OperationKind) (n : ℕ) → IsListed w p
    → ((q : Ptr OperationKind) → IsListed m q → IsListed w q) → length m.listed.keys + 1 ≡ length w.listed.keys
    → m.waiting.items ≡ w.waiting.items → t.listed.keys ≡ m.listed.keys
    → t.waiting.items ≡ m.waiting.items ++ Fold p ∷ [] → WaitMore n t w' → n < 2 ^ 64 → IsPrepared w w'
prepared-one w m t w' p n is fewer count items keys behind more small = record {
  listed = λ q h. fewer q (still-listed m t q keys (still-listed t w' q more.same h));
  waits = λ x h. elim (more.waits x h) [
    | inl k ↦ elim (Has-last m.waiting.items (Fold p) x (subst (λ z. Has z x) behind k)) [
      | inl j ↦ inl (subst (λ z. Has z x) items j)
      | inr e ↦ inr (subst (λ z. IsListed w (op_of z)) e is)
    ]
    | inr k ↦ inr (fewer (op_of x) (still-listed m t (op_of x) keys k))
  ];
  left =
      (let most = more.most in
      let listed = ap length (more.same ∙ keys) in
      let waiting = ap length behind ∙ longer m.waiting.items (Fold p) in
      let before = ap length items in
      omega (arith, most, listed, waiting, before, count, small));
}

-- ---- what holds of all

module _ (P : Ptr OperationKind → Type 0) where
  pub of-none : (w : Worklist) → w.listed.keys ≡ [] → w.waiting.items ≡ [] → AreOf P w
  of-none w bare empty = record {
    listed = λ p h. absurd (true≢false (sym h ∙ ap (λ ks. list_any (ptr_eq p) ks) bare));
    waits = λ x h. absurd (subst (λ z. Has z x) empty h);
  }

  pub of-put : (w w' : Worklist) (p : Ptr OperationKind) → AreOf P w → P p → IsPut p w w' → AreOf P w'
  of-put w w' p h holds put = record {
    listed = λ q k. elim ((put.listed q).0 k) [ inl l ↦ h.listed q l | inr e ↦ subst P (sym e) holds ];
    waits = λ x k. elim (Has-last w.waiting.items (Prepare p) x (subst (λ z. Has z x) put.waits k)) [
      | inl l ↦ h.waits x l
      | inr e ↦ subst (λ z. P (op_of z)) e holds
    ];
  }

  pub of-prepared : (w w' : Worklist) → AreOf P w → IsPrepared w w' → AreOf P w'
  of-prepared w w' h k = record {
    listed = λ q l. h.listed q (k.listed q l);
    waits = λ x l. elim (k.waits x l) [ inl y ↦ h.waits x y | inr y ↦ h.listed (op_of x) y ];
  }

  module _ (w w' : Worklist) (x : Step) (keys : w'.listed.keys ≡ w.listed.keys)
      (taken : w.waiting.items ≡ w'.waiting.items ++ x ∷ []) where
    -- one is taken: it holds of this one, and of those that are left
    pub of-taken : AreOf P w → P (op_of x)
    of-taken h = h.waits x (subst (λ z. Has z x) (sym taken) (Has-append_right w'.waiting.items (x ∷ []) x (inl refl)))

    pub of-left : AreOf P w → AreOf P w'
    of-left h = record {
      listed = λ p k. h.listed p (still-listed w w' p keys k);
      waits = λ y k. h.waits y (subst (λ z. Has z y) (sym taken) (Has-append_left w'.waiting.items (x ∷ []) y k));
    }
