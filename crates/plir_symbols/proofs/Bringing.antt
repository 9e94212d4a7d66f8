-- Tables that are brought, one after another.
use Rattle.std.proofs.Common.{◌≡◌, ℕ, Bool, List, Option, Some, None, IsSome, ◌⊎◌, inl, inr}
use Rattle.std.proofs.Common.{◌<◌, suc, take, get_or, [], ◌∷◌, length, arith, refl, sym, ap, subst, ◌∙◌}
use Rattle.std.proofs.Math.Seq.{take-suc}
use Rattle.std.specs.FinMap.{get}
use Rattle.std.specs.Ordering.{eq_by_cmp}
use Rattle.std.proofs.lemmas.Bool.{cases_Bool, cases_lt}
use Rattle.std.proofs.lemmas.Option.{none-some, same_Some}
use Rattle.plir_store.specs.FilterLaws.{not-both}
use Rattle.plir_store.specs.Members.{Has}
use Rattle.plir_store.specs.MemberLaws.{Has-append_cases}
use Rattle.plir_core.specs.declared.ptr.Ptr.{Ptr}
use Rattle.plir_core.specs.declared.ptr.Operation.{Operation as OperationKind}
use Rattle.plir_core.specs.ContextView.{ContextView}
use Rattle.plir_builtin.specs.Maps.{ptr_cmp}
use Rattle.plir_builtin.specs.Table.{Table, Tables}
use Rattle.plir_builtin.specs.Agree.{Agrees, IsBrought}
use Rattle.plir_core.specs.Above.{climb}
use Rattle.plir_builtin.specs.Nearest.{IsNearest, IsAnsweredNearest, IsAnswerOf, op_over}
use Rattle.plir_symbols.specs.CachedTables.{AreBrought, IsNearestCached}
use Rattle.plir_symbols.proofs.Pointers.{ptr_same, get-put, get-other}

module _ {K A T : Type 0} (own own_table : K → Bool) (s : ContextView K A T) where
  pub brought-none : (asked : Ptr OperationKind → Type 0) (c d : Tables) → d ≡ c →
      AreBrought own_table s own asked c d
  brought-none asked c d e p = inl (ap (λ z. get z p) e)

  pub brought-more : (asked also : Ptr OperationKind → Type 0) (c d : Tables) →
      ((p : Ptr OperationKind) → asked p → also p) → AreBrought own_table s own asked c d →
      AreBrought own_table s own also c d
  brought-more asked also c d f h p = elim (h p) [
    | inl e ↦ inl e
    | inr k ↦ inr (k.0, f p k.1, k.2)
  ]

  pub brought-both : (asked : Ptr OperationKind → Type 0) (c d e : Tables) → AreBrought own_table s own asked c d →
      AreBrought own_table s own asked d e → AreBrought own_table s own asked c e
  brought-both asked c d e h k p = elim (h p) [
    | inl f ↦ elim (k p) [
      | inl g ↦ inl (g ∙ f)
      | inr g ↦ inr (sym f ∙ g.0, g.1, g.2)
    ]
    | inr f ↦ elim (k p) [
      | inl g ↦ inr (f.0, f.1, (f.2.0, g ∙ f.2.1, f.2.2, f.2.3))
      | inr g ↦ absurd (none-some f.2.0 (sym g.0 ∙ f.2.1))
    ]
  ]

  -- where none is cached afterwards none was before
  pub absent-before : (asked : Ptr OperationKind → Type 0) (c d : Tables) → AreBrought own_table s own asked c d →
      (p : Ptr OperationKind) → get d p ≡ None → get c p ≡ None
  absent-before asked c d h p e = elim (h p) [ inl f ↦ sym f ∙ e | inr k ↦ k.0 ]

  -- and what was cached is
  pub cached-after : (asked : Ptr OperationKind → Type 0) (c d : Tables) → AreBrought own_table s own asked c d →
      (n : Ptr OperationKind) → IsNearestCached own_table s c n → IsNearestCached own_table s d n
  cached-after asked c d h n k p near = elim (h p) [
    | inl f ↦ subst IsSome (sym f) (k p near)
    | inr f ↦ subst IsSome (sym f.2.1) refl
  ]

  brought-one : (c d : Tables) (p : Ptr OperationKind) (asked : Ptr OperationKind → Type 0) → asked p →
      IsBrought own own_table s c p d → AreBrought own_table s own asked c d
  brought-one c d p asked a h q = at (get c p) refl
    where
      at : (o : Option Table) → get c p ≡ o → (get d q ≡ get c q) ⊎
          ((get c q ≡ None) × asked q × ((t : Table) × (get d q ≡ Some t) × (t.op ≡ q) × Agrees own own_table s t))
      at (Some t) e = inl (ap (λ z. get z q) (h.0 (subst IsSome (sym e) refl)))
      at None e = (let m = h.1 e in elim (cases_Bool (eq_by_cmp ptr_cmp q p)) [
        | inl f ↦ (let is = ptr_same q p f in subst (λ z. (get d z ≡ get c z) ⊎
            ((get c z ≡ None) × asked z × ((t : Table) × (get d z ≡ Some t) × (t.op ≡ z) × Agrees own own_table s t))) (sym is)
            (inr (e, a, (m.0, ap (λ z. get z p) m.1 ∙ get-put c p m.0, m.2, m.3))))
        | inr f ↦ inl (ap (λ z. get z q) m.1 ∙ get-other c p q m.0 f)
      ])

  -- the nearest table is one
  pub one-nearest : (n t u : Ptr OperationKind) → IsNearest own_table s n (Some t) → IsNearest own_table s n (Some u) →
      t ≡ u
  one-nearest n t u h k = elim (cases_lt h.0 k.0) [
    | inl less ↦ absurd (not-both _ h.2 (k.3 h.0 t less h.1))
    | inr up ↦ elim (cases_lt k.0 h.0) [
      | inl less ↦ absurd (not-both _ k.2 (h.3 k.0 u less k.1))
      | inr down ↦ (let same : h.0 ≡ k.0 = omega (arith, up, down) in
          same_Some t u (sym h.1 ∙ ap (λ j. climb (op_over s) j (Some n)) same ∙ k.1))
    ]
  ]

  module _ (c d : Tables) (n : Ptr OperationKind) (x : List ℕ) (r : Option (Ptr OperationKind))
      (h : IsAnsweredNearest own own_table s c d n x r) where
    pub answered-brought : AreBrought own_table s own (λ p. IsNearest own_table s n (Some p)) c d
    answered-brought = at h.0 h.1 h.2
      where
        at : (o : Option (Ptr OperationKind)) → IsNearest own_table s n o → IsAnswerOf own own_table s c d x o r →
            AreBrought own_table s own (λ p. IsNearest own_table s n (Some p)) c d
        at None near k = brought-none (λ p. IsNearest own_table s n (Some p)) c d k.1
        at (Some p) near k = brought-one c d p (λ q. IsNearest own_table s n (Some q)) near k.0

    pub answered-cached : IsNearestCached own_table s d n
    answered-cached t near = at h.0 h.1 h.2
      where
        at : (o : Option (Ptr OperationKind)) → IsNearest own_table s n o → IsAnswerOf own own_table s c d x o r →
            IsSome (get d t)
        at None none k = absurd (not-both _ near.2 (none near.0 t near.1))
        at (Some p) there k = subst (λ q. IsSome (get d q)) (one-nearest n p t there near) (in-place (get c p) refl)
          where
            in-place : (v : Option Table) → get c p ≡ v → IsSome (get d p)
            in-place (Some v) e = subst IsSome (sym (ap (λ z. get z p) (k.0.0 (subst IsSome (sym e) refl)) ∙ e)) refl
            in-place None e = (let m = k.0.1 e in subst IsSome (sym (ap (λ z. get z p) m.1 ∙ get-put c p m.0)) refl)

  -- the nearest tables of the users up to a place are cached, and that of the next one is then
  pub users-cached : (asked : Ptr OperationKind → Type 0) (c d : Tables) (ps : List (Ptr OperationKind)) (i : ℕ)
      (n : Ptr OperationKind) → i < length ps → AreBrought own_table s own asked c d →
      ((p : Ptr OperationKind) → Has (take i ps) p → IsNearestCached own_table s c p) →
      IsNearestCached own_table s d (get_or ps i n) → (p : Ptr OperationKind) → Has (take (suc i) ps) p →
      IsNearestCached own_table s d p
  users-cached asked c d ps i n below h before now p has =
      elim (Has-append_cases (take i ps) (get_or ps i n ∷ []) p
      (subst (λ z. Has z p) (take-suc ps i n below) has)) [
        | inl k ↦ cached-after asked c d h p (before p k)
        | inr k ↦ elim k [
          | inl same ↦ subst (IsNearestCached own_table s d) same now
          | inr none ↦ absurd none
        ]
      ]
