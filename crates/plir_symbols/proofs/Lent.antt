-- A table that a collection lends, and that is kept, is put back.
use Rattle.std.proofs.Common.{◌≡◌, Bool, true≢false, Option, Some, None, sym, ap, subst, refl, ◌∙◌}
use Rattle.std.specs.Prelude.{IfSome, IsSome}
use Rattle.std.specs.FinMap.{get, insert}
use Rattle.plir_core.specs.declared.ptr.Ptr.{Ptr}
use Rattle.plir_core.specs.declared.ptr.Operation.{Operation as OperationKind}
use Rattle.plir_core.specs.declared.ptr.IRNode.TheVariants.{Operation}
use Rattle.plir_core.specs.ContextView.{ContextView, IsLive}
use Rattle.plir_core.specs.Standing.{IsStanding}
use Rattle.plir_walk.specs.Thinned.{IsThinned}
use Rattle.plir_builtin.specs.Table.{Table, Tables}
use Rattle.plir_builtin.specs.Symbols.{body, IsGood}
use Rattle.plir_builtin.specs.Agree.{Agrees, AgreesAsLent, AllAgree, AreGivenOut}
use Rattle.plir_symbols.specs.SweptSymbols.{AreScansLeft}
use Rattle.plir_symbols.specs.Sweeping.{IsTableKept}
use Rattle.plir_symbols.proofs.Bodies.{body-live}
use Rattle.plir_symbols.proofs.Pointers.{insert-has}
use Rattle.plir_symbols.proofs.Scans.{scans-left}

some-is : {X : Type 0} (o : Option X) → IsSome o → (x : X) × (o ≡ Some x)
some-is None h = absurd (true≢false (sym h))
some-is (Some x) h = (x, refl)

-- The table `tab` is lent for p out of the tables c, the context goes from s to t, and the table to u.
module _ {K A T : Type 0} (own own_table : K → Bool) (s : ContextView K A T) (c : Tables) (p : Ptr OperationKind)
    (tab : Table) (lent : AgreesAsLent own own_table s c p tab) where
  -- it is ready
  pub lent-ready : IsLive s (Operation p) → (tab.op ≡ p) × IsLive s (Operation tab.op) × IsSome (body s tab.op)
  lent-ready l = (lent.0, subst (λ q. IsLive s (Operation q)) (sym lent.0) l, lent.1.good.body)

  pub lent-good : IsGood own own_table s p
  lent-good = subst (IsGood own own_table s) lent.0 lent.1.good

  module _ (t : ContextView K A T) (u : Table) (kept : IsTableKept own own_table s tab t u) where
    pub kept-good : IsGood own own_table t p
    kept-good = subst (IsGood own own_table t) (kept.op ∙ lent.0) (kept.agrees lent.1).good

    module _ (n : Tables) (put : n ≡ insert c p u) where
      pub kept-agree : AllAgree own own_table t n
      kept-agree =
          subst (AllAgree own own_table t) (sym put)
          (subst (λ q. AllAgree own own_table t (insert c q u)) lent.0
          (kept.all_agree c (subst (λ q. AllAgree own own_table s (insert c q tab)) (sym lent.0) lent.2)))

-- A table that is lent and isn't ready was cached, and is put back as it was.
module _ {K A T : Type 0} (own own_table : K → Bool) (s : ContextView K A T) (c : Tables) (p : Ptr OperationKind)
    (tab : Table) (live : IsLive s (Operation p)) where
  pub unready-same : IfSome (get c p) (λ u. tab ≡ u) → (get c p ≡ None → (tab.op ≡ p) × Agrees own own_table s tab) →
      ((tab.op ≡ p) × IsLive s (Operation tab.op) × IsSome (body s tab.op) → ⊥) → insert c p tab ≡ c
  unready-same cached made unready = at (get c p) refl cached
    where
      at : (o : Option Table) → get c p ≡ o → IfSome o (λ u. tab ≡ u) → insert c p tab ≡ c
      at (Some u) e h = insert-has c p tab (e ∙ ap Some (sym h))
      at None e h = (let m = made e in
          absurd (unready (m.0, subst (λ q. IsLive s (Operation q)) (sym m.0) live, m.1.good.body)))

-- What was given out: by the table's own operation alone.
module _ {K A T : Type 0} (own own_table : K → Bool) (s : ContextView K A T) (c : Tables) (p : Ptr OperationKind)
    (tab : Table) (is : tab.op ≡ p) (t : ContextView K A T) (u : Table)
    (kept : IsTableKept own own_table s tab t u) where
  pub kept-given : (n : Tables) → n ≡ insert c p u → AreGivenOut s (insert c p tab) → AreGivenOut t n
  kept-given n put given =
      subst (AreGivenOut t) (sym put)
      (subst (λ q. AreGivenOut t (insert c q u)) is
      (kept.given c (subst (λ q. AreGivenOut s (insert c q tab)) (sym is) given)))

-- scans of a good table, where its body stayed
module _ {K A T : Type 0} (own own_table : K → Bool) (s t : ContextView K A T) (p : Ptr OperationKind) where
  pub good-scans : IsThinned s t → IsStanding t → body t p ≡ body s p → IsGood own own_table s p
      → AreScansLeft own s p t
  good-scans thin wt same good =
      let b = some-is (body s p) good.body in
      scans-left own s t p b.0 thin b.1 (same ∙ b.1) (body-live t p b.0 wt (same ∙ b.1)) good.apart
