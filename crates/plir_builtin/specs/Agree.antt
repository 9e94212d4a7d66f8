-- Tables that agree with the bodies that they stand for.
use Rattle.std.specs.Prelude.{◌≡◌, ℕ, Bool, true, List, Some, None, IsSome, option_map, ◌⊎◌}
use Rattle.std.specs.FinMap as map
use Rattle.plir_core.specs.declared.ptr.Ptr.{Ptr}
use Rattle.plir_core.specs.declared.ptr.Operation.{Operation as OperationKind}
use Rattle.plir_core.specs.declared.ptr.IRNode.TheVariants.{Operation}
use Rattle.plir_core.specs.ContextView.{ContextView, IsLive, given_out}
use Rattle.plir_builtin.specs.Table.{Table, Tables}
use Rattle.plir_builtin.specs.Symbols.{IsGood, body, scan}

module _ {K A T : Type 0} (own_symbol own_table : K → Bool) where
  -- the table's operation is good, and the table has each name as a scan of the body finds it
  pub record Agrees (s : ContextView K A T) (t : Table) : Type 0 where
    pub good : IsGood own_symbol own_table s t.op
    pub names : (x : List ℕ) → map.get t.names x ≡ scan own_symbol s t.op x

  -- Each cached table whose own operation is live, or that is cached for a live operation, is cached for its own
  -- operation and agrees.
  abbrev pub AllAgree : ContextView K A T → Tables → Type 0
  AllAgree s c = (p : Ptr OperationKind) (t : Table) → map.get c p ≡ Some t →
      IsLive s (Operation t.op) ⊎ IsLive s (Operation p) → (t.op ≡ p) × Agrees s t

  -- an edit takes the context from s to s' and the table from t to t': if the table agreed, it agrees
  abbrev pub KeepsAgreement : ContextView K A T → Table → ContextView K A T → Table → Type 0
  KeepsAgreement s t s' t' = Agrees s t → Agrees s' t'

  -- and where all tables agreed with this one cached for its operation, all agree with the edited one in its place
  abbrev pub KeepsAllAgree : ContextView K A T → Table → ContextView K A T → Table → Type 0
  KeepsAllAgree s t s' t' = (c : Tables) → AllAgree s (map.insert c t.op t) → AllAgree s' (map.insert c t.op t')

  -- the table t is lent for p out of c: it is that operation's, it agrees, and with it in its place all tables agree
  abbrev pub AgreesAsLent : ContextView K A T → Tables → Ptr OperationKind → Table → Type 0
  AgreesAsLent s c p t = (t.op ≡ p) × Agrees s t × AllAgree s (map.insert c p t)

  -- a new table is cached for p, which agrees
  abbrev pub IsNewlyCached : ContextView K A T → Tables → Ptr OperationKind → Tables → Type 0
  IsNewlyCached s c p c' = (t : Table) × (c' ≡ map.insert c p t) × (t.op ≡ p) × Agrees s t

  -- a table is cached for p: the one that was, else a new one, which agrees; all else is cached as it was
  abbrev pub IsBrought : ContextView K A T → Tables → Ptr OperationKind → Tables → Type 0
  IsBrought s c p c' = (IsSome (map.get c p) → c' ≡ c) × (map.get c p ≡ None → IsNewlyCached s c p c')

  -- the table that is cached for p belongs to p, and agrees
  abbrev pub IsCachedFor : ContextView K A T → Tables → Ptr OperationKind → Type 0
  IsCachedFor s c p = (t : Table) × (map.get c p ≡ Some t) × (t.op ≡ p) × Agrees s t

module _ {K A T : Type 0} where
  -- the table that is cached for p is p's own, and p has a body
  abbrev pub IsReady : ContextView K A T → Tables → Ptr OperationKind → Type 0
  IsReady s c p = (option_map (λ t. t.op) (map.get c p) ≡ Some p) × IsSome (body s p)

  -- Each cached table is cached for an operation that was given out, and so was its own operation. (A table that is
  -- cached for a pointer that is still to be given out would speak of an operation that is still to be made.)
  abbrev pub AreGivenOut : ContextView K A T → Tables → Type 0
  AreGivenOut s c = (p : Ptr OperationKind) (t : Table) → map.get c p ≡ Some t → (given_out s (Operation p) ≡ true) ×
      (given_out s (Operation t.op) ≡ true)

  -- an edit takes the context from s to s' and the table from t to t': where all tables were cached for what was given
  -- out with this one among them, they are with the edited one in its place
  abbrev pub KeepsGivenOut : ContextView K A T → Table → ContextView K A T → Table → Type 0
  KeepsGivenOut s t s' t' = (c : Tables) → AreGivenOut s (map.insert c t.op t) → AreGivenOut s' (map.insert c t.op t')
