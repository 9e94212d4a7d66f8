-- The rule of a symbol table: its symbols have names of their own, and the uses of symbols below it hold.
use Rattle.std.specs.Prelude.{◌≡◌, Bool, true, false, [], ◌∷◌, Option, Some, ◌⊎◌, string_bytes}
use Rattle.plir_data.specs.declared.op_set.OpKind.{OpKind}
use Rattle.plir_data.specs.declared.op_set.OpKind.TheVariants.{Own}
use Rattle.plir_data.specs.declared.location.Location.{Location}
use Rattle.plir_data.specs.declared.location.VerifyErr.{VerifyErr}
use Rattle.plir_data.specs.declared.location.VerifyErr.TheVariants.{Refused, Memory}
use Rattle.plir_core.specs.declared.ptr.Ptr.{Ptr}
use Rattle.plir_core.specs.declared.ptr.Operation.{Operation as OperationKind}
use Rattle.plir_core.specs.declared.ptr.Region.{Region as RegionKind}
use Rattle.plir_core.specs.declared.ptr.IRNode.TheVariants.{Operation, Region}
use Rattle.plir_core.specs.ContextView.{ContextView, children, kind_of, location_of}
use Rattle.plir_walk.specs.declared.config.TheConstants.{WALKCONFIG_PREORDER_FORWARD as pre_forward}
use Rattle.plir_walk.specs.Tree.{Tree, IsProperlyUnder, NodeBefore}
use Rattle.plir_builtin.specs.declared.symbol_table_op.SymbolTableInterfaceErr.{SymbolTableInterfaceErr}
use Rattle.plir_builtin.specs.declared.symbol_table_op.SymbolTableInterfaceErr.TheVariants.{SymbolRedefined, Unnamed}
use Rattle.plir_builtin.specs.declared.symbol_table_op.SymbolTableInterfaceErr.TheVariants.{Use}
use Rattle.plir_builtin.specs.Symbols.{IsGood, symbols}
use Rattle.plir_builtin.specs.Refusals.{IsUnnamedFirst, IsRepeatedAt}
use Rattle.std.specs.declared.ops.ControlFlow.{ControlFlow}
use Rattle.std.specs.declared.ops.ControlFlow.TheVariants.{Continue, Break}
use Rattle.plir_walk.specs.declared.interruptible.WalkContinue.{WalkContinue}
use Rattle.plir_walk.specs.declared.interruptible.WalkContinue.TheVariants.{Advance, Skip}
use Rattle.plir_builtin.specs.Table.{Tables}
use Rattle.plir_builtin.specs.Agree.{AllAgree}
use Rattle.plir_builtin.specs.TableWalks.{is_table_at}

-- whether operations of a kind are symbol users; `own` answers for the user's own kinds
abbrev pub is_user_kind : {K : Type 0} → (own : K → Bool) → Option (OpKind K) → Bool
is_user_kind own (Some (Own k)) = own k
is_user_kind own _ = false

-- Whether the uses of an operation are right, as an op set says; and what may be reported of those that are not: a
-- location, and an error.
abbrev pub UseRule : Type 0 → Type 0 → Type 0 → Type 1
UseRule K A T = ContextView K A T → Ptr OperationKind → Type 0

abbrev pub UseRefusal : Type 0 → Type 0 → Type 0 → Type 0 → Type 1
UseRefusal K A T E = ContextView K A T → Ptr OperationKind → Location → E → Type 0

-- uses are refused only where they do not hold, and by what may be reported of them, memory aside
abbrev pub IsUseRefusal : {E : Type 0} → Type 0 → (Location → E → Type 0) → VerifyErr E → Type 0
IsUseRefusal holds refusal (Refused loc err) = (holds → ⊥) × refusal loc err
IsUseRefusal holds refusal Memory = Unit {0}

-- p is called as the table of op is walked to its end without a skip: it is below the one region of op, and no
-- table below that region is above it.
pub record IsInTable (t : Tree) (is_table : Ptr OperationKind → Bool) (op p : Ptr OperationKind) : Type 0 where
  pub region : Ptr RegionKind
  pub one_region : t (Operation op) ≡ Region region ∷ []
  pub below : IsProperlyUnder t (Region region) (Operation p)
  pub no_table : (q : Ptr OperationKind) → IsProperlyUnder t (Region region) (Operation q)
      → IsProperlyUnder t (Operation q) (Operation p) → is_table q ≡ false

module _ {K A T E : Type 0} (own_symbol own_table own_user : K → Bool) (holds : UseRule K A T)
    (refusal : UseRefusal K A T E) where
  -- A call that checks one operation, from the tables c to c': it never skips. Where the tables agree, they agree
  -- afterwards; it advances only past uses that hold, and breaks only at a symbol user whose uses are refused, with
  -- what is reported of them.
  pub record IsUseCheck {B : Type 0} (reported : B → VerifyErr E) (s : ContextView K A T) (c : Tables)
      (p : Ptr OperationKind)
      (a : ControlFlow B WalkContinue) (c' : Tables) : Type 0 where
    pub never_skips : a ≡ Continue Skip → ⊥
    pub agree : AllAgree own_symbol own_table s c → AllAgree own_symbol own_table s c'
    pub advances : AllAgree own_symbol own_table s c → a ≡ Continue Advance
        → is_user_kind own_user (kind_of s p) ≡ true → holds s p
    pub breaks : AllAgree own_symbol own_table s c → (b : B) → a ≡ Break b
        → (is_user_kind own_user (kind_of s p) ≡ true) × IsUseRefusal (holds s p) (refusal s p) (reported b)

module _ {K A T : Type 0} (own_table : K → Bool) (s : ContextView K A T) where
  -- a symbol user that is called as the table of t is walked
  pub record IsUserInTable (own_user : K → Bool) (t p : Ptr OperationKind) : Type 0 where
    pub handed : IsInTable (children s) (is_table_at own_table s) t p
    pub user : is_user_kind own_user (kind_of s p) ≡ true

  -- the uses of every symbol user that is called hold
  abbrev pub AllUsesHold : (own_user : K → Bool) → UseRule K A T → Ptr OperationKind → Type 0
  AllUsesHold own_user holds t = (p : Ptr OperationKind) → IsUserInTable own_user t p → holds s p

module _ {K A T : Type 0} (own_symbol own_table own_user : K → Bool) (holds : UseRule K A T) (s : ContextView K A T)
    (t : Ptr OperationKind) where
  -- the rule of a symbol table
  pub record HasTableRule : Type 0 where
    pub good : IsGood own_symbol own_table s t
    pub uses : AllUsesHold own_table s own_user holds t

-- What a refusal reports: a symbol repeats the name of an earlier one, and it stands there; or a symbol has no name.
abbrev pub IsSymbolsRefusal : {K A T E : Type 0} → (own_symbol : K → Bool) → ContextView K A T → Ptr OperationKind
    → VerifyErr (SymbolTableInterfaceErr E) → Type 0
IsSymbolsRefusal own_symbol s t (Refused loc (SymbolRedefined n)) =
    (o : Ptr OperationKind) × IsRepeatedAt (string_bytes n) o (symbols own_symbol s t) × (location_of s o ≡ Some loc)
IsSymbolsRefusal own_symbol s t (Refused loc (Unnamed e)) =
    IsUnnamedFirst (symbols own_symbol s t) × (location_of s t ≡ Some loc)
IsSymbolsRefusal own_symbol s t (Refused loc (Use e)) = ⊥
IsSymbolsRefusal own_symbol s t Memory = Unit {0}

module _ {K A T E : Type 0} (own_table own_user : K → Bool) (holds : UseRule K A T)
    (refusal : UseRefusal K A T E) (s : ContextView K A T) (t : Ptr OperationKind) where
  -- Of the symbol users that are called as the table of t is walked, op is the first one, in the order of that
  -- walk, whose uses don't hold; and this location and this error may be reported of them.
  pub record IsFirstUseRefusal (loc : Location) (err : E) : Type 0 where
    pub op : Ptr OperationKind
    pub is_user : IsUserInTable own_table s own_user t op
    pub fails : holds s op → ⊥
    pub reported : refusal s op loc err
    pub before : (q : Ptr OperationKind) → IsUserInTable own_table s own_user t q
        → NodeBefore pre_forward (children s) (Region is_user.handed.region) (Operation q) (Operation op) → holds s q

  -- it is reported, memory aside
  abbrev pub IsUsesRefusal : VerifyErr E → Type 0
  IsUsesRefusal (Refused loc err) = IsFirstUseRefusal loc err
  IsUsesRefusal Memory = Unit {0}

  -- the same, as a table reports it
  abbrev pub IsUsesRefusalAtTable : VerifyErr (SymbolTableInterfaceErr E) → Type 0
  IsUsesRefusalAtTable (Refused loc (Use err)) = IsFirstUseRefusal loc err
  IsUsesRefusalAtTable (Refused loc (SymbolRedefined n)) = ⊥
  IsUsesRefusalAtTable (Refused loc (Unnamed e)) = ⊥
  IsUsesRefusalAtTable Memory = Unit {0}

-- what the refusal of a use is reported as
abbrev pub use_reported : {E : Type 0} → VerifyErr E → VerifyErr (SymbolTableInterfaceErr E)
use_reported (Refused loc err) = Refused loc (Use err)
use_reported Memory = Memory

module _ {K A T E : Type 0} (own_symbol own_table own_user : K → Bool) (holds : UseRule K A T)
    (refusal : UseRefusal K A T E) (s : ContextView K A T) (t : Ptr OperationKind) where
  -- Of a table: that, or the symbols are right, and the first use that does not hold is reported.
  abbrev pub IsTableRuleRefusal : VerifyErr (SymbolTableInterfaceErr E) → Type 0
  IsTableRuleRefusal e =
      IsSymbolsRefusal own_symbol s t e
      ⊎ (IsGood own_symbol own_table s t
      × IsUsesRefusalAtTable own_table own_user holds refusal s t e)
