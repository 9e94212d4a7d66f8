-- How builtin operations break the rules of their interfaces: the refusal is that of the first rule that is broken, in
-- the order in which the rules stand here; those before it hold. Memory is wanting only behind them too.
use Rattle.std.specs.Prelude.{◌≡◌, ⊤, ℕ, Bool, List, Option, IsSome, string_bytes}
use Rattle.plir_data.specs.OwnParts.{Part}
use Rattle.plir_data.specs.declared.location.VerifyErr.{VerifyErr}
use Rattle.plir_data.specs.declared.location.VerifyErr.TheVariants.{Refused, Memory}
use Rattle.plir_core.specs.declared.ptr.Ptr.{Ptr}
use Rattle.plir_core.specs.declared.ptr.Operation.{Operation as OperationKind}
use Rattle.plir_core.specs.ContextView.{ContextView}
use Rattle.plir_iface.specs.Counts.{HasNRegions, HasNOpds, HasNResults}
use Rattle.plir_iface.specs.CountRefusals.{IsNRegionsRefusal, IsNOpdsRefusal, IsNResultsRefusal}
use Rattle.plir_iface.specs.Regions.{HasSingleBlocks, IsSingleBlocksRefusal}
use Rattle.plir_iface.specs.Verdict.{IsRefusal}
use Rattle.plir_builtin.specs.BuiltinOps.{HasFuncType, HasConstantValue, value_of}
use Rattle.plir_builtin.specs.ConstantFaults.{IsConstantFault}
use Rattle.plir_builtin.specs.ResultNames.{result_name}
use Rattle.plir_builtin.specs.SymbolUses.{HasTableRule, IsTableRuleRefusal, UseRule, UseRefusal}
use Rattle.plir_builtin.specs.Symbols.{HasSymbolName}
use Rattle.plir_iface.specs.declared.counts.NRegionsVerifyErr.{NRegionsVerifyErr}
use Rattle.plir_iface.specs.declared.counts.NOpdsVerifyErr.{NOpdsVerifyErr}
use Rattle.plir_iface.specs.declared.counts.NResultsVerifyErr.{NResultsVerifyErr}
use Rattle.plir_iface.specs.declared.blocks.SingleBlockRegionVerifyErr.{SingleBlockRegionVerifyErr}
use Rattle.plir_builtin.specs.declared.symbols.SymbolOpInterfaceErr.{SymbolOpInterfaceErr}
use Rattle.plir_builtin.specs.declared.func_op.FuncOpTypeErr.{FuncOpTypeErr}
use Rattle.plir_builtin.specs.declared.op_verify_err.OpVerifyErr.{OpVerifyErr}
use Rattle.plir_builtin.specs.declared.op_verify_err.OpVerifyErr.TheVariants.{NRegions, SingleBlockRegion, SymbolTable}
use Rattle.plir_builtin.specs.declared.op_verify_err.OpVerifyErr.TheVariants.{SymbolOp, NOpds, NResults, FuncType}
use Rattle.plir_builtin.specs.declared.op_verify_err.OpVerifyErr.TheVariants.{ConstantValue, ForwardRefExistence}

module _ {K A T : Type 0} (s : ContextView K A T) (op : Ptr OperationKind) where
  -- One rule is broken, and reported: the number of regions, of operands or of results is another than n; a region has
  -- not one block; the name is wanting; the type of functions is wanting.
  abbrev pub IsRegionsRefusal : ℕ → VerifyErr NRegionsVerifyErr → Type 0
  IsRegionsRefusal n v = (HasNRegions n s op → ⊥) × IsNRegionsRefusal n s op v

  abbrev pub IsOperandsRefusal : ℕ → VerifyErr NOpdsVerifyErr → Type 0
  IsOperandsRefusal n v = (HasNOpds n s op → ⊥) × IsNOpdsRefusal n s op v

  abbrev pub IsResultsRefusal : ℕ → VerifyErr NResultsVerifyErr → Type 0
  IsResultsRefusal n v = (HasNResults n s op → ⊥) × IsNResultsRefusal n s op v

  abbrev pub IsBlocksRefusal : (own_id : K → List ℕ) → VerifyErr SingleBlockRegionVerifyErr → Type 0
  IsBlocksRefusal own_id v = (HasSingleBlocks s op → ⊥) × IsSingleBlocksRefusal own_id s op v

  abbrev pub IsNameRefusal : VerifyErr SymbolOpInterfaceErr → Type 0
  IsNameRefusal v = (HasSymbolName s op → ⊥) × IsRefusal s op (λ e. ⊤) v

  abbrev pub IsFuncTypeRefusal : VerifyErr FuncOpTypeErr → Type 0
  IsFuncTypeRefusal v = (HasFuncType s op → ⊥) × IsRefusal s op (λ e. ⊤) v

  module _ {E : Type 0} (own_id : K → List ℕ) (own_symbol own_table own_user : K → Bool) (uses_hold : UseRule K A T)
      (use_refusal : UseRefusal K A T E) where
    -- of a module
    abbrev pub IsModuleRefusal : VerifyErr (OpVerifyErr E) → Type 0
    IsModuleRefusal (Refused l (NRegions e)) = IsRegionsRefusal 1 (Refused l e)
    IsModuleRefusal (Refused l (SingleBlockRegion e)) = HasNRegions 1 s op × IsBlocksRefusal own_id (Refused l e)
    IsModuleRefusal (Refused l (SymbolTable e)) =
        HasNRegions 1 s op × HasSingleBlocks s op × IsTableRuleRefusal own_symbol own_table own_user uses_hold
        use_refusal s
        op (Refused l e)
    IsModuleRefusal (Refused l (SymbolOp e)) =
        HasNRegions 1 s op × HasSingleBlocks s op × HasTableRule own_symbol own_table own_user uses_hold s op ×
        IsNameRefusal (Refused l e)
    IsModuleRefusal (Refused l (NOpds e)) =
        HasNRegions 1 s op × HasSingleBlocks s op × HasTableRule own_symbol own_table own_user uses_hold s op ×
        HasSymbolName s op × IsOperandsRefusal 0 (Refused l e)
    IsModuleRefusal (Refused l (NResults e)) =
        HasNRegions 1 s op × HasSingleBlocks s op × HasTableRule own_symbol own_table own_user uses_hold s op ×
        HasSymbolName s op × HasNOpds 0 s op × IsResultsRefusal 0 (Refused l e)
    IsModuleRefusal (Refused l _) = ⊥
    -- (for what is looked up in its table)
    IsModuleRefusal Memory = HasNRegions 1 s op × HasSingleBlocks s op

  -- of a function
  abbrev pub IsFuncRefusal : {E : Type 0} → VerifyErr (OpVerifyErr E) → Type 0
  IsFuncRefusal (Refused l (NRegions e)) = IsRegionsRefusal 1 (Refused l e)
  IsFuncRefusal (Refused l (SymbolOp e)) = HasNRegions 1 s op × IsNameRefusal (Refused l e)
  IsFuncRefusal (Refused l (NOpds e)) = HasNRegions 1 s op × HasSymbolName s op × IsOperandsRefusal 0 (Refused l e)
  IsFuncRefusal (Refused l (NResults e)) = HasNRegions 1 s op × HasSymbolName s op × HasNOpds 0 s op ×
      IsResultsRefusal 0 (Refused l e)
  IsFuncRefusal (Refused l (FuncType e)) = HasNRegions 1 s op × HasSymbolName s op × HasNOpds 0 s op ×
      HasNResults 0 s op × IsFuncTypeRefusal (Refused l e)
  IsFuncRefusal (Refused l _) = ⊥
  IsFuncRefusal Memory = ⊥

  module _ {E : Type 0} (attr_own_id : A → List ℕ) (attr_own_type : A → Option ℕ) (own_id : T → List ℕ)
      (own_body : T → List Part) where
    -- of a constant
    abbrev pub IsConstantOpRefusal : VerifyErr (OpVerifyErr E) → Type 0
    IsConstantOpRefusal (Refused l (NOpds e)) = IsOperandsRefusal 0 (Refused l e)
    IsConstantOpRefusal (Refused l (NResults e)) = HasNOpds 0 s op × IsResultsRefusal 1 (Refused l e)
    IsConstantOpRefusal (Refused l (ConstantValue e)) =
        HasNOpds 0 s op × HasNResults 1 s op × IsRefusal s op
        (IsConstantFault attr_own_id attr_own_type own_id own_body s op) (Refused l e)
    IsConstantOpRefusal (Refused l _) = ⊥
    -- (for the texts that tell what is wrong with its value)
    IsConstantOpRefusal Memory =
        HasNOpds 0 s op × HasNResults 1 s op × (HasConstantValue attr_own_type s op → ⊥) × IsSome (value_of s op)

  -- of a forward reference, which none is right
  abbrev pub IsForwardRefRefusal : {E : Type 0} → VerifyErr (OpVerifyErr E) → Type 0
  IsForwardRefRefusal (Refused l (NOpds e)) = IsOperandsRefusal 0 (Refused l e)
  IsForwardRefRefusal (Refused l (NResults e)) = HasNOpds 0 s op × IsResultsRefusal 1 (Refused l e)
  IsForwardRefRefusal (Refused l (ForwardRefExistence e)) =
      HasNOpds 0 s op × HasNResults 1 s op × IsRefusal s op (λ x. string_bytes x.0 ≡ result_name s op 0) (Refused l e)
  IsForwardRefRefusal (Refused l _) = ⊥
  -- (for the name)
  IsForwardRefRefusal Memory = HasNOpds 0 s op × HasNResults 1 s op
