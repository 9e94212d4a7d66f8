-- What verified builtin operations are: the rules of the interfaces that they declare, and their own.
use Rattle.std.specs.Prelude.{ℕ, Bool, Option}
use Rattle.plir_core.specs.declared.ptr.Ptr.{Ptr}
use Rattle.plir_core.specs.declared.ptr.Operation.{Operation as OperationKind}
use Rattle.plir_core.specs.ContextView.{ContextView}
use Rattle.plir_iface.specs.Counts.{HasNRegions, HasNOpds, HasNResults}
use Rattle.plir_iface.specs.Regions.{HasSingleBlocks}
use Rattle.plir_builtin.specs.BuiltinOps.{HasFuncType, HasConstantValue}
use Rattle.plir_builtin.specs.SymbolUses.{HasTableRule}
use Rattle.plir_builtin.specs.Symbols.{HasSymbolName}

module _ {K A T : Type 0} where
  -- a module: one region with one block, a symbol table that is right, a name, no operand and no result
  pub record HasModuleRules (own_symbol own_table own_user : K → Bool)
      (uses_hold : ContextView K A T → Ptr OperationKind → Type 0) (s : ContextView K A T)
      (op : Ptr OperationKind) : Type 0 where
    pub one_region : HasNRegions 1 s op
    pub single_blocks : HasSingleBlocks s op
    pub table : HasTableRule own_symbol own_table own_user uses_hold s op
    pub named : HasSymbolName s op
    pub no_operand : HasNOpds 0 s op
    pub no_result : HasNResults 0 s op

  -- a function: one region, a name, no operand, no result, and a type of functions
  pub record HasFuncRules (s : ContextView K A T) (op : Ptr OperationKind) : Type 0 where
    pub one_region : HasNRegions 1 s op
    pub named : HasSymbolName s op
    pub no_operand : HasNOpds 0 s op
    pub no_result : HasNResults 0 s op
    pub typed : HasFuncType s op

  -- a constant: no operand, one result, and a value of the result's type
  pub record HasConstantRules (own_type : A → Option ℕ) (s : ContextView K A T) (op : Ptr OperationKind) : Type 0 where
    pub no_operand : HasNOpds 0 s op
    pub one_result : HasNResults 1 s op
    pub value : HasConstantValue own_type s op
