-- What the builtin operations hold, and the trees that their constructors make.
use Rattle.std.specs.Prelude.{◌≡◌, ℕ, List, [], ◌∷◌, Option, None, Some, codes, option_and_then, unwrap_or, MatchOption}
use Rattle.std.specs.Prelude.{slice_get}
use Rattle.std.specs.Prelude.{◌+◌, ◌-◌, ◌<◌, ◌≤◌, ◌^◌, ◌⊎◌}
use Rattle.plir_data.specs.AttrView.{AttrView, leaf, identifier, type_of}
use Rattle.plir_data.specs.AttrCalls.{attr_type, type_in_attr}
use Rattle.plir_data.specs.Dictionary.{dict_get, dict_put}
use Rattle.plir_data.specs.Types.{TypeView, IsMarked, function, is_function, unit, type_at}
use Rattle.plir_data.specs.declared.op_set.OpKind.TheVariants.{Module, Func, Constant, ForwardRef}
use Rattle.plir_data.specs.Keys.{func_type_key, symbol_key, value_key}
use Rattle.plir_core.specs.declared.ptr.Ptr.{Ptr}
use Rattle.plir_core.specs.declared.ptr.Operation.{Operation as OperationKind}
use Rattle.plir_core.specs.declared.ptr.Region.{Region as RegionKind}
use Rattle.plir_core.specs.declared.ptr.BasicBlock.{BasicBlock as BasicBlockKind}
use Rattle.plir_core.specs.declared.ptr.IRNode.{IRNode}
use Rattle.plir_core.specs.declared.ptr.IRNode.TheVariants.{Operation, Region, BasicBlock}
use Rattle.plir_store.specs.Table.{next_slot}
use Rattle.plir_core.specs.Changes.{with_op, with_block, with_block_last}
use Rattle.plir_core.specs.Contents.{OpView, BlockView, op_view}
use Rattle.plir_core.specs.Nodes.{ptr_at}
use Rattle.plir_core.specs.Room.{IsFullForOp}
use Rattle.plir_core.specs.ContextView.{ContextView, attributes_of, result_types_of, first_child, children, op_at}
use Rattle.plir_core.specs.ContextView.{block_at}
use Rattle.plir_core.specs.ContextView.{limit, num_live}

-- the attributes of a new module, by its name, and those of a new function, by its name and its type
abbrev pub module_attributes : {A : Type 0} → List ℕ → List (List ℕ × AttrView A)
module_attributes name = dict_put [] symbol_key (leaf (identifier name))

abbrev pub func_attributes : {A : Type 0} → List ℕ → ℕ → List (List ℕ × AttrView A)
func_attributes name ty = dict_put (dict_put [] symbol_key (leaf (identifier name))) func_type_key (leaf (type_of ty))

-- what a block holds that has a label, if it has one, arguments of these types and no attribute; so the blocks of a new
-- module and of a new function
abbrev pub block_view : {A : Type 0} → Option (List ℕ) → (arg_types : List ℕ) → BlockView A
block_view label arg_types = record { label = label; arg_types = arg_types; attributes = [] }

abbrev pub module_block : {A : Type 0} → BlockView A
module_block = block_view None []

abbrev pub func_block : {A : Type 0} → (arguments : List ℕ) → BlockView A
func_block arguments = block_view (Some (codes "entry")) arguments

-- no room for an operation with one region that holds one block: the limit would be passed, or slot numbers are spent
abbrev pub IsFullForOneBlock : {K A T : Type 0} → ContextView K A T → Type 0
IsFullForOneBlock s = (limit s < num_live s + 3) ⊎ (IsFullForOp s.nodes 1 ⊎ (2 ^ 32 - 1 ≤ next_slot s.nodes.blocks))

-- a handle names a type of functions, with arguments of these types
abbrev pub HasArguments : {T : Type 0} → List (TypeView T) → ℕ → List ℕ → Type 0
HasArguments types ty arguments = (results : List ℕ) × (type_at types ty ≡ Some (function arguments results))

-- the context in which a new block was made, and put last into a region
abbrev pub with_first_block : {K A T : Type 0} → ContextView K A T → Ptr RegionKind → BlockView A → ContextView K A T
with_first_block s region held = let u = with_block s held in with_block_last u
    (ptr_at u.nodes.blocks (next_slot s.nodes.blocks)) region

module _ {K A T : Type 0} where
  -- An operation has one region, which holds one block, in which nothing stands; this is what operation and block hold.
  pub record HoldsOneBlock (s : ContextView K A T) (op : Ptr OperationKind) (held : OpView K A)
      (block_held : BlockView A) :
      Type 0 where
    pub region : Ptr RegionKind
    pub block : Ptr BasicBlockKind
    pub holds : op_at s op ≡ Some held
    pub regions : children s (Operation op) ≡ Region region ∷ []
    pub blocks : children s (Region region) ≡ BasicBlock block ∷ []
    pub block_holds : block_at s block ≡ Some block_held
    pub empty : children s (BasicBlock block) ≡ []

  -- From s to t an operation was made with one region, then a block, which was put into the region, and nothing else
  -- was done: so each of the three has the next number of its kind.
  pub record IsMadeWithBlock (s t : ContextView K A T) (held : OpView K A) (block_held : BlockView A) : Type 0 where
    pub region : Ptr RegionKind
    pub only_region : children (with_op s held 1)
        (Operation (ptr_at (with_op s held 1).nodes.ops (next_slot s.nodes.ops)))
        ≡ Region region ∷ []
    pub after : t ≡ with_first_block (with_op s held 1) region block_held

  -- a new module has a name, and its block has no label and no argument
  abbrev pub IsNewModule : ContextView K A T → Ptr OperationKind → (name : List ℕ) → Type 0
  IsNewModule s op name = HoldsOneBlock s op (op_view Module [] [] [] (module_attributes name)) module_block

  -- a new function has a name and a type of functions, and the arguments of its block, labelled `entry`, have the types
  -- of the type's
  pub record IsNewFunc (s : ContextView K A T) (op : Ptr OperationKind) (name : List ℕ) (ty : ℕ) : Type 0 where
    pub arguments : List ℕ
    pub typed : HasArguments s.types ty arguments
    pub tree : HoldsOneBlock s op (op_view Func [] [] [] (func_attributes name ty)) (func_block arguments)

  -- the same of how a module and a function are made
  abbrev pub IsModuleMade : (s t : ContextView K A T) → (name : List ℕ) → Type 0
  IsModuleMade s t name = IsMadeWithBlock s t (op_view Module [] [] [] (module_attributes name)) module_block

  abbrev pub IsFuncMade : (s t : ContextView K A T) → (name : List ℕ) (ty : ℕ) → Type 0
  IsFuncMade s t name ty = (arguments : List ℕ) × (HasArguments s.types ty arguments ×
      IsMadeWithBlock s t (op_view Func [] [] [] (func_attributes name ty)) (func_block arguments))

  -- a new constant has a value, and one result of the value's type; `own_type` gives the type of the user's own
  -- attributes
  pub record IsNewConstant (own_type : A → Option ℕ) (s : ContextView K A T) (op : Ptr OperationKind)
      (value : AttrView A) :
      Type 0 where
    pub type : ℕ
    pub typed : attr_type own_type value ≡ Some type
    pub holds : op_at s op ≡ Some (op_view Constant (type ∷ []) [] [] (dict_put [] value_key value))
    pub no_regions : children s (Operation op) ≡ []

  -- a new forward reference has one result of the unit type, and nothing else
  pub record IsNewForwardRef (s : ContextView K A T) (op : Ptr OperationKind) : Type 0 where
    pub type : ℕ
    pub typed : type_at s.types type ≡ Some unit
    pub holds : op_at s op ≡ Some (op_view ForwardRef (type ∷ []) [] [] [])
    pub no_regions : children s (Operation op) ≡ []

module _ {K A T : Type 0} where
  -- the type under a function's key, if an attribute of a type stands there
  abbrev pub func_type_of : ContextView K A T → Ptr OperationKind → Option ℕ
  func_type_of s op = option_and_then type_in_attr (dict_get (attributes_of s op) func_type_key)

  -- that type; 0, if there is none
  abbrev pub func_type : ContextView K A T → Ptr OperationKind → ℕ
  func_type s op = unwrap_or (func_type_of s op) 0

  -- The rule of functions: an attribute of a type stands under the key, and the type is one that `FunctionType` makes.
  abbrev pub HasFuncType : ContextView K A T → Ptr OperationKind → Type 0
  HasFuncType s op = MatchOption (func_type_of s op) ⊥ (IsMarked is_function s.types)

  -- the first block of the first region, if there is one
  abbrev pub entry_of : ContextView K A T → Ptr OperationKind → Option IRNode
  entry_of s op = option_and_then (first_child s) (first_child s (Operation op))

  -- the value of a constant, if there is one
  abbrev pub value_of : ContextView K A T → Ptr OperationKind → Option (AttrView A)
  value_of s op = dict_get (attributes_of s op) value_key

  -- The rule of constants: a value is there, it has a type, and that is the type of the result.
  pub record HasConstantValue (own_type : A → Option ℕ) (s : ContextView K A T) (op : Ptr OperationKind) : Type 0 where
    pub value : AttrView A
    pub type : ℕ
    pub there : value_of s op ≡ Some value
    pub typed : attr_type own_type value ≡ Some type
    pub result : slice_get (result_types_of s op) 0 ≡ Some type
