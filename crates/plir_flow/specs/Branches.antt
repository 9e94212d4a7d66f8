-- The rules of branches and of successors, and how they are refused.
use Rattle.std.specs.Prelude.{◌≡◌, ◌≢◌, ◌<◌, ◌+◌, ℕ, List, [], ◌∷◌, ◌++◌, insert, remove, length, map, slice_get}
use Rattle.std.specs.Prelude.{slice_range, slice_set, Bool, true, false, ◌||◌, Option, Some, string_bytes}
use Rattle.plir_data.specs.OwnParts.{Part}
use Rattle.plir_data.specs.Dictionary.{dict_get, is_key}
use Rattle.plir_data.specs.Types.{IsLive as IsTypeLive}
use Rattle.plir_data.specs.TypeText.{type_text}
use Rattle.plir_data.specs.declared.location.VerifyErr.{VerifyErr}
use Rattle.plir_data.specs.declared.op_set.OpSet as op_set
use Rattle.plir_data.specs.declared.location.VerifyErr.TheVariants.{Refused, Memory}
use Rattle.plir_core.specs.declared.ptr.Ptr.{Ptr}
use Rattle.plir_core.specs.declared.ptr.Operation.{Operation as OperationKind}
use Rattle.plir_core.specs.declared.ptr.BasicBlock.{BasicBlock as BasicBlockKind}
use Rattle.plir_core.specs.declared.ptr.IRNode.TheVariants.{Operation}
use Rattle.plir_core.specs.declared.value.Value.{Value}
use Rattle.plir_core.specs.ContextView.{ContextView, IsLive, op_at, block_at, kind_of, result_types_of, operands_of}
use Rattle.plir_core.specs.ContextView.{successors_of}
use Rattle.plir_core.specs.ContextView.{attributes_of, location_of, arg_types_of, type_of_value}
use Rattle.plir_core.specs.Changes.{with_op_edit}
use Rattle.plir_core.specs.Held.{KeepsNodes}
use Rattle.plir_iface.specs.Verdict.{IsRefusal, IsRefusalMemoryAside}
use Rattle.plir_iface.specs.Sides.{type_in}
use Rattle.plir_flow.specs.Segments.{sizes_key}
use Rattle.plir_flow.specs.declared.branch_errors.BranchOpInterfaceVerifyErr.{BranchOpInterfaceVerifyErr}
use Rattle.plir_flow.specs.declared.branch_errors.BranchOpInterfaceVerifyErr.TheVariants.{Layout}
use Rattle.plir_flow.specs.declared.branch_errors.BranchOpInterfaceVerifyErr.TheVariants.{SuccessorOperandsMismatch}
use Rattle.plir_flow.specs.declared.branch_errors.BranchOpInterfaceVerifyErr.TheVariants.{SuccessorOperandTypeMismatch}
use Rattle.plir_flow.specs.declared.branch_errors.NSuccsVerifyErr.{NSuccsVerifyErr}
use Rattle.plir_flow.specs.declared.branch_errors.Mismatch.{Mismatch}
use Rattle.plir_flow.specs.declared.branch_errors.Mismatch.TheVariants.{Count, Differ}

-- the refusal of a layout, as that of a branch
abbrev pub in_branch : {E : Type 0} → VerifyErr E → VerifyErr (BranchOpInterfaceVerifyErr E)
in_branch (Refused loc err) = Refused loc (Layout err)
in_branch Memory = Memory

-- a range of indices: its first, and the one behind its last
abbrev pub Range : Type 0
Range = ℕ × ℕ

-- whether a key is among some
abbrev pub is_key_among : List (List ℕ) → List ℕ → Bool
is_key_among [] k = false
is_key_among (j ∷ js) k = is_key_among js k || is_key k j

-- the key of the sizes of segments is among some
abbrev pub KeepsSizes : List (List ℕ) → Type 0
KeepsSizes keys = is_key_among keys sizes_key ≡ true

-- Two lists of types are not the same: they have other lengths; or else this is the first index where they differ, with
-- the types there.
abbrev pub IsMismatch : (given wanted : List (Option ℕ)) → Mismatch → Type 0
IsMismatch given wanted (Count provided expected) = (provided ≡ length given) × (expected ≡ length wanted) ×
    (provided ≢ expected)
IsMismatch given wanted (Differ i forwarded expected) =
    (length given ≡ length wanted) × (type_in given i ≡ Some forwarded) × (type_in wanted i ≡ Some expected) ×
    (forwarded ≢ expected) × ((k : ℕ) → k < i → type_in given k ≡ type_in wanted k)

-- a mismatch is one of types, and not of numbers
abbrev pub IsOfTypes : Mismatch → Type 0
IsOfTypes (Count provided expected) = ⊥
IsOfTypes (Differ i forwarded expected) = Unit {0}

module _ {K A T : Type 0} where
  abbrev pub num_successors : ContextView K A T → Ptr OperationKind → ℕ
  num_successors s op = length (successors_of s op)

  -- the rule of the number of successors
  abbrev pub HasNSuccs : ℕ → ContextView K A T → Ptr OperationKind → Type 0
  HasNSuccs n s op = num_successors s op ≡ n

  -- it is refused with the number that is asked for and the one that is there
  abbrev pub IsNSuccsRefusal : ℕ → ContextView K A T → Ptr OperationKind → VerifyErr NSuccsVerifyErr → Type 0
  IsNSuccsRefusal n s op = IsRefusal s op (λ e. (e.0 ≡ n) × (e.1 ≡ num_successors s op))

  -- the operands in a range of indices, and their types
  abbrev pub operands_within : ContextView K A T → Ptr OperationKind → Range → List Value
  operands_within s op r = slice_range (operands_of s op) r.0 r.1

  abbrev pub types_within : ContextView K A T → Ptr OperationKind → Range → List (Option ℕ)
  types_within s op r = map (type_of_value s) (operands_within s op r)

  -- the types of a block's arguments
  abbrev pub argument_types : ContextView K A T → Ptr BasicBlockKind → List (Option ℕ)
  argument_types s b = map Some (arg_types_of s b)

  -- The types of the operands in the successor's range are, as a list, those of the block's arguments.
  abbrev pub AgreesAt : ContextView K A T → Ptr OperationKind → (forwards : ℕ → Range) → ℕ → Type 0
  AgreesAt s op forwards i = (b : Ptr BasicBlockKind) → slice_get (successors_of s op) i ≡ Some b →
      types_within s op (forwards i) ≡ argument_types s b

  -- each successor gets values of the types of its arguments
  abbrev pub AgreesThroughout : ContextView K A T → Ptr OperationKind → (forwards : ℕ → Range) → Type 0
  AgreesThroughout s op forwards = (i : ℕ) → i < num_successors s op → AgreesAt s op forwards i

  -- The rule: the layout is right, and this.
  abbrev pub HasBranchRule : (layout : Type 0) → ContextView K A T → Ptr OperationKind → (forwards : ℕ → Range) → Type 0
  HasBranchRule layout s op forwards = layout × AgreesThroughout s op forwards

  -- a successor is the first whose types do not agree, and this is how
  abbrev pub IsFirstMismatch : ContextView K A T → Ptr OperationKind → (forwards : ℕ → Range) → Mismatch → Type 0
  IsFirstMismatch s op forwards m =
      (i : ℕ) × ((b : Ptr BasicBlockKind) × ((slice_get (successors_of s op) i ≡ Some b) ×
      IsMismatch (types_within s op (forwards i)) (argument_types s b) m ×
      ((k : ℕ) → k < i → AgreesAt s op forwards k)))

  -- each successor before the first whose types do not agree gets the right ones, and that one gets as many values as
  -- it has arguments
  abbrev pub DifferInTypes : ContextView K A T → Ptr OperationKind → (forwards : ℕ → Range) → Type 0
  DifferInTypes s op forwards = (m : Mismatch) × (IsFirstMismatch s op forwards m × IsOfTypes m)

  -- the types that a mismatch names are types of the context
  abbrev pub NamesLive : ContextView K A T → Mismatch → Type 0
  NamesLive s (Count provided expected) = Unit {0}
  NamesLive s (Differ i forwarded expected) = IsTypeLive s.types forwarded × IsTypeLive s.types expected

  -- What an error reports of a mismatch: its numbers, or the texts of its types.
  abbrev pub ReportsMismatch : {E : Type 0} → (own_id : T → List ℕ) (own_body : T → List Part) →
      ContextView K A T → Mismatch → BranchOpInterfaceVerifyErr E → Type 0
  ReportsMismatch own_id own_body s (Count p x) (SuccessorOperandsMismatch provided expected) = (provided ≡ p) ×
      (expected ≡ x)
  ReportsMismatch own_id own_body s (Differ i f x) (SuccessorOperandTypeMismatch idx forwarded expected) =
      (idx ≡ i) × (string_bytes forwarded ≡ type_text own_id own_body s.types f) ×
      (string_bytes expected ≡ type_text own_id own_body s.types x)
  ReportsMismatch own_id own_body s _ _ = ⊥

  -- The layout is wrong, and this is its refusal; or it is right, and the error reports how the first successor's types
  -- do not agree.
  abbrev pub IsBranchFault : {E : Type 0} → (layout : Type 0) (layout_refusal : E → Type 0) (own_id : T → List ℕ)
      (own_body : T → List Part)
      → ContextView K A T → Ptr OperationKind → (forwards : ℕ → Range) → BranchOpInterfaceVerifyErr E → Type 0
  IsBranchFault layout layout_refusal own_id own_body s op forwards (Layout e) = (layout → ⊥) × layout_refusal e
  IsBranchFault layout layout_refusal own_id own_body s op forwards e = layout ×
      ((m : Mismatch) × (IsFirstMismatch s op forwards m × ReportsMismatch own_id own_body s m e))

  -- From s to t an operation has come to have these operands; what its successor i gets has become `values`, what the
  -- others get is the same, and beside the attributes under these keys, which describe the layout, nothing else has
  -- changed.
  pub record IsReforwarded (s t : ContextView K A T) (op : Ptr OperationKind) (keys : List (List ℕ))
      (old new : ℕ → Range)
      (i : ℕ) (operands values : List Value) : Type 0 where
    pub keeps : KeepsNodes s t
    pub ops : (q : Ptr OperationKind) → IsLive s (Operation q) → (q ≡ op → ⊥) → op_at t q ≡ op_at s q
    pub blocks : (b : Ptr BasicBlockKind) → block_at t b ≡ block_at s b
    pub kind : kind_of t op ≡ kind_of s op
    pub result_types : result_types_of t op ≡ result_types_of s op
    pub successors : successors_of t op ≡ successors_of s op
    pub location : location_of t op ≡ location_of s op
    pub attributes : (k : List ℕ) → is_key_among keys k ≡ false →
        dict_get (attributes_of t op) k ≡ dict_get (attributes_of s op) k
    pub operands_now : operands_of t op ≡ operands
    pub here : operands_within t op (new i) ≡ values
    pub others : (j : ℕ) → j < num_successors s op → j ≢ i → operands_within t op (new j) ≡ operands_within s op (old j)

  -- Its successor i gets one more value, behind the others; or one less, that for its argument at an index. What it
  -- forwards is a function of the context.
  module _ (keys : List (List ℕ)) (forwards : ContextView K A T → ℕ → Range) (s t : ContextView K A T)
      (op : Ptr OperationKind)
      (i : ℕ) where
    abbrev pub IsForwardedMore : Value → Type 0
    IsForwardedMore v =
        IsReforwarded s t op keys (forwards s) (forwards t) i (insert (operands_of s op) (forwards s i).1 v)
        (operands_within s op (forwards s i) ++ v ∷ [])

    abbrev pub IsForwardedLess : (place : ℕ) → Type 0
    IsForwardedLess place =
        IsReforwarded s t op keys (forwards s) (forwards t) i (remove (operands_of s op) ((forwards s i).0 + place))
        (remove (operands_within s op (forwards s i)) place)

  -- from s to t another value has come in the place of an operand, and nothing else has changed
  abbrev pub IsOperandReplaced : (s t : ContextView K A T) → Ptr OperationKind → ℕ → Value → Type 0
  IsOperandReplaced s t op i v = t ≡ with_op_edit s op (λ o. record o { operands = slice_set o.operands i v })

-- the refusal of a branch, at the operation's location; or memory was refused
abbrev pub IsBranchRuleRefusal : {D K A T E : Type 0} → op_set.Ghosts D K A T E →
    (layout : ContextView K A T → Type 0) (reports : ContextView K A T → E → Type 0)
    → (forwards : ContextView K A T → ℕ → Range) → ContextView K A T → Ptr OperationKind →
    VerifyErr (BranchOpInterfaceVerifyErr E) → Type 0
IsBranchRuleRefusal o layout reports forwards s op = IsRefusalMemoryAside s op
    (IsBranchFault (layout s) (reports s) o.type_id o.type_body_text s op (forwards s))
