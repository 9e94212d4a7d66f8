-- Operations whose texts can be read, and tell all that they hold.
use Rattle.std.specs.Prelude.{◌≡◌, ℕ, ◌<◌, ◌≤◌, List, [], ◌∷◌, length, All, false, Option, Some, None}
use Rattle.std.specs.List.{list_any}
use Rattle.plir_data.specs.AttrView.{AttrView, leaf, given_names}
use Rattle.plir_data.specs.Dictionary.{dict_get, is_key, IsDictionary}
use Rattle.plir_data.specs.TypeTree.{tree_of}
use Rattle.plir_data.specs.Types.{TypeView}
use Rattle.plir_data.specs.declared.op_set.OpKind.{OpKind}
use Rattle.plir_data.specs.declared.op_set.OpKind.TheVariants.{Module, Func, Constant}
use Rattle.plir_data.specs.declared.op_set.OpSet as op_set
use Rattle.plir_data.specs.Keys.{names_key, value_key}
use Rattle.plir_core.specs.declared.ptr.Ptr.{Ptr}
use Rattle.plir_core.specs.declared.ptr.Operation.{Operation as OperationKind}
use Rattle.plir_core.specs.declared.ptr.BasicBlock.{BasicBlock as BlockKind}
use Rattle.plir_core.specs.declared.ptr.IRNode.{IRNode}
use Rattle.plir_core.specs.declared.ptr.IRNode.TheVariants.{Operation, BasicBlock}
use Rattle.plir_core.specs.declared.value.DefiningEntity.{DefiningEntity}
use Rattle.plir_core.specs.declared.value.DefiningEntity.TheVariants.{Op, Block}
use Rattle.plir_core.specs.ContextView.{ContextView, children, kind_of, operands_of, successors_of, result_types_of}
use Rattle.plir_core.specs.ContextView.{attributes_of}
use Rattle.plir_core.specs.ContextView.{label_of, block_attributes_of, types_from}
use Rattle.plir_attr_text.specs.Writable.{IsBuiltin, IsWritable, IsNameOrMark}
use Rattle.plir_walk.specs.GivenNames.{names_at, name_at}
use Rattle.plir_walk.specs.Tree.{IsUnder}
use Rattle.plir_builtin.specs.BuiltinOps.{value_of}
use Rattle.plir_print.specs.HeaderAttrs.{HasHeader}
use Rattle.plir_read.specs.OpTerms.{op_levels}
use Rattle.plir_roundtrip.specs.Written.{op_term_of}

-- An attribute of a module or a function can be written; names are left out of the text, so they stand under their key
-- alone.
abbrev pub IsEntryReadable : {A T : Type 0} → List (TypeView T) → (key : List ℕ) → AttrView A → Type 0
IsEntryReadable types key (leaf (given_names ns)) = key ≡ names_key
IsEntryReadable types key x = IsWritable types x

-- nothing stands under other keys than these
abbrev pub HoldsOnly : {A : Type 0} → (keys : List (List ℕ)) → List (List ℕ × AttrView A) → Type 0
HoldsOnly keys es = (k : List ℕ) → list_any (λ l. is_key k l) keys ≡ false → dict_get es k ≡ None

module _ {K A T : Type 0} (s : ContextView K A T) where
  -- the results of an operation, or the arguments of a block, have builtin types, and names that are identifiers, if
  -- any
  pub record AreValuesReadable (e : DefiningEntity) : Type 0 where
    pub types : All (λ handle. IsBuiltin (tree_of s.types handle)) (types_from s e)
    pub names : (i : ℕ) → i < length (types_from s e) → IsNameOrMark (name_at (names_at s e) i)

  -- A module or a function: it has no results and one region, and its text has all its attributes but names.
  pub record IsBodyReadable (p : Ptr OperationKind) : Type 0 where
    pub results : result_types_of s p ≡ []
    pub region : IRNode
    pub body : children s (Operation p) ≡ region ∷ []
    pub dictionary : IsDictionary (attributes_of s p)
    pub entries : All (λ e. IsEntryReadable s.types e.0 e.1) (attributes_of s p)

  -- A constant: it has no region, and holds a value that can be written and the name of its result.
  pub record IsConstantReadable (p : Ptr OperationKind) : Type 0 where
    pub regions : children s (Operation p) ≡ []
    pub value : (x : AttrView A) → value_of s p ≡ Some x → IsWritable s.types x
    pub only : HoldsOnly (value_key ∷ names_key ∷ []) (attributes_of s p)

  abbrev pub IsKindReadable : Option (OpKind K) → Ptr OperationKind → Type 0
  IsKindReadable (Some Module) p = IsBodyReadable p
  IsKindReadable (Some Func) p = IsBodyReadable p
  IsKindReadable (Some Constant) p = IsConstantReadable p
  IsKindReadable _ p = ⊥

  -- a module, a function or a constant, with what its header shows, and without operands and successors
  pub record IsOpReadable (p : Ptr OperationKind) : Type 0 where
    pub header : HasHeader s p
    pub kind : IsKindReadable (kind_of s p) p
    pub results : AreValuesReadable (Op p)
    pub operands : operands_of s p ≡ []
    pub successors : successors_of s p ≡ []

  -- a block that holds its label, an identifier, if any, and its arguments with their names
  pub record IsBlockReadable (b : Ptr BlockKind) : Type 0 where
    pub label : IsNameOrMark (label_of s b)
    pub arguments : AreValuesReadable (Block b)
    pub only : HoldsOnly (names_key ∷ []) (block_attributes_of s b)

-- An operation that can be read back from its text: so can each operation and each block at or under it, and as it is
-- written it has at most 200 levels.
pub record IsReadable {D K A T E : Type 0} (o : op_set.Ghosts D K A T E) (s : ContextView K A T)
    (p : Ptr OperationKind) :
    Type 0 where
  pub ops : (q : Ptr OperationKind) → IsUnder (children s) (Operation p) (Operation q) → IsOpReadable s q
  pub blocks : (b : Ptr BlockKind) → IsUnder (children s) (Operation p) (BasicBlock b) → IsBlockReadable s b
  pub levels : op_levels (op_term_of o s p) ≤ 200
