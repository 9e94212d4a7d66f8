-- Operations of any kind whose texts stand for them.
use Rattle.std.specs.Prelude.{◌≡◌, ℕ, ◌≤◌, List, ◌∷◌, ◌++◌, true, All, Option, Some}
use Rattle.plir_data.specs.Dictionary.{IsDictionary}
use Rattle.plir_data.specs.Identifier.{is_identifier}
use Rattle.plir_data.specs.declared.op_set.OpKind.{OpKind}
use Rattle.plir_data.specs.declared.op_set.OpKind.TheVariants.{Own}
use Rattle.plir_data.specs.declared.op_set.OpSet as op_set
use Rattle.plir_core.specs.declared.ptr.Ptr.{Ptr}
use Rattle.plir_core.specs.declared.ptr.Operation.{Operation as OperationKind}
use Rattle.plir_core.specs.declared.ptr.BasicBlock.{BasicBlock as BlockKind}
use Rattle.plir_core.specs.declared.ptr.IRNode.{IRNode}
use Rattle.plir_core.specs.declared.ptr.IRNode.TheVariants.{Operation, BasicBlock}
use Rattle.plir_core.specs.declared.value.DefiningEntity.TheVariants.{Op}
use Rattle.plir_core.specs.declared.value.Value.{Value}
use Rattle.plir_core.specs.ContextView.{ContextView, children, kind_of, attributes_of, operands_of, successors_of}
use Rattle.plir_core.specs.ContextView.{label_of}
use Rattle.plir_attr_text.specs.Writable.{IsNameOrMark}
use Rattle.plir_walk.specs.Tree.{IsUnder}
use Rattle.plir_read_ir.specs.IrGrammar.{own_kind}
use Rattle.plir_read_ir.specs.IrTerms.{op_levels}
use Rattle.plir_roundtrip.specs.Readable.{AreValuesReadable, IsBlockReadable, IsEntryReadable, IsOpReadable}
use Rattle.plir_roundtrip.specs.ReadableParts.{IsValueReadable}
use Rattle.plir_roundtrip.specs.IrWritten.{ir_term_of}

-- an id as texts have it: two names with a point between them
pub record IsId (id : List ℕ) : Type 0 where
  pub dialect : List ℕ
  pub name : List ℕ
  pub is_dialect : is_identifier dialect ≡ true
  pub is_name : is_identifier name ≡ true
  pub parts : id ≡ dialect ++ 46 ∷ name

-- `find` says which kind of the set an id names
module _ {D K A T E : Type 0} (o : op_set.Ghosts D K A T E) (find : List ℕ → Option K) (s : ContextView K A T) where
  -- a value that is used has a builtin type, and a name that is an identifier, if any
  abbrev pub IsUseReadable : Value → Type 0
  IsUseReadable v = IsValueReadable s v.entity v.index

  -- An operation of one's own kind: its id names that kind, its text has all its attributes but names, and what it
  -- makes and uses can be named.
  pub record IsOwnReadable (k : K) (p : Ptr OperationKind) : Type 0 where
    pub id : IsId (o.kind_id k)
    pub found : own_kind find (o.kind_id k) ≡ Some k
    pub dictionary : IsDictionary (attributes_of s p)
    pub entries : All (λ e. IsEntryReadable s.types e.0 e.1) (attributes_of s p)
    pub results : AreValuesReadable s (Op p)
    pub operands : All IsUseReadable (operands_of s p)
    pub successors : All (λ b. IsNameOrMark (label_of s b)) (successors_of s p)

  -- a builtin operation can be read as by the reader of builtin operations
  abbrev pub IsReadableAs : Option (OpKind K) → Ptr OperationKind → Type 0
  IsReadableAs (Some (Own k)) p = IsOwnReadable k p
  IsReadableAs _ p = IsOpReadable s p

  abbrev pub IsIrOpReadable : Ptr OperationKind → Type 0
  IsIrOpReadable p = IsReadableAs (kind_of s p) p

  -- each operation and each block at or under a node can be read
  pub record AreIrReadable (x : IRNode) : Type 0 where
    pub ops : (q : Ptr OperationKind) → IsUnder (children s) x (Operation q) → IsIrOpReadable q
    pub blocks : (b : Ptr BlockKind) → IsUnder (children s) x (BasicBlock b) → IsBlockReadable s b

  -- An operation whose text stands for it: each operation and each block at or under it can be read, and as it is
  -- written it has at most 200 levels.
  pub record HasReadableText (p : Ptr OperationKind) : Type 0 where
    pub nodes : AreIrReadable (Operation p)
    pub levels : op_levels (ir_term_of o s p) ≤ 200
