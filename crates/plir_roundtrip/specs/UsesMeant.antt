-- What an operation uses is what its name means in the text.
use Rattle.std.specs.Prelude.{◌≡◌, map, List, [], ◌∷◌, Bool, Some, None, MatchOption, slice_get}
use Rattle.plir_data.specs.declared.op_set.OpSet as op_set
use Rattle.plir_names.specs.declared.names.Meaning.TheVariants.{Only}
use Rattle.plir_core.specs.declared.ptr.Ptr.{Ptr}
use Rattle.plir_core.specs.declared.ptr.Operation.{Operation as OperationKind}
use Rattle.plir_core.specs.declared.ptr.IRNode.{IRNode}
use Rattle.plir_core.specs.declared.ptr.IRNode.TheVariants.{Operation, Region, BasicBlock}
use Rattle.plir_core.specs.ContextView.{ContextView, children, kind_of, operands_of, successors_of}
use Rattle.plir_print.specs.ValueNames.{block_name, value_name}
use Rattle.plir_walk.specs.Tree.{Place}
use Rattle.plir_read_ir.specs.Mentions.{Mention, Scope, block_meant, body_in, nowhere, op_mentions, value_meant}
use Rattle.plir_roundtrip.specs.IrWritten.{front_of, ir_term_of}

-- In a scope the name of each operand of an operation means that operand, and the label of each successor means that
-- block, by what these mentions say.
pub record IsUseMeant {K A T : Type 0} (s : ContextView K A T) (ms : List Mention) (at : Scope)
    (p : Ptr OperationKind) : Type 0 where
  pub operands : map (λ v. value_meant ms (at.body, value_name s v)) (operands_of s p) ≡ map Only (operands_of s p)
  pub successors : map (λ b. block_meant ms (at.region, block_name s b)) (successors_of s p) ≡
      map Only (successors_of s p)

-- `isolated` says of a kind whether names in its regions mean nothing that stands outside
module _ {D K A T E : Type 0} (o : op_set.Ghosts D K A T E) (isolated : K → Bool) (s : ContextView K A T) where
  -- the scope of what stands in an operation, a region or a block that stands in a scope
  abbrev pub scope_in : Scope → IRNode → Scope
  scope_in at (Operation p) =
      record { body = body_in isolated at.body (Operation p) (front_of o s (kind_of s p) p); region = None }
  scope_in at (Region r) = record { body = at.body; region = Some r }
  scope_in at (BasicBlock b) = at

  -- if a node in a scope is an operation, what it uses means what is used
  abbrev pub IsMeantAt : List Mention → Scope → IRNode → Type 0
  IsMeantAt ms at (Operation p) = IsUseMeant s ms at p
  IsMeantAt ms at (Region r) = Unit {0}
  IsMeantAt ms at (BasicBlock b) = Unit {0}

  -- the same of the node at a place under one in a scope, if there is one
  abbrev pub IsMeantBelow : List Mention → Place → Scope → IRNode → Type 0
  IsMeantBelow ms [] at x = IsMeantAt ms at x
  IsMeantBelow ms (i ∷ place) at x =
      MatchOption (slice_get (children s x) i) (Unit {0}) (λ c. IsMeantBelow ms place (scope_in at x) c)

  -- what the text of an operation says of names, at the nodes that it was written of
  abbrev pub mentions_of : Ptr OperationKind → List Mention
  mentions_of p = op_mentions isolated s nowhere (Operation p) (ir_term_of o s p)

  -- each name that the text of an operation uses means the value or the block that it was written for
  abbrev pub UsesStand : Ptr OperationKind → Type 0
  UsesStand p = (place : Place) → IsMeantBelow (mentions_of p) place nowhere (Operation p)
