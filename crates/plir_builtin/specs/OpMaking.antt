-- What the constructors of builtin operations share. No public clause cites this module.
use Rattle.std.specs.Prelude.{◌≡◌, [], ◌∷◌, Some}
use Rattle.plir_core.specs.declared.ptr.Ptr.{Ptr}
use Rattle.plir_core.specs.declared.ptr.Operation.{Operation as OperationKind}
use Rattle.plir_core.specs.declared.ptr.Region.{Region as RegionKind}
use Rattle.plir_core.specs.declared.ptr.BasicBlock.{BasicBlock as BasicBlockKind}
use Rattle.plir_core.specs.declared.ptr.IRNode.TheVariants.{Operation, Region, BasicBlock}
use Rattle.plir_core.specs.Contents.{BlockView}
use Rattle.plir_core.specs.Grown.{IsGrown}
use Rattle.plir_core.specs.ContextView.{ContextView, IsLive, children, parent_of, op_at, block_at}
use Rattle.plir_builtin.specs.BuiltinOps.{with_first_block}

-- From s to t the one region of an operation, in which nothing stood, has got a new block, and nothing else has
-- changed.
pub record GivesBlock {K A T : Type 0} (s t : ContextView K A T) (op : Ptr OperationKind)
    (held : BlockView A) : Type 0 where
  pub region : Ptr RegionKind
  pub block : Ptr BasicBlockKind
  pub region_live : IsLive s (Region region)
  pub only_region : children s (Operation op) ≡ Region region ∷ []
  pub after : t ≡ with_first_block s region held
  pub over : parent_of s (Region region) ≡ Some (Operation op)
  pub grown : IsGrown s.nodes t.nodes (Region region)
  pub holds : op_at t op ≡ op_at s op
  pub regions : children t (Operation op) ≡ Region region ∷ []
  pub blocks : children t (Region region) ≡ BasicBlock block ∷ []
  pub block_holds : block_at t block ≡ Some held
  pub empty : children t (BasicBlock block) ≡ []
