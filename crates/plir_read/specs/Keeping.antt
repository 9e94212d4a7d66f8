-- What reading leaves of a context as it was.
use Rattle.std.specs.Prelude.{◌≡◌, Option, Some, None, [], ◌∷◌}
use Rattle.plir_core.specs.declared.ptr.Ptr.{Ptr}
use Rattle.plir_core.specs.declared.ptr.Operation.{Operation as OperationKind}
use Rattle.plir_core.specs.declared.ptr.Region.{Region as RegionKind}
use Rattle.plir_core.specs.declared.ptr.BasicBlock.{BasicBlock as BlockKind}
use Rattle.plir_core.specs.declared.ptr.IRNode.{IRNode}
use Rattle.plir_core.specs.declared.ptr.IRNode.TheVariants.{Operation, Region, BasicBlock}
use Rattle.plir_core.specs.Contents.{OpView, BlockView}
use Rattle.plir_core.specs.Made.{KeepsLive, IsMade}
use Rattle.plir_core.specs.ContextView.{ContextView, IsLive, op_at, block_at, children}
use Rattle.plir_attr_text.specs.Names.{Grows}

module _ {K A T : Type 0} where
  -- From s to t what was live is as it was, but that `but`, if it is a node, may have got children; types may have come
  -- last.
  pub record KeepsBut (s t : ContextView K A T) (but : Option IRNode) : Type 0 where
    pub keeps : KeepsLive s.nodes t.nodes
    pub children : (m : IRNode) → IsLive s m → (but ≡ Some m → ⊥) → children t m ≡ children s m
    pub types : Grows s.types t.types

  -- From s to t what was live is as it was; nodes may be new, and types may have come last.
  abbrev pub KeepsOlder : ContextView K A T → ContextView K A T → Type 0
  KeepsOlder s t = KeepsBut s t None

  -- From s to t the operation p is new, with its one region r, which has no block, and nothing else has changed.
  pub record IsNewOp (s t : ContextView K A T) (p : Ptr OperationKind) (r : Ptr RegionKind)
      (v : OpView K A) : Type 0 where
    pub made : IsMade s.nodes t.nodes (Operation p)
    pub held : op_at t p ≡ Some v
    pub body : children t (Operation p) ≡ Region r ∷ []
    pub live : IsLive t (Region r)
    pub empty : children t (Region r) ≡ []
    pub types : t.types ≡ s.types

  -- From s to t the operation p is new, with no region, and nothing else has changed.
  pub record IsNewLeaf (s t : ContextView K A T) (p : Ptr OperationKind) (v : OpView K A) : Type 0 where
    pub made : IsMade s.nodes t.nodes (Operation p)
    pub held : op_at t p ≡ Some v
    pub empty : children t (Operation p) ≡ []
    pub types : t.types ≡ s.types

  -- From s to t the block p is new, with no operation, and nothing else has changed.
  pub record IsNewBlock (s t : ContextView K A T) (p : Ptr BlockKind) (v : BlockView A) : Type 0 where
    pub made : IsMade s.nodes t.nodes (BasicBlock p)
    pub held : block_at t p ≡ Some v
    pub empty : children t (BasicBlock p) ≡ []
    pub types : t.types ≡ s.types
