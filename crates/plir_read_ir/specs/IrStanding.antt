-- The written operation that a node of a context stands for, with what it uses by name.
use Rattle.std.specs.Prelude.{◌≡◌, ℕ, map, List, [], ◌∷◌, Bool, Option, Some}
use Rattle.plir_data.specs.AttrView.{AttrView}
use Rattle.plir_data.specs.declared.op_set.OpKind.TheVariants as kinds
use Rattle.plir_names.specs.declared.names.Meaning.TheVariants.{Only}
use Rattle.plir_core.specs.Contents.{op_view}
use Rattle.plir_core.specs.ContextView.{ContextView, children, type_of_value}
use Rattle.plir_core.specs.declared.ptr.Ptr.{Ptr}
use Rattle.plir_core.specs.declared.ptr.Operation.{Operation as OperationKind}
use Rattle.plir_core.specs.declared.ptr.Region.{Region as RegionKind}
use Rattle.plir_core.specs.declared.ptr.BasicBlock.{BasicBlock as BlockKind}
use Rattle.plir_core.specs.declared.ptr.IRNode.{IRNode}
use Rattle.plir_core.specs.declared.ptr.IRNode.TheVariants.{Region}
use Rattle.plir_core.specs.declared.value.Value.{Value}
use Rattle.plir_attr_text.specs.Meaning.{IsDictMeant}
use Rattle.plir_attr_text.specs.Names.{NamesAll}
use Rattle.plir_attr_text.specs.TypeGrammar.{IsText}
use Rattle.plir_read.specs.Heads.{result_names}
use Rattle.plir_read.specs.OpsStanding.{HoldsOp, IsBlockHeadAt, IsConstantAt, IsHeaderAt}
use Rattle.plir_read_own.specs.OwnTerms.{Header}
use Rattle.plir_read_ir.specs.IrGrammar.{IrWithin}
use Rattle.plir_read_ir.specs.IrTerms.{Front, bodied_front, constant_front, own_front, IrOp, ir_op, IrRegions}
use Rattle.plir_read_ir.specs.IrTerms.{no_regions, region_before, IrBlocks, no_blocks, block_before, IrOps, no_ops}
use Rattle.plir_read_ir.specs.IrTerms.{op_before}
use Rattle.plir_read_ir.specs.Mentions.{Mention, Scope, block_meant, body_in, nowhere, op_mentions, value_meant}
use Rattle.plir_read_ir.specs.OwnOps.{own_attributes}

-- `front` says whether a node in a scope is what is written before the regions of an operation.
module _ {K A T : Type 0} (isolated : K → Bool) (s : ContextView K A T)
    (front : Scope → IRNode → Front K → Type 0) where
  abbrev mutual
    -- the operation at n is the written one: it is what stands before the regions, and has the written regions
    pub IsIrAt : Scope → IRNode → IrOp K → Type 0
    IsIrAt at n (ir_op f rs) = front at n f × AreRegionsAt (body_in isolated at.body n f) (children s n) rs

    -- the regions ns, in a body, are the written ones
    pub AreRegionsAt : (body : Option (Ptr OperationKind)) → List IRNode → IrRegions K → Type 0
    AreRegionsAt body ns no_regions = ns ≡ []
    AreRegionsAt body ns (region_before bs rs) = (first : Ptr RegionKind) × (more : List IRNode) ×
        (ns ≡ Region first ∷ more) ×
        AreBlocksAt (record { body = body; region = Some first }) (children s (Region first)) bs ×
        AreRegionsAt body more rs

    -- the blocks ns, whose operations stand in a scope, are the written ones
    pub AreBlocksAt : Scope → List IRNode → IrBlocks K → Type 0
    AreBlocksAt at ns no_blocks = ns ≡ []
    AreBlocksAt at ns (block_before b os bs) = (first : IRNode) × (more : List IRNode) × (ns ≡ first ∷ more) ×
        IsBlockHeadAt s first b × AreOpsAt at (children s first) os × AreBlocksAt at more bs

    -- the operations ns are the written ones
    pub AreOpsAt : Scope → List IRNode → IrOps K → Type 0
    AreOpsAt at ns no_ops = ns ≡ []
    AreOpsAt at ns (op_before o os) = (first : IRNode) × (more : List IRNode) × (ns ≡ first ∷ more) ×
        IsIrAt at first o × AreOpsAt at more os

module _ {K A T : Type 0} (s : ContextView K A T) (ms : List Mention) where
  -- The operation at n holds what an own header says: the kind, the entries with the names of the results, and results
  -- of the written types. Each operand is the value that its name means in the body, and has the type that is written
  -- for it; each successor is the block that its label means in the region.
  pub record IsOwnAt (at : Scope) (n : IRNode) (h : Header K) : Type 0 where
    pub entries : List (List ℕ × AttrView A)
    pub result_types : List ℕ
    pub operand_types : List ℕ
    pub operands : List Value
    pub successors : List (Ptr BlockKind)
    pub holds : HoldsOp s n (op_view (kinds.Own h.kind) result_types operands successors
        (own_attributes (result_names h.names) entries))
    pub entries_meant : IsDictMeant s.types h.entries entries
    pub results_typed : NamesAll s.types result_types h.signature.result_types
    pub operands_meant : map (λ w. value_meant ms (at.body, w)) h.uses.operands ≡ map Only operands
    pub operands_have : map (type_of_value s) operands ≡ map Some operand_types
    pub operands_typed : NamesAll s.types operand_types h.signature.operand_types
    pub successors_meant : map (λ w. block_meant ms (at.region, w)) h.uses.successors ≡ map Only successors

  -- The operation at n is what stands before the regions, where names mean what these mentions say.
  abbrev pub IsFrontAt : Scope → IRNode → Front K → Type 0
  IsFrontAt at n (bodied_front h) = IsHeaderAt s n h
  IsFrontAt at n (constant_front w a t) = IsConstantAt s n (result_names (w ∷ [])) (a, t)
  IsFrontAt at n (own_front h) = IsOwnAt at n h

-- The operation at n is the written one, and names mean what the operation itself says, with all below it.
abbrev pub IsIrWhole : {K A T : Type 0} → (isolated : K → Bool) → ContextView K A T → IRNode → IrOp K → Type 0
IsIrWhole isolated s n o = IsIrAt isolated s (IsFrontAt s (op_mentions isolated s nowhere n o)) nowhere n o

-- The whole text stands for the operation at n, with at most k levels open.
abbrev pub StandsForIr : {K A T : Type 0} → (find : List ℕ → Option K) → (isolated : K → Bool) → (k : ℕ) →
    ContextView K A T → (bytes : List ℕ) → IRNode → Type 0
StandsForIr {K} find isolated k s bytes n = (o : IrOp K) × IsText (IrWithin find k) bytes o × IsIrWhole isolated s n o
