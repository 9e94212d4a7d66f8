-- The written operation that a node of a context stands for.
use Rattle.std.specs.Prelude.{◌≡◌, ℕ, List, [], ◌∷◌, Option, Some}
use Rattle.plir_core.specs.declared.ptr.Ptr.{Ptr}
use Rattle.plir_core.specs.declared.ptr.Region.{Region as RegionKind}
use Rattle.plir_core.specs.declared.ptr.BasicBlock.{BasicBlock as BlockKind}
use Rattle.plir_core.specs.declared.ptr.IRNode.{IRNode}
use Rattle.plir_core.specs.declared.ptr.IRNode.TheVariants.{Operation, Region, BasicBlock}
use Rattle.plir_core.specs.Contents.{OpView, BlockView}
use Rattle.plir_data.specs.AttrView.{AttrView}
use Rattle.plir_core.specs.ContextView.{ContextView, children, op_at, block_at}
use Rattle.plir_attr_text.specs.Meaning.{IsDictMeant}
use Rattle.plir_attr_text.specs.Names.{Names, NamesAll}
use Rattle.plir_attr_text.specs.Terms.{TypeTerm, AttrTerm}
use Rattle.plir_attr_text.specs.TypeGrammar.{IsText}
use Rattle.plir_read.specs.OpGrammar.{OpWithin}
use Rattle.plir_read.specs.OpTerms.{Head, module_head, func_head, Header, BlockHead, OpTerm, op_term, constant_term}
use Rattle.plir_read.specs.OpTerms.{BlockTerms, no_blocks, block_before, OpTerms, no_ops, op_before, ops_of, blocks_of}
use Rattle.plir_read.specs.OpTerms.{BlockTerm}
use Rattle.plir_read.specs.Heads.{module_op, func_op, result_names, IsConstant, constant_op, argument_types}
use Rattle.plir_read.specs.Heads.{written_block}

module _ {K A T : Type 0} where
  -- what a node holds
  abbrev pub HoldsOp : ContextView K A T → IRNode → OpView K A → Type 0
  HoldsOp s (Operation p) v = op_at s p ≡ Some v
  HoldsOp s (Region p) v = ⊥
  HoldsOp s (BasicBlock p) v = ⊥

  abbrev pub HoldsBlock : ContextView K A T → IRNode → BlockView A → Type 0
  HoldsBlock s (BasicBlock p) v = block_at s p ≡ Some v
  HoldsBlock s (Region p) v = ⊥
  HoldsBlock s (Operation p) v = ⊥

  -- an operation holds what its header says, with the entries of its dictionary
  abbrev pub IsHeadAt : ContextView K A T → IRNode → Head → (entries : List (List ℕ × AttrView A)) → Type 0
  IsHeadAt s n (module_head w) entries = HoldsOp s n (module_op w entries)
  IsHeadAt s n (func_head w t) entries = (handle : ℕ) × Names s.types handle t × HoldsOp s n (func_op w handle entries)

  abbrev pub IsHeaderAt : ContextView K A T → IRNode → Header → Type 0
  IsHeaderAt s n h = (entries : List (List ℕ × AttrView A)) × IsDictMeant s.types h.1 entries × IsHeadAt s n h.0 entries

  -- a block holds what its head says
  abbrev pub IsBlockHeadAt : ContextView K A T → IRNode → BlockHead → Type 0
  IsBlockHeadAt s n b = (handles : List ℕ) × NamesAll s.types handles (argument_types b.1) ×
      HoldsBlock s n (written_block b handles)

  -- a constant holds what is written, has these names for its result, and has no region
  abbrev pub IsConstantAt : ContextView K A T → IRNode → List (Option (List ℕ)) → AttrTerm × TypeTerm → Type 0
  IsConstantAt s n names c = (value : AttrView A) × (handle : ℕ) × IsConstant s.types value handle c ×
      HoldsOp s n (constant_op names value handle) × (children s n ≡ [])

  abbrev mutual
    -- The operation at n is the written one. A module or a function holds what the header says, and has one region,
    -- with the written blocks.
    pub IsOpAt : ContextView K A T → IRNode → OpTerm → Type 0
    IsOpAt s n (op_term h bs) = (region : IRNode) × IsHeaderAt s n h × (children s n ≡ region ∷ []) ×
        AreBlocksAt s (children s region) bs
    IsOpAt s n (constant_term w a t) = IsConstantAt s n (result_names (w ∷ [])) (a, t)

    -- the blocks ns are the written ones
    pub AreBlocksAt : ContextView K A T → List IRNode → BlockTerms → Type 0
    AreBlocksAt s ns no_blocks = ns ≡ []
    AreBlocksAt s ns (block_before b os bs) = (first : IRNode) × (more : List IRNode) × (ns ≡ first ∷ more) ×
        IsBlockHeadAt s first b × AreOpsAt s (children s first) os × AreBlocksAt s more bs

    -- the operations ns are the written ones
    pub AreOpsAt : ContextView K A T → List IRNode → OpTerms → Type 0
    AreOpsAt s ns no_ops = ns ≡ []
    AreOpsAt s ns (op_before o os) = (first : IRNode) × (more : List IRNode) × (ns ≡ first ∷ more) × IsOpAt s first o ×
        AreOpsAt s more os

  -- a block with its operations
  pub record IsBlockAt (s : ContextView K A T) (n : IRNode) (b : BlockTerm) : Type 0 where
    pub head : IsBlockHeadAt s n b.0
    pub ops : AreOpsAt s (children s n) (ops_of b.1)

  -- the blocks of a region, and the operations of a block, are the written ones
  abbrev pub HasBlocks : ContextView K A T → Ptr RegionKind → List BlockTerm → Type 0
  HasBlocks s p bs = AreBlocksAt s (children s (Region p)) (blocks_of bs)

  abbrev pub HasOps : ContextView K A T → Ptr BlockKind → List OpTerm → Type 0
  HasOps s p os = AreOpsAt s (children s (BasicBlock p)) (ops_of os)

  -- The whole text stands for the operation at n, with at most k levels open.
  abbrev pub StandsForOp : (k : ℕ) → ContextView K A T → (bytes : List ℕ) → IRNode → Type 0
  StandsForOp k s bytes n = (w : OpTerm) × IsText (OpWithin k) bytes w × IsOpAt s n w
