-- Operations of all kinds as they are written.
use Rattle.std.specs.Prelude.{ℕ, suc, max, List, [], ◌∷◌}
use Rattle.plir_attr_text.specs.Terms.{AttrTerm, TypeTerm, levels, type_levels}
use Rattle.plir_read.specs.OpTerms.{BlockHead, block_levels, Header as BodiedHeader, header_levels as bodied_levels}
use Rattle.plir_read_own.specs.OwnTerms.{Header, header_levels}

-- What stands before the regions of an operation: the header of a module or a function; the name of a constant's
-- result, its value and the result's type; or the header of an own operation.
pub data Front (K : Type 0) : Type 0 where
  bodied_front : BodiedHeader → Front K
  constant_front : (name : List ℕ) → AttrTerm → TypeTerm → Front K
  own_front : Header K → Front K

-- What stands before the regions, and the regions, each with its blocks, each of which has a head and operations.
mutual
  pub data IrOp (K : Type 0) : Type 0 where
    ir_op : Front K → IrRegions K → IrOp K

  pub data IrRegions (K : Type 0) : Type 0 where
    no_regions : IrRegions K
    region_before : IrBlocks K → IrRegions K → IrRegions K

  pub data IrBlocks (K : Type 0) : Type 0 where
    no_blocks : IrBlocks K
    block_before : BlockHead → IrOps K → IrBlocks K → IrBlocks K

  pub data IrOps (K : Type 0) : Type 0 where
    no_ops : IrOps K
    op_before : IrOp K → IrOps K → IrOps K

module _ {K : Type 0} where
  abbrev pub ops_of : List (IrOp K) → IrOps K
  ops_of [] = no_ops
  ops_of (o ∷ os) = op_before o (ops_of os)

  -- blocks, each by its head and its operations
  abbrev pub blocks_of : List (BlockHead × List (IrOp K)) → IrBlocks K
  blocks_of [] = no_blocks
  blocks_of (b ∷ bs) = block_before b.0 (ops_of b.1) (blocks_of bs)

  -- regions, each by its blocks
  abbrev pub regions_of : List (List (BlockHead × List (IrOp K))) → IrRegions K
  regions_of [] = no_regions
  regions_of (bs ∷ rs) = region_before (blocks_of bs) (regions_of rs)

  -- the names of the results
  abbrev pub result_words : Front K → List (List ℕ)
  result_words (bodied_front h) = []
  result_words (constant_front w a t) = w ∷ []
  result_words (own_front h) = h.names

  -- how many levels are open at the deepest place before the regions
  abbrev pub front_levels : Front K → ℕ
  front_levels (bodied_front h) = bodied_levels h
  front_levels (constant_front w a t) = max (levels a) (type_levels t)
  front_levels (own_front h) = header_levels h

  -- How many levels are open at the deepest place, the operation itself counted.
  abbrev mutual
    pub op_levels : IrOp K → ℕ
    op_levels (ir_op f rs) = suc (max (front_levels f) (regions_levels rs))

    pub regions_levels : IrRegions K → ℕ
    regions_levels no_regions = 0
    regions_levels (region_before bs rs) = max (blocks_levels bs) (regions_levels rs)

    pub blocks_levels : IrBlocks K → ℕ
    blocks_levels no_blocks = 0
    blocks_levels (block_before b os bs) = max (block_levels b) (max (ops_levels os) (blocks_levels bs))

    pub ops_levels : IrOps K → ℕ
    ops_levels no_ops = 0
    ops_levels (op_before o os) = max (op_levels o) (ops_levels os)
