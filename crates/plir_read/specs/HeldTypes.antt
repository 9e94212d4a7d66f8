-- The types that operations hold.
use Rattle.std.specs.Prelude.{◌⊎◌, List, [], ◌∷◌}
use Rattle.plir_attr_text.specs.Parts.{IsPartOf, IsHeldBy, IsHeldByEntry}
use Rattle.plir_attr_text.specs.Terms.{TypeTerm, AttrTerm}
use Rattle.plir_read.specs.OpTerms.{Head, module_head, func_head, Header, Argument, BlockHead, OpTerm, op_term}
use Rattle.plir_read.specs.OpTerms.{constant_term, BlockTerms, no_blocks, block_before, OpTerms, no_ops, op_before}
use Rattle.plir_read.specs.OpTerms.{ops_of, BlockTerm}

-- part of the type in a function's header
abbrev pub IsHeldByHead : TypeTerm → Head → Type 0
IsHeldByHead t (module_head w) = ⊥
IsHeldByHead t (func_head w u) = IsPartOf t u

-- the same, or held by an attribute of the dictionary
abbrev pub IsHeldByHeader : TypeTerm → Header → Type 0
IsHeldByHeader t h = IsHeldByHead t h.0 ⊎ IsHeldByEntry t h.1

-- part of an argument's type
abbrev pub IsHeldByArgument : TypeTerm → List Argument → Type 0
IsHeldByArgument t [] = ⊥
IsHeldByArgument t (a ∷ as_) = IsPartOf t a.1 ⊎ IsHeldByArgument t as_

abbrev pub IsHeldByBlockHead : TypeTerm → BlockHead → Type 0
IsHeldByBlockHead t b = IsHeldByArgument t b.1

-- held by a constant's value, or part of its result's type
abbrev pub IsHeldByConstant : TypeTerm → AttrTerm × TypeTerm → Type 0
IsHeldByConstant t c = IsHeldBy t c.0 ⊎ IsPartOf t c.1

abbrev mutual
  -- The type is held by what stands before the body, or by a block in that.
  pub IsHeldByOp : TypeTerm → OpTerm → Type 0
  IsHeldByOp t (op_term h bs) = IsHeldByHeader t h ⊎ IsHeldByBlocks t bs
  IsHeldByOp t (constant_term w a u) = IsHeldByConstant t (a, u)

  -- it is part of the type of an argument of one of the blocks, or held by an operation in one
  pub IsHeldByBlocks : TypeTerm → BlockTerms → Type 0
  IsHeldByBlocks t no_blocks = ⊥
  IsHeldByBlocks t (block_before b os bs) = (IsHeldByBlockHead t b ⊎ IsHeldByOps t os) ⊎ IsHeldByBlocks t bs

  pub IsHeldByOps : TypeTerm → OpTerms → Type 0
  IsHeldByOps t no_ops = ⊥
  IsHeldByOps t (op_before o os) = IsHeldByOp t o ⊎ IsHeldByOps t os

-- the same of a block
abbrev pub IsHeldByBlock : TypeTerm → BlockTerm → Type 0
IsHeldByBlock t b = IsHeldByBlockHead t b.0 ⊎ IsHeldByOps t (ops_of b.1)
