-- Operations as they are written.
use Rattle.std.specs.Prelude.{ℕ, suc, max, List, [], ◌∷◌}
use Rattle.plir_attr_text.specs.Terms.{TypeTerm, type_levels, AttrTerm, levels, EntryTerms, entries_levels}

-- what stands before the dictionary
pub data Head : Type 0 where
  module_head : (name : List ℕ) → Head
  func_head : (name : List ℕ) → TypeTerm → Head

-- what stands before the body: the entries of the dictionary too, of which there may be none
abbrev pub Header : Type 0
Header = Head × EntryTerms

-- an argument of a block: its name and its type
abbrev pub Argument : Type 0
Argument = List ℕ × TypeTerm

-- what stands before the operations of a block: its name and its arguments
abbrev pub BlockHead : Type 0
BlockHead = List ℕ × List Argument

-- A header with the blocks in braces; or the name of a constant's result, the constant's value, and the result's type.
mutual
  pub data OpTerm : Type 0 where
    op_term : Header → BlockTerms → OpTerm
    constant_term : (name : List ℕ) → AttrTerm → TypeTerm → OpTerm

  pub data BlockTerms : Type 0 where
    no_blocks : BlockTerms
    block_before : BlockHead → OpTerms → BlockTerms → BlockTerms

  pub data OpTerms : Type 0 where
    no_ops : OpTerms
    op_before : OpTerm → OpTerms → OpTerms

abbrev pub ops_of : List OpTerm → OpTerms
ops_of [] = no_ops
ops_of (o ∷ os) = op_before o (ops_of os)

-- a block: its head and its operations
abbrev pub BlockTerm : Type 0
BlockTerm = BlockHead × List OpTerm

abbrev pub blocks_of : List BlockTerm → BlockTerms
blocks_of [] = no_blocks
blocks_of (b ∷ bs) = block_before b.0 (ops_of b.1) (blocks_of bs)

-- how many levels are open at the deepest place of a header
abbrev pub head_levels : Head → ℕ
head_levels (module_head w) = 0
head_levels (func_head w t) = type_levels t

abbrev pub header_levels : Header → ℕ
header_levels h = max (head_levels h.0) (entries_levels h.1)

-- the same of the head of a block
abbrev pub arguments_levels : List Argument → ℕ
arguments_levels [] = 0
arguments_levels (a ∷ as_) = max (type_levels a.1) (arguments_levels as_)

abbrev pub block_levels : BlockHead → ℕ
block_levels b = arguments_levels b.1

-- How many levels are open at the deepest place, the operation itself counted.
abbrev mutual
  pub op_levels : OpTerm → ℕ
  op_levels (op_term h bs) = suc (max (header_levels h) (blocks_levels bs))
  op_levels (constant_term w a t) = suc (max (levels a) (type_levels t))

  pub blocks_levels : BlockTerms → ℕ
  blocks_levels no_blocks = 0
  blocks_levels (block_before b os bs) = max (block_levels b) (max (ops_levels os) (blocks_levels bs))

  pub ops_levels : OpTerms → ℕ
  ops_levels no_ops = 0
  ops_levels (op_before o os) = max (op_levels o) (ops_levels os)
