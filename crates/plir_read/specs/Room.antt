-- Whether the nodes that a text stands for have room.
use Rattle.std.specs.Prelude.{◌≡◌, ℕ, ◌⊎◌, All, List, ◌++◌, Result, Ok}
use Rattle.plir_core.specs.Nodes.{Nodes}
use Rattle.plir_core.specs.Room.{NodeCount, together, no_node, one_op, one_region, one_block, IsFullFor}
use Rattle.plir_attr_text.specs.Tokens.{Token, sign, Begins}
use Rattle.plir_attr_text.specs.declared.fault.Fault.{Fault}
use Rattle.plir_read.specs.OpTerms.{OpTerm, op_term, constant_term, BlockTerms, no_blocks, block_before}
use Rattle.plir_read.specs.OpTerms.{OpTerms, no_ops, op_before, BlockTerm, ops_of}

-- ---- how many nodes are written

-- an operation with its region
abbrev pub one_with_region : NodeCount
one_with_region = together one_op one_region

abbrev mutual
  -- The nodes of a written operation: a constant has no region, a module or a function has one with the written blocks.
  pub op_count : OpTerm → NodeCount
  op_count (op_term h bs) = together one_with_region (blocks_count bs)
  op_count (constant_term w a t) = one_op

  pub blocks_count : BlockTerms → NodeCount
  blocks_count no_blocks = no_node
  blocks_count (block_before b os bs) = together (together one_block (ops_count os)) (blocks_count bs)

  pub ops_count : OpTerms → NodeCount
  ops_count no_ops = no_node
  ops_count (op_before o os) = together (op_count o) (ops_count os)

abbrev pub block_count : BlockTerm → NodeCount
block_count b = together one_block (ops_count (ops_of b.1))

-- ---- what has no room

-- `{` or `}`
abbrev pub IsBrace : Token → Type 0
IsBrace t = (t ≡ sign 123) ⊎ (t ≡ sign 125)

-- The text begins with x, which may go on behind that: some tokens that stand first in the text, with braces behind
-- them alone, stand for x.
pub record IsBegun {X : Type 0} (E : X → List Token → Type 0) (bytes : List ℕ) (x : X) : Type 0 where
  pub front : List Token
  pub rest : List ℕ
  pub begins : Begins bytes front rest
  pub braces : List Token
  pub only : All IsBrace braces
  pub spelled : E x (front ++ braces)

-- There is no room in s for the nodes with which the text begins.
pub record BeginsTooMany {O B X : Type 0} (count : X → NodeCount) (E : X → List Token → Type 0) (s : Nodes O B)
    (bytes : List ℕ) : Type 0 where
  pub part : X
  pub begun : IsBegun E bytes part
  pub full : IsFullFor s (count part)

-- What is read has no room in s, if no fault is met.
abbrev pub HasNoRoom : {O B Y : Type 0} (count : Y → NodeCount) → Nodes O B → Result (Y × List ℕ) Fault → Type 0
HasNoRoom {O} {B} {Y} count s read = (y : Y × List ℕ) → read ≡ Ok y → IsFullFor s (count y.0)

-- both: the reader stops at the node that is one too many
abbrev pub LacksRoom : {O B X : Type 0} (count : X → NodeCount) (E : X → List Token → Type 0) → Nodes O B →
    (bytes : List ℕ) → Result (X × List ℕ) Fault → Type 0
LacksRoom count E s bytes read = BeginsTooMany count E s bytes × HasNoRoom count s read
