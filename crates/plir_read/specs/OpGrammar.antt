-- Which tokens stand for an operation: a constant, a module or a function.
use Rattle.std.specs.Prelude.{◌≡◌, ◌⊎◌, ℕ, ◌≤◌, List, [], ◌∷◌, ◌++◌, true, codes}
use Rattle.plir_data.specs.Identifier.{is_identifier}
use Rattle.plir_attr_text.specs.Tokens.{Token, word, sign}
use Rattle.plir_attr_text.specs.AttrGrammar.{Spells, SpellsSeveral, SpellsEntries}
use Rattle.plir_attr_text.specs.Terms.{TypeTerm, AttrTerm, EntryTerms, no_entries}
use Rattle.plir_attr_text.specs.TypeGrammar.{enclosed, SpellsType}
use Rattle.plir_read.specs.OpTerms.{Head, module_head, func_head, Header, Argument, BlockHead, OpTerm, op_term}
use Rattle.plir_read.specs.OpTerms.{constant_term, BlockTerms, no_blocks, block_before, OpTerms, no_ops, op_before}
use Rattle.plir_read.specs.OpTerms.{BlockTerm, ops_of, blocks_of, op_levels, block_levels, ops_levels, blocks_levels}

-- `@name`
abbrev pub symbol : List ℕ → List Token
symbol w = sign 64 ∷ word w ∷ []

-- what stands before the dictionary
abbrev pub SpellsHead : Head → List Token → Type 0
SpellsHead (module_head w) ts = (is_identifier w ≡ true) × (ts ≡ word (codes "builtin.module") ∷ symbol w)
SpellsHead (func_head w t) ts = (type : List Token) × (is_identifier w ≡ true) × SpellsType t type ×
    (ts ≡ word (codes "builtin.func") ∷ (symbol w ++ sign 58 ∷ type))

-- `[key = ATTR, key = ATTR]`; nothing stands for a dictionary without entries too
abbrev pub SpellsDictionary : EntryTerms → List Token → Type 0
SpellsDictionary es ts = ((es ≡ no_entries) × (ts ≡ [])) ⊎
    ((inner : List Token) × SpellsEntries es inner × (ts ≡ enclosed 91 inner 93))

-- what stands before the body
abbrev pub SpellsHeader : Header → List Token → Type 0
SpellsHeader h ts = (head dictionary : List Token) × SpellsHead h.0 head × SpellsDictionary h.1 dictionary ×
    (ts ≡ head ++ dictionary)

-- `name: TYPE`
abbrev pub SpellsArgument : Argument → List Token → Type 0
SpellsArgument a ts = (type : List Token) × (is_identifier a.0 ≡ true) × SpellsType a.1 type ×
    (ts ≡ word a.0 ∷ sign 58 ∷ type)

-- `^name(argument, argument):`
abbrev pub SpellsBlockHead : BlockHead → List Token → Type 0
SpellsBlockHead b ts = (inner : List Token) × (is_identifier b.0 ≡ true) × SpellsSeveral SpellsArgument b.1 inner ×
    (ts ≡ sign 94 ∷ word b.0 ∷ (enclosed 40 inner 41 ++ sign 58 ∷ []))

-- `<ATTR> : TYPE`
abbrev pub typed_value : (attr type : List Token) → List Token
typed_value attr type = enclosed 60 attr 62 ++ sign 58 ∷ type

-- `name = builtin.constant <ATTR> : TYPE`
abbrev pub SpellsConstant : (name : List ℕ) → AttrTerm → TypeTerm → List Token → Type 0
SpellsConstant w a t ts = (attr type : List Token) × (is_identifier w ≡ true) × Spells a attr × SpellsType t type ×
    (ts ≡ word w ∷ sign 61 ∷ word (codes "builtin.constant") ∷ typed_value attr type)

abbrev mutual
  pub SpellsOp : OpTerm → List Token → Type 0
  SpellsOp (op_term h bs) ts = (header body : List Token) × SpellsHeader h header × SpellsBlocks bs body ×
      (ts ≡ header ++ enclosed 123 body 125)
  SpellsOp (constant_term w a t) ts = SpellsConstant w a t ts

  -- blocks, one behind another
  pub SpellsBlocks : BlockTerms → List Token → Type 0
  SpellsBlocks no_blocks ts = ts ≡ []
  SpellsBlocks (block_before b os bs) ts = (head ops more : List Token) × SpellsBlockHead b head × SpellsOps os ops ×
      SpellsBlocks bs more × (ts ≡ head ++ (ops ++ more))

  -- operations with semicolons between them
  pub SpellsOps : OpTerms → List Token → Type 0
  SpellsOps no_ops ts = ts ≡ []
  SpellsOps (op_before o os) ts = (first more : List Token) × SpellsOp o first × SpellsMoreOps os more ×
      (ts ≡ first ++ more)

  -- a semicolon before each operation
  pub SpellsMoreOps : OpTerms → List Token → Type 0
  SpellsMoreOps no_ops ts = ts ≡ []
  SpellsMoreOps (op_before o os) ts = (first more : List Token) × SpellsOp o first × SpellsMoreOps os more ×
      (ts ≡ sign 59 ∷ (first ++ more))

-- an operation, with at most n levels open
abbrev pub OpWithin : ℕ → OpTerm → List Token → Type 0
OpWithin n x ts = SpellsOp x ts × (op_levels x ≤ n)

-- the operations of a block likewise
abbrev pub OpsWithin : ℕ → List OpTerm → List Token → Type 0
OpsWithin n os ts = SpellsOps (ops_of os) ts × (ops_levels (ops_of os) ≤ n)

-- a block as it stands among others
pub record BlockWithin (n : ℕ) (b : BlockTerm) (ts : List Token) : Type 0 where
  pub head : List Token
  pub inside : List Token
  pub head_spelled : SpellsBlockHead b.0 head
  pub head_within : block_levels b.0 ≤ n
  pub spelled : SpellsOps (ops_of b.1) inside
  pub within : ops_levels (ops_of b.1) ≤ n
  pub tokens : ts ≡ head ++ inside

-- blocks in braces
pub record BodyWithin (n : ℕ) (bs : List BlockTerm) (ts : List Token) : Type 0 where
  pub body : List Token
  pub spelled : SpellsBlocks (blocks_of bs) body
  pub within : blocks_levels (blocks_of bs) ≤ n
  pub tokens : ts ≡ enclosed 123 body 125
