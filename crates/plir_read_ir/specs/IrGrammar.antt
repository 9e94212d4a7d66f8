-- Which tokens stand for an operation of any kind.
use Rattle.std.specs.Prelude.{◌≡◌, ℕ, ◌≤◌, List, [], ◌∷◌, ◌++◌, Option, None, Result, Ok, Err}
use Rattle.plir_attr_text.specs.Tokens.{Token, sign}
use Rattle.plir_attr_text.specs.TypeGrammar.{enclosed}
use Rattle.plir_attr_text.specs.declared.fault.Fault.{Fault}
use Rattle.plir_read.specs.OpReading.{op_kind}
use Rattle.plir_read.specs.declared.heads.HeadKind.{HeadKind}
use Rattle.plir_read.specs.OpGrammar.{SpellsBlockHead, SpellsConstant, SpellsHeader as SpellsBodied}
use Rattle.plir_read_own.specs.OwnGrammar.{SpellsHeader}
use Rattle.plir_read_ir.specs.IrTerms.{Front, bodied_front, constant_front, own_front, IrOp, ir_op, IrRegions}
use Rattle.plir_read_ir.specs.IrTerms.{no_regions, region_before, IrBlocks, no_blocks, block_before, IrOps, no_ops}
use Rattle.plir_read_ir.specs.IrTerms.{op_before}
use Rattle.plir_read_ir.specs.IrTerms.{op_levels}

module _ {K : Type 0} where
  -- a module or a function has one region, a constant has none, an own operation has any number
  abbrev pub HasRegions : Front K → IrRegions K → Type 0
  HasRegions (bodied_front h) rs = (bs : IrBlocks K) × (rs ≡ region_before bs no_regions)
  HasRegions (constant_front w a t) rs = rs ≡ no_regions
  HasRegions (own_front h) rs = Unit {0}

-- `find` says which kind of the set an id names
module _ {K : Type 0} (find : List ℕ → Option K) where
  abbrev pub unless_builtin : Result HeadKind Fault → Option K → Option K
  unless_builtin (Ok k) own = None
  unless_builtin (Err f) own = own

  -- the kind of the set that an id names in a text, where the ids of builtin operations name these
  abbrev pub own_kind : List ℕ → Option K
  own_kind id = unless_builtin (op_kind id) (find id)

  -- what stands before the regions
  abbrev pub SpellsFront : Front K → List Token → Type 0
  SpellsFront (bodied_front h) ts = SpellsBodied h ts
  SpellsFront (constant_front w a t) ts = SpellsConstant w a t ts
  SpellsFront (own_front h) ts = SpellsHeader own_kind h ts

  abbrev mutual
    pub SpellsOp : IrOp K → List Token → Type 0
    SpellsOp (ir_op f rs) ts = (front regions : List Token) × HasRegions f rs × SpellsFront f front ×
        SpellsRegions rs regions × (ts ≡ front ++ regions)

    -- regions in braces, one behind another
    pub SpellsRegions : IrRegions K → List Token → Type 0
    SpellsRegions no_regions ts = ts ≡ []
    SpellsRegions (region_before bs rs) ts = (body more : List Token) × SpellsBlocks bs body × SpellsRegions rs more ×
        (ts ≡ enclosed 123 body 125 ++ more)

    -- blocks, one behind another
    pub SpellsBlocks : IrBlocks K → List Token → Type 0
    SpellsBlocks no_blocks ts = ts ≡ []
    SpellsBlocks (block_before b os bs) ts = (head ops more : List Token) × SpellsBlockHead b head × SpellsOps os ops ×
        SpellsBlocks bs more × (ts ≡ head ++ (ops ++ more))

    -- operations with semicolons between them
    pub SpellsOps : IrOps K → List Token → Type 0
    SpellsOps no_ops ts = ts ≡ []
    SpellsOps (op_before o os) ts = (first more : List Token) × SpellsOp o first × SpellsMoreOps os more ×
        (ts ≡ first ++ more)

    -- a semicolon before each operation
    pub SpellsMoreOps : IrOps K → List Token → Type 0
    SpellsMoreOps no_ops ts = ts ≡ []
    SpellsMoreOps (op_before o os) ts = (first more : List Token) × SpellsOp o first × SpellsMoreOps os more ×
        (ts ≡ sign 59 ∷ (first ++ more))

  -- an operation, with at most n levels open
  abbrev pub IrWithin : ℕ → IrOp K → List Token → Type 0
  IrWithin n o ts = SpellsOp o ts × (op_levels o ≤ n)
