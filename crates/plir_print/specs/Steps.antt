-- How a printer goes through a tree, a step at a time: what it puts, where it goes, and what is then still to come. The
-- loop of the printer goes by it; the contracts of texts cite nothing of it.
use Rattle.std.specs.Prelude.{◌≡◌, ℕ, zero, suc, ◌+◌, ◌-◌, ◌*◌, ◌<◌, ◌≤◌, ◌⊎◌, Bool, true, false, List, [], ◌∷◌, ◌++◌}
use Rattle.std.specs.Prelude.{codes, length, Option, Some, None}
use Rattle.plir_data.specs.declared.op_set.OpSet as op_set
use Rattle.plir_core.specs.declared.ptr.IRNode.{IRNode}
use Rattle.plir_core.specs.declared.ptr.IRNode.TheVariants.{Operation, Region, BasicBlock}
use Rattle.plir_core.specs.Measures.{depth}
use Rattle.plir_core.specs.ContextView.{ContextView, children, limit}
use Rattle.plir_data.specs.TextParts.{before}
use Rattle.plir_print.specs.OpText.{line, op_front, block_front, room, text_of}

-- how far in the children of a node stand that stands as far in as n columns
abbrev pub inner : (n : ℕ) → IRNode → ℕ
inner n (Operation p) = n
inner n (Region r) = n + 2
inner n (BasicBlock b) = n + 2

-- how far in a node stands whose children stand as far in as n columns
abbrev pub outer : (n : ℕ) → IRNode → ℕ
outer n (Operation p) = n
outer n (Region r) = n - 2
outer n (BasicBlock b) = n - 2

-- What stands before a child of a node, as far in as n columns: a new line before a block and an operation, and before
-- the line a semicolon, where other operations stand first.
abbrev pub lead : (is_first : Bool) → (n : ℕ) → (over : IRNode) → List ℕ
lead is_first n (Operation p) = []
lead is_first n (Region r) = line n
lead is_first n (BasicBlock b) = before is_first (codes ";") ++ line n

-- what stands behind the children of a node
abbrev pub closing : (n : ℕ) → IRNode → List ℕ
closing n (Operation p) = []
closing n (Region r) = line n ++ codes "}"
closing n (BasicBlock b) = []

-- children of a node with what stands before each; the first of these may be the first of all, or not
abbrev pub children_text : (write : IRNode → List ℕ) → (is_first : Bool) → (n : ℕ) → (over : IRNode) → List IRNode →
    List ℕ
children_text write is_first n over [] = []
children_text write is_first n over (x ∷ xs) = lead is_first n over ++ (write x ++ children_text write false n over xs)

-- a node, whether it is entered or left, and how far in it stands
abbrev pub Cursor : Type 0
Cursor = IRNode × Bool × ℕ

module _ {K A T : Type 0} (s : ContextView K A T) where
  -- A number that falls with each step that puts nothing, and is below `ranks`.
  abbrev pub rank_of : IRNode → Bool → ℕ
  rank_of x true = limit s + 2 + room s x
  rank_of x false = depth s x

  abbrev pub rank : Cursor → ℕ
  rank c = rank_of c.0 c.1

  abbrev pub ranks : ℕ
  ranks = 2 * (limit s + 2) + 1

  -- a step puts something, or comes to a lower rank
  abbrev pub IsNearer : (old : List ℕ) → Cursor → (new : List ℕ) → Cursor → Type 0
  IsNearer old b new c = (length old < length new) ⊎ ((length old ≤ length new) × (rank c < rank b))

module _ {D K A T E : Type 0} (o : op_set.Ghosts D K A T E) (s : ContextView K A T) where
  -- what stands before the children of a node
  abbrev pub opening : (n : ℕ) → IRNode → List ℕ
  opening n (Operation p) = op_front o s n p
  opening n (Region r) = line n ++ codes "{"
  opening n (BasicBlock b) = block_front o s b

  -- what is still to come of the text of a node, as it is entered and as it is left
  abbrev pub own_rest : (n : ℕ) → IRNode → (entering : Bool) → List ℕ
  own_rest n x true = text_of o s n x
  own_rest n x false = closing n x

  -- A node stands under another one, as far in as n columns; behind its text stand those of the later children, what
  -- closes the text of the other, and a rest.
  pub record HangsIn (n : ℕ) (x : IRNode) (behind : List ℕ) : Type 0 where
    pub over : IRNode
    pub columns : ℕ
    pub earlier : List IRNode
    pub later : List IRNode
    pub rest : List ℕ
    pub there : children s over ≡ earlier ++ x ∷ later
    pub further : n ≡ inner columns over
    pub text : behind ≡ children_text (text_of o s n) false n over later ++ (closing columns over ++ rest)

  module _ (root : IRNode) where
    -- what of the root's text stands behind that of a node, so many levels below the root
    abbrev pub IsBehind : (levels n : ℕ) → IRNode → (behind : List ℕ) → Type 0
    IsBehind zero n x behind = (x ≡ root) × (n ≡ 0) × (behind ≡ [])
    IsBehind (suc k) n x behind = (h : HangsIn n x behind) × IsBehind k h.columns h.over h.rest

    -- The printer has come to a cursor: what it has put and what is still to come make the whole.
    pub record IsAt (whole out : List ℕ) (c : Cursor) : Type 0 where
      pub levels : ℕ
      pub behind : List ℕ
      pub is_behind : IsBehind levels c.2 c.0 behind
      pub is_whole : whole ≡ out ++ (own_rest c.2 c.0 c.1 ++ behind)

    -- a step to another cursor, and one to the end
    abbrev pub GoesOn : (old : List ℕ) → Cursor → (new : List ℕ) → Cursor → Type 0
    GoesOn old b new c = ((whole : List ℕ) → IsAt whole old b → IsAt whole new c) × IsNearer s old b new c

    abbrev pub Ends : (old : List ℕ) → Cursor → (new : List ℕ) → Type 0
    Ends old b new = (whole : List ℕ) → IsAt whole old b → new ≡ whole

    abbrev pub Steps : (old : List ℕ) → Cursor → (new : List ℕ) → Option Cursor → Type 0
    Steps old b new None = Ends old b new
    Steps old b new (Some c) = GoesOn old b new c
