-- How a text that is nested as a tree is put, a step at a time: what is put, where it goes on, and what is then still
-- to come. The loop goes by it; the contracts of pictures cite nothing of it.
use Rattle.std.specs.Prelude.{◌≡◌, ℕ, zero, suc, ◌+◌, ◌<◌, Bool, true, false, cond, List, [], ◌∷◌, ◌++◌, length}
use Rattle.std.specs.Prelude.{Option, Some, None}
use Rattle.std.specs.List.{flat_map}
use Rattle.plir_core.specs.declared.ptr.IRNode.{IRNode}
use Rattle.plir_core.specs.Measures.{depth}
use Rattle.plir_core.specs.ContextView.{ContextView, children, parent_of}
use Rattle.plir_walk.specs.Tree.{same}
use Rattle.plir_pictures.specs.Nested.{nested}

-- a node, and whether it is entered or left
abbrev pub Cursor : Type 0
Cursor = IRNode × Bool

-- those of some nodes that stand behind one of them
abbrev pub behind_in : List IRNode → IRNode → List IRNode
behind_in [] x = []
behind_in (y ∷ ys) x = cond (same y x) ys (behind_in ys x)

-- ---- how many steps are left

-- a mark for a step
abbrev pub mark : IRNode → List ℕ
mark x = 0 ∷ []

module _ {K A T : Type 0} (s : ContextView K A T) where
  -- how many steps a node takes with all below it, and how many those of a list take
  abbrev pub steps_in : IRNode → ℕ
  steps_in x = length (nested s mark mark x)

  abbrev pub steps_of : List IRNode → ℕ
  steps_of [] = 0
  steps_of (x ∷ xs) = steps_in x + steps_of xs

  -- how many steps there are behind a node, as there are so many behind each one above it
  abbrev pub steps_by : (IRNode → ℕ) → IRNode → Option IRNode → ℕ
  steps_by above x None = 0
  steps_by above x (Some over) = steps_of (behind_in (children s over) x) + (1 + above over)

  abbrev pub steps_to : (k : ℕ) → IRNode → ℕ
  steps_to zero x = 0
  steps_to (suc k) x = steps_by (steps_to k) x (parent_of s x)

  abbrev pub steps_behind : IRNode → ℕ
  steps_behind x = steps_to (depth s x) x

  -- how many there are from a cursor on
  abbrev pub steps_left_at : IRNode → (entering : Bool) → ℕ
  steps_left_at x true = steps_in x + steps_behind x
  steps_left_at x false = 1 + steps_behind x

  abbrev pub steps_left : Cursor → ℕ
  steps_left c = steps_left_at c.0 c.1

-- ---- what is still to come

module _ {K A T : Type 0} (s : ContextView K A T) (opens closes : IRNode → List ℕ) where
  -- what is still to come of the text of a node, as it is entered and as it is left
  abbrev pub own_rest : IRNode → (entering : Bool) → List ℕ
  own_rest x true = nested s opens closes x
  own_rest x false = closes x

  -- A node stands under another one; behind its text stand those of the later children, what closes the other, and a
  -- rest.
  pub record HangsIn (x : IRNode) (behind : List ℕ) : Type 0 where
    pub over : IRNode
    pub earlier : List IRNode
    pub later : List IRNode
    pub rest : List ℕ
    pub there : children s over ≡ earlier ++ x ∷ later
    pub text : behind ≡ flat_map (nested s opens closes) later ++ (closes over ++ rest)

  module _ (root : IRNode) where
    -- what of the root's text stands behind that of a node, so many levels below the root
    abbrev pub IsBehind : (levels : ℕ) → IRNode → (behind : List ℕ) → Type 0
    IsBehind zero x behind = (x ≡ root) × (behind ≡ [])
    IsBehind (suc k) x behind = (h : HangsIn x behind) × IsBehind k h.over h.rest

    -- The loop has come to a cursor: what it has put and what is still to come make the whole.
    pub record IsAt (whole out : List ℕ) (c : Cursor) : Type 0 where
      pub levels : ℕ
      pub behind : List ℕ
      pub is_behind : IsBehind levels c.0 behind
      pub is_whole : whole ≡ out ++ (own_rest c.0 c.1 ++ behind)

    -- a step to another cursor, and one to the end
    abbrev pub GoesOn : (old : List ℕ) → Cursor → (new : List ℕ) → Cursor → Type 0
    GoesOn old b new c = ((whole : List ℕ) → IsAt whole old b → IsAt whole new c) × (steps_left s c < steps_left s b)

    abbrev pub Ends : (old : List ℕ) → Cursor → (new : List ℕ) → Type 0
    Ends old b new = (whole : List ℕ) → IsAt whole old b → new ≡ whole

    abbrev pub Steps : (old : List ℕ) → Cursor → (new : List ℕ) → Option Cursor → Type 0
    Steps old b new None = Ends old b new
    Steps old b new (Some c) = GoesOn old b new c
