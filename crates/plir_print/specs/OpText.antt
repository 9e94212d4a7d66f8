-- The text of an operation with all below it.
use Rattle.std.specs.Prelude.{ℕ, zero, suc, ◌+◌, ◌-◌, List, [], ◌∷◌, ◌++◌, codes, Option, Some, replicate}
use Rattle.std.specs.List.{flat_map}
use Rattle.plir_data.specs.AttrView.{AttrView}
use Rattle.plir_data.specs.Types.{TypeView}
use Rattle.plir_data.specs.declared.op_set.OpKind.{OpKind}
use Rattle.plir_data.specs.declared.op_set.OpKind.TheVariants.{Module, Func, Own}
use Rattle.plir_data.specs.declared.op_set.OpSet as op_set
use Rattle.plir_core.specs.declared.ptr.Ptr.{Ptr}
use Rattle.plir_core.specs.declared.ptr.Operation.{Operation as OperationKind}
use Rattle.plir_core.specs.declared.ptr.Region.{Region as RegionKind}
use Rattle.plir_core.specs.declared.ptr.BasicBlock.{BasicBlock as BasicBlockKind}
use Rattle.plir_core.specs.declared.ptr.IRNode.{IRNode}
use Rattle.plir_core.specs.declared.ptr.IRNode.TheVariants.{Operation, Region, BasicBlock}
use Rattle.plir_core.specs.declared.value.Value.{Value}
use Rattle.plir_core.specs.ContextView.{ContextView, children, kind_of, limit}
use Rattle.plir_core.specs.Measures.{depth}
use Rattle.plir_data.specs.TextParts.{parted}
use Rattle.plir_print.specs.ValueNames.{block_name, value_name, results_of, arguments_of}
use Rattle.plir_print.specs.Dictionaries.{dictionary_text, shown}
use Rattle.plir_print.specs.Headers.{header, names_text, value_type_text}

-- a new line, as far in as so many columns
abbrev pub line : ℕ → List ℕ
line n = codes "\n" ++ replicate n 32

-- ` = ` behind names, where there are names
abbrev pub equals_behind : {X : Type 0} → List X → List ℕ
equals_behind [] = []
equals_behind (x ∷ xs) = codes " = "

-- What stands behind a header: a space in a module and a function, and in an operation of the user's own that has
-- regions.
abbrev pub space_behind : {K X : Type 0} → Option (OpKind K) → (regions : List X) → List ℕ
space_behind (Some Module) rs = codes " "
space_behind (Some Func) rs = codes " "
space_behind (Some (Own k)) [] = []
space_behind (Some (Own k)) (r ∷ rs) = codes " "
space_behind _ rs = []

module _ {K A T : Type 0} (s : ContextView K A T) where
  -- the names of the results and ` = `, where there are results
  abbrev pub results_text : Ptr OperationKind → List ℕ
  results_text p = names_text s (results_of s p) ++ equals_behind (results_of s p)

  -- the space behind the header of an operation
  abbrev pub space_text : Ptr OperationKind → List ℕ
  space_text p = space_behind (kind_of s p) (children s (Operation p))

  -- more levels than there can be below a node
  abbrev pub room : IRNode → ℕ
  room x = limit s + 2 - depth s x

module _ {D K A T E : Type 0} (o : op_set.Ghosts D K A T E) where
  -- a dictionary on a line of its own, two columns further in, if it has entries
  abbrev pub line_of : List (TypeView T) → (n : ℕ) → List (List ℕ × AttrView A) → List ℕ
  line_of types n [] = []
  line_of types n (e ∷ es) = line (n + 2) ++ dictionary_text o types (e ∷ es)

  -- modules and functions have their dictionary apart
  abbrev pub dictionary_of : List (TypeView T) → Option (OpKind K) → (n : ℕ) → List (List ℕ × AttrView A) → List ℕ
  dictionary_of types (Some Module) n es = line_of types n es
  dictionary_of types (Some Func) n es = line_of types n es
  dictionary_of types _ n es = []

  module _ (s : ContextView K A T) where
    abbrev pub dictionary_line : (n : ℕ) → Ptr OperationKind → List ℕ
    dictionary_line n p = line_of s.types n (shown o s p)

    abbrev pub dictionary_apart : (n : ℕ) → Ptr OperationKind → List ℕ
    dictionary_apart n p = dictionary_of s.types (kind_of s p) n (shown o s p)

    -- what stands before the regions of an operation, as far in as n columns
    abbrev pub op_front : (n : ℕ) → Ptr OperationKind → List ℕ
    op_front n p = results_text s p ++ (header o s p ++ (space_text s p ++ dictionary_apart n p))

    -- an argument with its type, and the arguments of a block
    abbrev pub argument_text : Value → List ℕ
    argument_text v = value_name s v ++ (codes ": " ++ value_type_text o s v)

    abbrev pub arguments_text : Ptr BasicBlockKind → List ℕ
    arguments_text b = parted (codes ", ") argument_text (arguments_of s b)

    -- `^name(arg: TYPE, arg: TYPE):`
    abbrev pub block_front : Ptr BasicBlockKind → List ℕ
    block_front b = codes "^" ++ (block_name s b ++ (codes "(" ++ (arguments_text b ++ codes "):")))

    -- The text of a node, to k levels, as far in as n columns: regions one behind another, each on a line of its own,
    -- the blocks in a region two columns further in, and the operations in a block two more, with a semicolon behind
    -- all but the last.
    abbrev pub text_at : (k n : ℕ) → IRNode → List ℕ
    text_at zero n x = []
    text_at (suc k) n (Operation p) = op_front n p ++ flat_map (text_at k n) (children s (Operation p))
    text_at (suc k) n (Region r) = line n ++ (codes "{" ++
        (flat_map (λ b. line (n + 2) ++ text_at k (n + 2) b) (children s (Region r)) ++ (line n ++ codes "}")))
    text_at (suc k) n (BasicBlock b) = block_front b ++ parted (codes ";") (λ p. line (n + 2) ++ text_at k (n + 2) p)
        (children s (BasicBlock b))

    -- the text of a node, as far in as n columns
    abbrev pub text_of : (n : ℕ) → IRNode → List ℕ
    text_of n x = text_at (room s x) n x

    -- the text of an operation
    abbrev pub op_text : Ptr OperationKind → List ℕ
    op_text p = text_of 0 (Operation p)

    -- the texts of the children of a node, as they stand in its own
    abbrev pub regions_text : (n : ℕ) → List IRNode → List ℕ
    regions_text n xs = flat_map (text_of n) xs

    abbrev pub blocks_text : (n : ℕ) → List IRNode → List ℕ
    blocks_text n xs = flat_map (λ b. line (n + 2) ++ text_of (n + 2) b) xs

    abbrev pub ops_text : (n : ℕ) → List IRNode → List ℕ
    ops_text n xs = parted (codes ";") (λ p. line (n + 2) ++ text_of (n + 2) p) xs

    -- the regions of an operation, the blocks of a region, and the operations of a block
    abbrev pub regions_in : (n : ℕ) → Ptr OperationKind → List ℕ
    regions_in n p = regions_text n (children s (Operation p))

    abbrev pub blocks_in : (n : ℕ) → Ptr RegionKind → List ℕ
    blocks_in n r = blocks_text n (children s (Region r))

    abbrev pub ops_in : (n : ℕ) → Ptr BasicBlockKind → List ℕ
    ops_in n b = ops_text n (children s (BasicBlock b))
