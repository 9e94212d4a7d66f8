-- A type as a whole, with the types that its handles name in their places. One of the user's own stands as it is.
use Rattle.std.specs.Prelude.{ℕ, List, [], ◌∷◌, map}
use Rattle.plir_data.specs.Types.{TypeView, integer, function, unit, own}
use Rattle.plir_data.specs.Unrolled.{unrolled}
use Rattle.plir_data.specs.declared.types.Signedness.{Signedness}

mutual
  pub data TypeTree (T : Type 0) : Type 0 where
    integer_tree : Signedness → (width : ℕ) → TypeTree T
    function_tree : (arguments results : Trees T) → TypeTree T
    unit_tree : TypeTree T
    own_tree : T → TypeTree T

  pub data Trees (T : Type 0) : Type 0 where
    no_trees : Trees T
    tree : TypeTree T → Trees T → Trees T

module _ {T : Type 0} where
  abbrev pub trees_of : List (TypeTree T) → Trees T
  trees_of [] = no_trees
  trees_of (t ∷ ts) = tree t (trees_of ts)

  -- a type, where `grown` gives the trees of the types that it names
  abbrev pub tree_over : (grown : ℕ → TypeTree T) → TypeView T → TypeTree T
  tree_over grown (integer s w) = integer_tree s w
  tree_over grown (function arguments results) =
      function_tree (trees_of (map grown arguments)) (trees_of (map grown results))
  tree_over grown unit = unit_tree
  tree_over grown (own t) = own_tree t

  -- the tree of the type that a handle names; where it names none, that of the unit type
  abbrev pub tree_of : List (TypeView T) → ℕ → TypeTree T
  tree_of = unrolled tree_over unit_tree
