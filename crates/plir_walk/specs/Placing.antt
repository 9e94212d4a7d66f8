-- The two ways in which a name comes among the others.
use Rattle.std.specs.Prelude.{ℕ, List, Option}
use Rattle.plir_walk.specs.declared.name_list.Placing.{Placing}
use Rattle.plir_walk.specs.declared.name_list.Placing.TheVariants.{Replacing, Shifting}
use Rattle.plir_walk.specs.GivenNames.{Names, set_name, insert_name}

abbrev pub placed_name : Placing → Names → ℕ → Option (List ℕ) → Names
placed_name Replacing ns i x = set_name ns i x
placed_name Shifting ns i x = insert_name ns i x
