-- What an own operation holds as it is made, before what it uses is known.
use Rattle.std.specs.Prelude.{ℕ, List, [], is_none, Option, Some, None, replicate, if◌then◌else◌}
use Rattle.std.specs.List.{list_all}
use Rattle.plir_data.specs.AttrView.{AttrView, leaf, given_names}
use Rattle.plir_data.specs.Dictionary.{dict_put}
use Rattle.plir_data.specs.Keys.{names_key}
use Rattle.plir_data.specs.declared.op_set.OpKind.TheVariants as kinds
use Rattle.plir_core.specs.Contents.{OpView, op_view}
use Rattle.plir_core.specs.declared.ptr.Ptr.{Ptr}
use Rattle.plir_core.specs.declared.ptr.BasicBlock.{BasicBlock as BlockKind}

-- The entries of its dictionary, with the names that are given to its results, if one is set: they win over those that
-- the dictionary gives.
abbrev pub own_attributes : {A : Type 0} → List (Option (List ℕ)) → List (List ℕ × AttrView A) →
    List (List ℕ × AttrView A)
own_attributes names entries = if list_all is_none names then entries else dict_put entries names_key
    (leaf (given_names names))

-- no operand yet, and successors that stand for others
abbrev pub own_op : {K A : Type 0} → K → List (Option (List ℕ)) → List (List ℕ × AttrView A) → (results : List ℕ) →
    (successors : List (Ptr BlockKind)) → OpView K A
own_op kind names entries results successors =
    op_view (kinds.Own kind) results [] successors (own_attributes names entries)

-- as many times one block, if there is one
abbrev pub times : Option (Ptr BlockKind) → ℕ → List (Ptr BlockKind)
times None n = []
times (Some block) n = replicate n block
