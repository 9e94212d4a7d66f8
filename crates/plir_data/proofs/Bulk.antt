-- What the prover weighs of an attribute, by the number that falls.
use Rattle.std.proofs.Common.{ℕ, ◌+◌, ◌*◌, ◌<◌, ◌≤◌, arith}
use Rattle.plir_data.specs.AttrDepth.{bulk}
use Rattle.plir_data.specs.AttrFalls.{deep_le}
use Rattle.plir_data.specs.AttrSeen.{attr_view}
use Rattle.plir_data.specs.declared.attributes.AttrObj.{AttrObj}
use Rattle.plir_data.specs.declared.attribute_dict.AttributeDict.TheDeep.{size-AttrObj}

-- a call within a call, at an attribute of a dictionary, comes to an end
pub falls : {D K A T E : Type 0} (o : _) (p : _) (h : _) (d : _) (p' : _) (h' : _) (d' : _) (e : _) (e' : _)
    (x : AttrObj D K A T E) (n : ℕ) → bulk (attr_view x) ≤ n → size-AttrObj D K A T E o p h d p' h' d' e e' x < 2 *
    (n + 1)
falls o p h d p' h' d' e e' x n small = omega (arith, deep_le o p h d p' h' d' e e' x)
