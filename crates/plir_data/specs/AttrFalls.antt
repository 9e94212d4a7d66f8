-- An attribute is larger than those in it.
use Rattle.std.specs.Prelude.{ℕ, max, ◌≤◌, List, [], ◌∷◌, map, Vec}
use Rattle.std.specs.declared.alloc.Global.{Global}
use Rattle.std.proofs.Common.{arith}
use denote.Param.Weighed.{most}
use Rattle.plir_data.specs.AttrDepth.{bulk, items_bulk, entries_bulk}
use Rattle.plir_data.specs.AttrSeen.{attr_view}
use Rattle.plir_data.specs.DictSeen.{pairs_view}
use Rattle.plir_data.specs.declared.attributes.AttrObj.{AttrObj}
use Rattle.plir_data.specs.declared.attributes.AttrObj.TheVariants as A
use Rattle.plir_data.specs.declared.attribute_dict.AttributeDict.TheDeep.{deep-AttrObj}
use Rattle.plir_data.specs.declared.attribute_dict.AttributeDict.TheShapes.{weighed-AttributeDict-entries}

pub deep_le : {D K A T E : Type 0} (o : _) (p : _) (h : _) (d : _) (p' : _) (h' : _) (d' : _) (e : _) (e' : _)
    (x : AttrObj D K A T E) → deep-AttrObj D K A T E o p h d p' h' d' e e' x ≤ bulk (attr_view x)
deep_le o p h f p' h' f' e e' (A.Identifier w) = omega arith
deep_le o p h f p' h' f' e e' (A.String s) = omega arith
deep_le o p h f p' h' f' e e' (A.Bool b) = omega arith
deep_le o p h f p' h' f' e e' (A.Integer i) = omega arith
deep_le o p h f p' h' f' e e' (A.Dict d) = omega arith
deep_le o p h f p' h' f' e e' (A.Vec v) = omega arith
deep_le o p h f p' h' f' e e' (A.Unit u) = omega arith
deep_le o p h f p' h' f' e e' (A.Type t) = omega arith
deep_le o p h f p' h' f' e e' (A.OperandSegmentSizes s) = omega arith
deep_le o p h f p' h' f' e e' (A.GivenNames g) = omega arith
deep_le o p h f p' h' f' e e' (A.Own a) = omega arith

module _ {D K A T E : Type 0} where
  pub most_items : (size : AttrObj D K A T E → ℕ) → ((x : AttrObj D K A T E) → size x ≤ bulk (attr_view x)) →
      (xs : List (AttrObj D K A T E)) → most size xs ≤ items_bulk (map attr_view xs)
  most_items size small [] = omega arith
  most_items size small (x ∷ xs) = omega (arith, small x, most_items size small xs)

  pub most_entries : (size : AttrObj D K A T E → ℕ) → ((x : AttrObj D K A T E) → size x ≤ bulk (attr_view x)) →
      (es : List (List ℕ × AttrObj D K A T E)) →
      most (λ e. max 0 (max (size e.1) 0)) es ≤ entries_bulk (pairs_view es)
  most_entries size small [] = omega arith
  most_entries size small (e ∷ es) = omega (arith, small e.1, most_entries size small es)

  pub entries_weight : (size : AttrObj D K A T E → ℕ) → ((x : AttrObj D K A T E) → size x ≤ bulk (attr_view x)) →
      (v : Vec (List ℕ × AttrObj D K A T E) Global) →
      (weighed-AttributeDict-entries D K A T E).weight (AttrObj D K A T E) size v ≤ entries_bulk (pairs_view v.items)
  entries_weight size small v = most_entries size small v.items
