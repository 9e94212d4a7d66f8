-- An attribute value as contracts see it.
use Rattle.plir_data.specs.AttrView.{AttrView, leaf, dict, vec, identifier, string, bool, integer, unit, type_of}
use Rattle.plir_data.specs.AttrView.{operand_segment_sizes, given_names, own, items_of, entries_of}
use Rattle.plir_data.specs.declared.attributes.AttrObj.{AttrObj}
use Rattle.plir_data.specs.declared.attributes.AttrObj.TheVariants as A

abbrev pub attr_view : {D K A T E : Type 0} → AttrObj D K A T E → AttrView A
attr_view (A.Identifier w) = leaf (identifier w.0)
attr_view (A.String s) = leaf (string s)
attr_view (A.Bool b) = leaf (bool b.0)
attr_view (A.Integer i) = leaf (integer i.ty i.value.width i.value.bits)
attr_view (A.Dict d) = dict (entries_of d)
attr_view (A.Vec v) = vec (items_of v)
attr_view (A.Unit u) = leaf unit
attr_view (A.Type t) = leaf (type_of t.0)
attr_view (A.OperandSegmentSizes s) = leaf (operand_segment_sizes s)
attr_view (A.GivenNames g) = leaf (given_names g)
attr_view (A.Own a) = leaf (own a)
