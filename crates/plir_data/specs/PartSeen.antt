-- A part of an own text as contracts see it.
use Rattle.std.specs.Prelude.{string_bytes}
use Rattle.plir_data.specs.OwnParts.{Part, chars, held}
use Rattle.plir_data.specs.declared.own_text.OwnPart.{OwnPart}
use Rattle.plir_data.specs.declared.own_text.OwnPart.TheVariants as parts

abbrev pub part_view : OwnPart → Part
part_view (parts.Text s) = chars (string_bytes s)
part_view (parts.Type h) = held h
