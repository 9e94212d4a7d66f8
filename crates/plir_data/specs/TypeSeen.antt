-- A type value as contracts see it.
use Rattle.plir_data.specs.Types.{TypeView, integer, function, unit, own}
use Rattle.plir_data.specs.declared.types.TypeObj.{TypeObj}
use Rattle.plir_data.specs.declared.types.TypeObj.TheVariants.{Integer, Function, Unit, Own}

abbrev pub type_view : {D K A T E : Type 0} → TypeObj D K A T E → TypeView T
type_view (Integer i) = integer i.signedness i.width
type_view (Function f) = function f.0.0 f.0.1
type_view (Unit u) = unit
type_view (Own t) = own t
