-- Which faults have no place.
use Rattle.std.specs.Prelude.{◌≡◌, ℕ, List, Option, false, true, Bool}
use Rattle.plir_attr_text.specs.Faults.{is_of_text}
use Rattle.plir_attr_text.specs.Reading.{Ends, fault_of as text_fault}
use Rattle.plir_attr_text.specs.Wholes.{whole}
use Rattle.plir_attr_text.specs.declared.fault.Stop.{Stop}
use Rattle.plir_attr_text.specs.declared.fault.Stop.TheVariants.{OutOfMemory, Crowded, At}
use Rattle.plir_read_ir.specs.IrOpReading.{ir_op_at}
use Rattle.plir_read_ir.specs.declared.fault.IrStop.{IrStop}
use Rattle.plir_read_ir.specs.declared.fault.IrStop.TheVariants.{Reading, Use}
use Rattle.plir_read_ir.specs.declared.fault.IrErr.{IrErr}
use Rattle.plir_read_ir.specs.declared.fault.IrFault.{IrFault}
use Rattle.plir_read_ir.specs.declared.fault.IrFault.TheVariants.{Text, UnknownName, AmbiguousName, TypeMismatch}

-- whether something is wrong with the text: it isn't where memory or room for a node is wanting
abbrev pub is_wrong : IrFault → Bool
is_wrong (Text f) = is_of_text f
is_wrong UnknownName = true
is_wrong AmbiguousName = true
is_wrong TypeMismatch = true

-- where nothing is wrong with the text, no place is told
abbrev pub HasNoPlace : IrErr → Type 0
HasNoPlace e = is_wrong e.fault ≡ false → (e.line ≡ 0) × (e.column ≡ 0)

-- the fault of a stop
abbrev pub fault_of : IrStop → IrFault
fault_of (Reading stop) = Text (text_fault stop)
fault_of (Use fault left) = fault

-- where reading stopped at a place, something is wrong with the text
abbrev pub IsToldByText : Stop → Type 0
IsToldByText OutOfMemory = Unit {0}
IsToldByText Crowded = Unit {0}
IsToldByText (At fault left) = is_of_text fault ≡ true

abbrev pub IsTold : IrStop → Type 0
IsTold (Reading stop) = IsToldByText stop
IsTold (Use fault left) = is_wrong fault ≡ true

-- whether it is a fault of a use
abbrev pub is_of_use : IrFault → Bool
is_of_use (Text f) = false
is_of_use UnknownName = true
is_of_use AmbiguousName = true
is_of_use TypeMismatch = true

-- where operations come to use what is named, reading stops at a use, unless memory is wanting
abbrev pub IsToldByUse : IrStop → Type 0
IsToldByUse (Reading OutOfMemory) = Unit {0}
IsToldByUse (Reading Crowded) = ⊥
IsToldByUse (Reading (At fault left)) = ⊥
IsToldByUse (Use fault left) = is_of_use fault ≡ true

-- With at most n levels open the text meets the fault with which reading stopped, unless memory or room for a node was
-- wanting, or it stopped at a use.
abbrev pub IsMet : {K : Type 0} → (find : List ℕ → Option K) → (n : ℕ) → (bytes : List ℕ) → IrStop → Type 0
IsMet find n bytes (Reading stop) = Ends (Unit {0}) stop (whole (ir_op_at find n) bytes)
IsMet find n bytes (Use fault left) = is_of_use fault ≡ true
