-- Which faults are of a text.
use Rattle.std.specs.Prelude.{◌≡◌, ◌≢◌, Bool, true, false}
use Rattle.plir_attr_text.specs.declared.fault.Fault.TheVariants.{Memory, TooManyNodes}
use Rattle.plir_attr_text.specs.{declared.fault.Fault.Fault, declared.fault.ReadErr.ReadErr}

-- whether something is wrong with the text: it isn't where memory or room for a node is wanting
abbrev pub is_of_text : Fault → Bool
is_of_text Memory = false
is_of_text TooManyNodes = false
is_of_text _ = true

-- something is wrong with the text
abbrev pub IsOfText : Fault → Type 0
IsOfText f = (f ≢ Memory) × (f ≢ TooManyNodes)

-- where nothing is wrong with the text, no place is told
abbrev pub HasNoPlace : ReadErr → Type 0
HasNoPlace e = is_of_text e.fault ≡ false → (e.line ≡ 0) × (e.column ≡ 0)
