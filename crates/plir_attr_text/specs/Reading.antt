-- Reading from left to right, with the first fault that is met.
use Rattle.std.specs.Borrow.{Bor}
use Rattle.std.specs.Prelude.{◌≡◌, ◌⊎◌, ℕ, true, List, Result, Ok, Err}
use Rattle.plir_attr_text.specs.declared.fault.Fault.TheVariants.{Memory, TooManyNodes}
use Rattle.plir_attr_text.specs.declared.fault.Stop.TheVariants.{OutOfMemory, Crowded, At}
use Rattle.plir_attr_text.specs.declared.fault.ReadErr.{ReadErr}
use Rattle.plir_attr_text.specs.{Faults.is_of_text, declared.fault.Fault.Fault, declared.fault.Stop.Stop}

-- Reading met this fault of the text, unless memory was wanting. That there is room for no more nodes is an end only
-- where `crowded` holds.
abbrev pub Ends : {Y : Type 0} (crowded : Type 0) → Stop → Result Y Fault → Type 0
Ends crowded OutOfMemory read = Unit {0}
Ends crowded Crowded read = crowded
Ends crowded (At fault left) read = (read ≡ Err fault) × (is_of_text fault ≡ true)

-- reading met this fault, unless memory was wanting: no node is made, so there is room
abbrev pub Fails : {Y : Type 0} → Stop → Result Y Fault → Type 0
Fails stop read = Ends ⊥ stop read

-- what a function answered, seen by view, is what is read, unless memory was wanting
abbrev pub Gives : {X Y : Type 0} → (X → Y) → Result X Stop → Result Y Fault → Type 0
Gives view (Ok x) read = read ≡ Ok (view x)
Gives view (Err stop) read = Fails stop read

-- what a function answered means what is read, unless memory was wanting
abbrev pub Reads : {X Y : Type 0} → (X → Y → Type 0) → Result X Stop → Result Y Fault → Type 0
Reads means (Ok x) read = (y : _) × (read ≡ Ok y) × means x y
Reads means (Err stop) read = Fails stop read

-- the same of what stands first in a text, where what stands behind it is answered beside it
abbrev pub ReadsFirst : {X Y : Type 0} → (X → Y → Type 0) → Result (X × Bor (List ℕ)) Stop → Result (Y × List ℕ) Fault →
    Type 0
ReadsFirst means result read = Reads (λ x y. means x.0 y.0 × (x.1.now ≡ y.1)) result read

-- the fault of a stop
abbrev pub fault_of : Stop → Fault
fault_of OutOfMemory = Memory
fault_of Crowded = TooManyNodes
fault_of (At fault left) = fault

-- What is answered to a whole text: what was read, or the fault of the stop, with no place where nothing is wrong with
-- the text.
abbrev pub IsAnswerOf : {X : Type 0} → Result X Stop → Result X ReadErr → Type 0
IsAnswerOf (Ok x) (Ok y) = y ≡ x
IsAnswerOf (Err stop) (Err e) = (e.fault ≡ fault_of stop) × ((stop ≡ OutOfMemory) ⊎ (stop ≡ Crowded) → (e.line ≡ 0) ×
    (e.column ≡ 0))
IsAnswerOf _ _ = ⊥
