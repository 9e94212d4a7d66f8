-- Reading into a context, with the first fault that is met.
use Rattle.std.specs.Borrow.{Bor}
use Rattle.std.specs.Prelude.{◌≡◌, ℕ, List, Result, Ok, Err}
use Rattle.plir_attr_text.specs.Reading.{Ends}
use Rattle.plir_attr_text.specs.declared.fault.Fault.{Fault}
use Rattle.plir_attr_text.specs.declared.fault.Stop.{Stop}
use Rattle.plir_attr_text.specs.declared.fault.Stop.TheVariants.{OutOfMemory, Crowded, At}

-- what a function answered means what is read, unless memory was wanting, or room for a node where `crowded` holds
abbrev pub ReadsOn : {X Y : Type 0} (crowded : Type 0) → (X → Y → Type 0) → Result X Stop → Result Y Fault → Type 0
ReadsOn crowded means (Ok x) read = (y : _) × (read ≡ Ok y) × means x y
ReadsOn crowded means (Err stop) read = Ends crowded stop read

-- the same of what stands first in a text, where what stands behind it is answered beside it
abbrev pub ReadsOnFirst : {X Y : Type 0} (crowded : Type 0) → (X → Y → Type 0) → Result (X × Bor (List ℕ)) Stop →
    Result (Y × List ℕ) Fault → Type 0
ReadsOnFirst crowded means result read = ReadsOn crowded (λ x y. means x.0 y.0 × (x.1.now ≡ y.1)) result read

-- the same where only what stands behind it is answered
abbrev pub ReadsOnPast : {Y : Type 0} (crowded : Type 0) → (Y → Type 0) → Result (Bor (List ℕ)) Stop →
    Result (Y × List ℕ) Fault → Type 0
ReadsOnPast crowded holds result read = ReadsOn crowded (λ x y. holds y.0 × (x.now ≡ y.1)) result read

-- memory was wanting, or room for a node where `crowded` holds
abbrev pub IsRefusal : (crowded : Type 0) → Stop → Type 0
IsRefusal crowded OutOfMemory = Unit {0}
IsRefusal crowded Crowded = crowded
IsRefusal crowded (At fault left) = ⊥
