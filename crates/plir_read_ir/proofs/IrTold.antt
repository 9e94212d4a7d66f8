-- Faults that are told are met.
use Rattle.std.proofs.Common.{◌≡◌, ℕ, true, true≢false, List, Option, Err, sym, ap, ◌∙◌}
use Rattle.plir_attr_text.specs.Faults.{IsOfText}
use Rattle.plir_attr_text.specs.declared.fault.Fault.{Fault}
use Rattle.plir_attr_text.specs.declared.fault.Fault.TheVariants.{Memory, TooManyNodes}
use Rattle.plir_attr_text.specs.declared.fault.Stop.TheVariants.{OutOfMemory, Crowded, At}
use Rattle.plir_read_ir.specs.IrFaults.{IsMet, IsTold, IsToldByUse, fault_of, is_of_use, is_wrong}
use Rattle.plir_read_ir.specs.IrOpReading.{MeetsIr}
use Rattle.plir_read_ir.specs.declared.fault.IrFault.{IrFault}
use Rattle.plir_read_ir.specs.declared.fault.IrFault.TheVariants.{Text, UnknownName, AmbiguousName, TypeMismatch}
use Rattle.plir_read_ir.specs.declared.fault.IrStop.{IrStop}
use Rattle.plir_read_ir.specs.declared.fault.IrStop.TheVariants.{Reading, Use}

same_fault : (f g : Fault) → ◌≡◌ {A = IrFault} (Text f) (Text g) → f ≡ g
same_fault f g e = cc

use_is_wrong : (fault : IrFault) → is_of_use fault ≡ true → is_wrong fault ≡ true
use_is_wrong (Text f) e = absurd (true≢false (sym e))
use_is_wrong UnknownName e = e
use_is_wrong AmbiguousName e = e
use_is_wrong TypeMismatch e = e

module _ {K : Type 0} (find : List ℕ → Option K) (n : ℕ) (bytes : List ℕ) where
  -- a fault of what can't be read is the one that the text meets
  pub told_met : (stop : IrStop) (fault : IrFault) (f : Fault) → fault ≡ fault_of stop → IsMet find n bytes stop →
      fault ≡ Text f → IsOfText f → MeetsIr find n bytes f
  told_met (Reading OutOfMemory) fault f is h e t = absurd (t.0 (same_fault f Memory (sym e ∙ is)))
  told_met (Reading Crowded) fault f is h e t = absurd (t.1 (same_fault f TooManyNodes (sym e ∙ is)))
  told_met (Reading (At g left)) fault f is h e t = h.0 ∙ ap (λ k. Err k) (sym (same_fault f g (sym e ∙ is)))
  told_met (Use u left) fault f is h e t = absurd (true≢false (sym h ∙ ap is_of_use (sym is ∙ e)))

  pub met_told : (stop : IrStop) → IsMet find n bytes stop → IsTold stop
  met_told (Reading OutOfMemory) h = tt
  met_told (Reading Crowded) h = tt
  met_told (Reading (At f left)) h = h.1
  met_told (Use u left) h = use_is_wrong u h

  pub use_met : (stop : IrStop) → IsToldByUse stop → IsMet find n bytes stop
  use_met (Reading OutOfMemory) h = tt
  use_met (Reading Crowded) h = tt
  use_met (Reading (At f left)) h = absurd h
  use_met (Use u left) h = h
