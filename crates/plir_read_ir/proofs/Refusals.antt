-- Refusals to make a node.
use Rattle.plir_attr_text.specs.declared.fault.Stop.{Stop}
use Rattle.plir_attr_text.specs.declared.fault.Stop.TheVariants.{OutOfMemory, Crowded, At}
use Rattle.plir_read.specs.Stopping.{IsRefusal}

-- a refusal for one want of room is one for another that follows from it
pub refused_as : (P Q : Type 0) (stop : Stop) → (P → Q) → IsRefusal P stop → IsRefusal Q stop
refused_as P Q OutOfMemory f h = tt
refused_as P Q Crowded f h = f h
refused_as P Q (At fault left) f h = absurd h
