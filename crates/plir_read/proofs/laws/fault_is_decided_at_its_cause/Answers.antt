use Rattle.plir_read.proofs.DecidedTexts.{fault_decided}
use Rattle.plir_read.proofs.laws.fault_is_decided_at_its_cause.Goals as goal

pub returns : goal.returns
returns c n text f h = fault_decided n text f h
