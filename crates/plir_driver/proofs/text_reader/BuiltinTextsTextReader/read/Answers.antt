use Rattle.std.proofs.Common.{subst}
use Rattle.plir_read.specs.OpGrammar.{OpWithin}
use Rattle.plir_read.specs.Room.{BeginsTooMany, op_count}
use Rattle.plir_driver.proofs.Stopping.{refused}
use Rattle.plir_driver.proofs.text_reader.BuiltinTextsTextReader.read.Goals as goal

pub returns-in-Err-clause-refused : goal.returns-in-Err-clause-refused
returns-in-Err-clause-refused g c =
    refused _ _ c.args.text.now c.in-Err.error.fault c.in-Err.ensures.refused
    (λ many. subst (λ n. BeginsTooMany op_count (OpWithin 200) n c.args.text.now) c.requires
    (c.in-Err.ensures.begins many))
