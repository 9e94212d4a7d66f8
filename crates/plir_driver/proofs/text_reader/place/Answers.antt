use Rattle.std.proofs.Common.{◌≡◌, ◌∙◌}
use Rattle.plir_core.specs.declared.ptr.IRNode.TheVariants.{Operation}
use Rattle.plir_driver.proofs.text_reader.place.Goals as goal

pub returns-in-Ok-clause-live : goal.returns-in-Ok-clause-live
returns-in-Ok-clause-live g c = c.place_operations.ensures.keeps.live (Operation c.args.op) ∙ c.requires
