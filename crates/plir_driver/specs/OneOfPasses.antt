-- What passes of one of two kinds say of themselves.
use Rattle.plir_pipelines.specs.declared.one_of.OneOf.{OneOf}
use Rattle.plir_pipelines.specs.declared.one_of.OneOf.TheVariants.{First, Second}
use Rattle.plir_driver.specs.PassRules.{RunRule, StopRule}

module _ {P Q K A T : Type 0} where
  -- what a run leaves by the kind of the pass
  abbrev pub HasPassedByKind : RunRule P K A T → RunRule Q K A T → RunRule (OneOf P Q) K A T
  HasPassedByKind first second (First p) = first p
  HasPassedByKind first second (Second q) = second q

  -- when a run may stop by the kind of the pass
  abbrev pub MayStopByKind : StopRule P K A T → StopRule Q K A T → StopRule (OneOf P Q) K A T
  MayStopByKind first second (First p) = first p
  MayStopByKind first second (Second q) = second q
