use Rattle.std.proofs.Common.{◌≡◌, take}
use Rattle.plir_data.proofs.attributes.GivenNamesAttr.try_clone.Given as goal

abbrev pub invariant-loop-name : goal.invariant-loop-name
invariant-loop-name l = l.names.items ≡ take l.name-index l.name-items
