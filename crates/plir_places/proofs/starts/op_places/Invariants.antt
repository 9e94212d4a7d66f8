use Rattle.std.proofs.Common.{◌≡◌, ◌++◌, length}
use Rattle.plir_places.specs.OpPlaces.{op_places, places_in}
use Rattle.plir_places.proofs.starts.op_places.Given as goal

-- the places so far, and those in what is left
abbrev pub invariant-bytes : goal.invariant-bytes
invariant-bytes l = l.places.items ++ places_in l.spot l.lead l.rest ≡ op_places l.text

abbrev pub decreases-bytes : goal.decreases-bytes
decreases-bytes l = length l.rest
