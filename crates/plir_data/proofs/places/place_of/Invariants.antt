use Rattle.std.proofs.Common.{◌-◌, ◌≤◌, length}
use Rattle.plir_data.specs.Places.{AreBefore, AreBehind}
use Rattle.plir_data.proofs.places.place_of.Given as goal

abbrev pub invariant-halves : goal.invariant-halves
invariant-halves g l =
    (l.low ≤ l.high) × (l.high ≤ length l.entries) × AreBefore
    (λ e. e.0) l.entries l.key l.low × AreBehind (λ e. e.0) l.entries l.key l.high

abbrev pub decreases-halves : goal.decreases-halves
decreases-halves g l = l.high - l.low
