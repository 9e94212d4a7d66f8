use Rattle.std.proofs.Common.{◌≡◌, take}
use Rattle.plir_copies.specs.Images.{images}
use Rattle.plir_copies.specs.Twins.{with_twins}
use Rattle.plir_copies.proofs.trees.map_twins.Given as goal

abbrev pub invariant-loop-i : goal.invariant-loop-i
invariant-loop-i g l = images l.map ≡ with_twins l.ctx (images l.fn.map) (take l.i l.twins)
