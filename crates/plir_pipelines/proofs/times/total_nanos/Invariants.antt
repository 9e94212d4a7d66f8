use Rattle.std.proofs.Common.{◌≡◌, take}
use Rattle.plir_pipelines.specs.Times.{total_nanos}
use Rattle.plir_pipelines.proofs.times.total_nanos.Given as goal

abbrev pub invariant-loop-time : goal.invariant-loop-time
invariant-loop-time l = l.total ≡ total_nanos (take l.time-index l.times)
