use Rattle.std.proofs.Common.{◌≡◌, ◌++◌, string_bytes, take}
use Rattle.plir_pipelines.specs.Times.{time_lines}
use Rattle.plir_pipelines.proofs.times.put_lines.Given as goal

abbrev pub invariant-loop-time : goal.invariant-loop-time
invariant-loop-time l = string_bytes l.out ≡ string_bytes l.fn.out ++ time_lines l.total (take l.time-index l.times)
