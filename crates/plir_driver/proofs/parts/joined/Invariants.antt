use Rattle.std.proofs.Common.{◌≡◌, take, map}
use Rattle.std.specs.List.{join_with_byte}
use Rattle.plir_driver.proofs.parts.joined.Given as goal

-- the lines so far stand there
abbrev pub invariant-loop-place : goal.invariant-loop-place
invariant-loop-place l = l.bytes.items ≡ join_with_byte 10 (map (λ w. w.now) (take l.place l.lines))
