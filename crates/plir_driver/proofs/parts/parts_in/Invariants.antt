use Rattle.std.proofs.Common.{◌≡◌, take, map}
use Rattle.std.specs.List.{join_with_byte}
use Rattle.plir_driver.proofs.parts.parts_in.Given as goal

-- the parts so far hold the lines of theirs
abbrev pub invariant-loop-lines : goal.invariant-loop-lines
invariant-loop-lines l =
    map (λ p. p.bytes.items) l.parts.items ≡
    map (λ p. join_with_byte 10 (map (λ w. w.now) p.now)) (take l.lines-index l.cuts)
