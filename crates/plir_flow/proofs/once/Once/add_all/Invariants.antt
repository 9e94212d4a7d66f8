use Rattle.std.proofs.Common.{List, ◌++◌, take}
use Rattle.plir_flow.specs.Taken.{IsOnceEach}
use Rattle.plir_flow.proofs.once.Once.add_all.Given as goal

abbrev pub invariant-loop-value : goal.invariant-loop-value
invariant-loop-value g l =
    (xs : List g.row.T.Denot) → IsOnceEach xs l.initial.self
    → IsOnceEach (xs ++ take l.value-index l.values) l.self
