use Rattle.std.proofs.Common.{◌<◌, ◌^◌, arith}
use Rattle.plir_core.proofs.arena.Arena.new.Goals as goal
use Rattle.plir_core.proofs.Changes.{IsStored-empty}

pub invariant_of-result : goal.invariant_of-result
invariant_of-result g c =
    rw (
      c.new.ensures.empty,
      c.new-2.ensures.empty,
      c.new-3.ensures.empty,
      c.new-4.ensures.empty,
      c.new-5.ensures.empty,
      c.new-6.ensures.empty,
    ) (IsStored-empty c.args.limit (let f : c.args.limit < 2 ^ 32 = omega arith in f))

pub returns-clause-stored : goal.returns-clause-stored
returns-clause-stored g c = invariant_of-result g c
