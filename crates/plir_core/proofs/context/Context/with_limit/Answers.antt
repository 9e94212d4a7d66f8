use Rattle.plir_core.proofs.context.Context.with_limit.Goals as goal
use Rattle.plir_core.specs.Uses.{uses_of}
use Rattle.plir_core.proofs.Counted.{Counts-empty}
use Rattle.plir_core.proofs.Holds.{whole_empty}

pub invariant_of-result : goal.invariant_of-result
invariant_of-result g c =
    record {
      whole = whole_empty _ c.new.result c.new-2.result c.args.max_nodes c.new.ensures.empty c.new.ensures.stored;
      counted = Counts-empty c.new-3.result (uses_of c.new.result.ops) c.new-3.ensures;
    }

pub returns-clause-whole : goal.returns-clause-whole
returns-clause-whole g c = (invariant_of-result g c).whole
