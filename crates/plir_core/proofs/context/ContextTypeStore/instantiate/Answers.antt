use Rattle.plir_core.proofs.context.ContextTypeStore.instantiate.Goals as goal
use Rattle.plir_core.proofs.Holds.{whole_instantiated}

pub invariant_of-self-2 : goal.invariant_of-self-2
invariant_of-self-2 g c =
    record {
      whole = whole_instantiated _ _ c.self.invariant.whole c.instantiate.new.self _ c.in_ok-handle.handle
          c.in_ok-handle.ensures.ok;
      counted = c.self.invariant.counted;
    }

pub returns-clause-whole : goal.returns-clause-whole
returns-clause-whole g c = (invariant_of-self-2 g c).whole
