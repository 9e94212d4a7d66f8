use Rattle.std.proofs.Common.{◌∙◌}
use Rattle.plir_store.proofs.Agreed.{last_of_within}
use Rattle.plir_store.proofs.Changes.{IsAgreed-seen, last_done}
use Rattle.plir_store.proofs.chains.Chains.last.Goals as goal

pub returns-clause-value : goal.returns-clause-value
returns-clause-value c = c.get.ensures ∙ last_done c.self.inside.ends.items c.self.inside.links.items c.args.self.now
    c.self.invariant c.self.view_is c.args.list _ c.requires c.index.ensures

pub returns-clause-within : goal.returns-clause-within
returns-clause-within c = rw (returns-clause-value c) (last_of_within c.args.self.now
    (IsAgreed-seen c.self.inside.ends.items c.self.inside.links.items c.args.self.now c.self.invariant c.self.view_is)
    c.args.list)

pub returns-clause-agreed : goal.returns-clause-agreed
returns-clause-agreed c = IsAgreed-seen c.self.inside.ends.items c.self.inside.links.items c.args.self.now
    c.self.invariant c.self.view_is
