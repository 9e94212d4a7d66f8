use Rattle.std.proofs.Common.{◌∙◌}
use Rattle.plir_store.proofs.Agreed.{parent_at_within}
use Rattle.plir_store.proofs.Changes.{IsAgreed-seen, parent_done}
use Rattle.plir_store.proofs.chains.Chains.parent.Goals as goal

pub returns-clause-value : goal.returns-clause-value
returns-clause-value c = c.get.ensures ∙ parent_done c.self.inside.ends.items c.self.inside.links.items c.args.self.now
    c.self.invariant c.self.view_is c.args.child _ c.requires c.index.ensures

pub returns-clause-within : goal.returns-clause-within
returns-clause-within c = rw (returns-clause-value c) (parent_at_within c.args.self.now
    (IsAgreed-seen c.self.inside.ends.items c.self.inside.links.items c.args.self.now c.self.invariant c.self.view_is)
    c.args.child)

pub returns-clause-agreed : goal.returns-clause-agreed
returns-clause-agreed c = IsAgreed-seen c.self.inside.ends.items c.self.inside.links.items c.args.self.now
    c.self.invariant c.self.view_is
