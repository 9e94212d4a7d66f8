use Rattle.plir_store.proofs.Changes.{IsAgreed-seen}
use Rattle.plir_store.proofs.chains.Chains.checked.Goals as goal

pub returns-clause-agreed : goal.returns-clause-agreed
returns-clause-agreed c = IsAgreed-seen c.self.inside.ends.items c.self.inside.links.items c.args.self.now
    c.self.invariant c.self.view_is
