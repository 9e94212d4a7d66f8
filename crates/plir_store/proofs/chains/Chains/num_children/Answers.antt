use Rattle.std.proofs.Common.{◌≡◌, ◌∙◌, sym, length, rules}
use Rattle.plir_store.proofs.Changes.{IsAgreed-seen, num_children_is}
use Rattle.plir_store.proofs.chains.Chains.num_children.Goals as goal

pub returns-clause-value : goal.returns-clause-value
returns-clause-value c =
    let n : c.len.result ≡ length c.self.inside.links.items = search rules in
    n ∙ sym (num_children_is c.self.inside.ends.items c.self.inside.links.items c.args.self.now c.self.invariant
    c.self.view_is)

pub returns-clause-agreed : goal.returns-clause-agreed
returns-clause-agreed c = IsAgreed-seen c.self.inside.ends.items c.self.inside.links.items c.args.self.now
    c.self.invariant c.self.view_is
