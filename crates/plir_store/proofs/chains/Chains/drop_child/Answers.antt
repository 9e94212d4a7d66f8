use Rattle.std.proofs.Common.{◌≡◌, length, rules}
use Rattle.plir_store.specs.Lists.{without_last_child}
use Rattle.plir_store.proofs.chains.Chains.drop_child.Goals as goal
use Rattle.plir_store.proofs.chains.Chains.drop_child.Goals.{After-truncate}
use Rattle.plir_store.proofs.Changes.{IsStore, IsAgreed-now, drop_child_done}

done : (c : After-truncate) → IsStore c.self.inside.ends.items c.truncate.new.self.items
    (without_last_child c.args.self.now)
done c =
    let n : c.len.result ≡ length c.self.inside.links.items = search rules in
    rw (c.truncate.ensures.items, n) (drop_child_done c.self.inside.ends.items c.self.inside.links.items c.args.self.now
    c.self.invariant c.self.view_is c.requires.some c.requires.loose)

pub invariant_of-self : goal.invariant_of-self
invariant_of-self c = (done c).sound

pub returns-clause-after : goal.returns-clause-after
returns-clause-after c = (done c).view

pub returns-clause-agreed : goal.returns-clause-agreed
returns-clause-agreed c = IsAgreed-now _ _ (done c).sound
