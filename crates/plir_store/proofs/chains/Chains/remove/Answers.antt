use Rattle.std.proofs.Common.{◌∙◌, sym}
use Rattle.plir_store.specs.Lists.{without_child}
use Rattle.plir_store.proofs.chains.Chains.remove.Goals.{After-take_out}
use Rattle.plir_store.proofs.Changes.{IsStore, IsAgreed-now, IsAgreed-seen, parent_list_within, prev_read_within}
use Rattle.plir_store.proofs.Changes.{next_read_within, remove_done}
use Rattle.plir_store.proofs.chains.Chains.remove.Goals as goal

pub take_out-requires-clause-list_in : goal.take_out-requires-clause-list_in
take_out-requires-clause-list_in c = parent_list_within c.self.inside.ends.items c.self.inside.links.items
    c.args.self.now c.self.invariant c.self.view_is c.args.child c.in-Some.list c.index-link.result.now c.requires
    c.index-link.ensures (sym c.get.ensures ∙ c.in-Some.is)

pub take_out-requires-clause-prev_in : goal.take_out-requires-clause-prev_in
take_out-requires-clause-prev_in c = prev_read_within c.self.inside.ends.items c.self.inside.links.items c.args.self.now
    c.self.invariant c.self.view_is c.args.child c.in-Some.list c.index-link.result.now c.requires c.index-link.ensures
    (sym c.get.ensures ∙ c.in-Some.is)

pub take_out-requires-clause-next_in : goal.take_out-requires-clause-next_in
take_out-requires-clause-next_in c = next_read_within c.self.inside.ends.items c.self.inside.links.items c.args.self.now
    c.self.invariant c.self.view_is c.args.child c.in-Some.list c.index-link.result.now c.requires c.index-link.ensures
    (sym c.get.ensures ∙ c.in-Some.is)

done : (c : After-take_out) → IsStore c.take_out.new.ends.items c.take_out.new.links.items
    (without_child c.args.self.now c.args.child)
done c =
    remove_done c.self.inside.ends.items c.self.inside.links.items c.args.self.now c.self.invariant c.self.view_is
    c.in-Some.list c.args.child c.index-link.result.now c.take_out.new.ends.items c.take_out.new.links.items
    c.requires c.index-link.ensures (sym c.get.ensures ∙ c.in-Some.is) c.take_out.ensures.ends
    c.take_out.ensures.links

pub invariant_of-self : goal.invariant_of-self
invariant_of-self c = (done c).sound

pub returns-in-Some-clause-after : goal.returns-in-Some-clause-after
returns-in-Some-clause-after c = (done c).view

pub returns-in-Some-clause-agreed : goal.returns-in-Some-clause-agreed
returns-in-Some-clause-agreed c = IsAgreed-now c.take_out.new.ends.items c.take_out.new.links.items (done c).sound

pub returns-in_default-clause-agreed : goal.returns-in_default-clause-agreed
returns-in_default-clause-agreed c = IsAgreed-seen c.self.inside.ends.items c.self.inside.links.items c.args.self.now
    c.self.invariant c.self.view_is
