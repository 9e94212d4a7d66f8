use Rattle.std.proofs.Common.{None}
use Rattle.plir_store.specs.Lists.{with_first}
use Rattle.plir_store.proofs.chains.Chains.push_front.Goals.{After-put_between}
use Rattle.plir_store.proofs.Changes.{IsStore, IsAgreed-now, first_gap, gap_right, list_within, insert_done}
use Rattle.plir_store.proofs.chains.Chains.push_front.Goals as goal

pub put_between-requires-clause-next_in : goal.put_between-requires-clause-next_in
put_between-requires-clause-next_in c =
    gap_right c.self.inside.ends.items c.self.inside.links.items c.args.self.now c.self.invariant c.self.view_is
    c.args.list None c.index.result.now.first _ (first_gap c.self.inside.ends.items c.self.inside.links.items
    c.args.self.now c.self.invariant c.self.view_is c.args.list c.index.result.now c.requires.list_in
    c.index.ensures)

done : (c : After-put_between) → IsStore c.put_between.new.ends.items c.put_between.new.links.items
    (with_first c.args.self.now c.args.list c.args.child)
done c =
    insert_done c.self.inside.ends.items c.self.inside.links.items c.args.self.now c.self.invariant c.self.view_is
    c.args.list None c.index.result.now.first _ (first_gap c.self.inside.ends.items c.self.inside.links.items
    c.args.self.now c.self.invariant c.self.view_is c.args.list c.index.result.now c.requires.list_in
    c.index.ensures) c.args.child c.put_between.new.ends.items c.put_between.new.links.items
    (list_within c.self.inside.ends.items c.self.inside.links.items c.args.self.now c.self.invariant c.self.view_is
    c.args.list c.requires.list_in) c.requires.child_in c.requires.loose (rw c.none.ensures at
    c.put_between.ensures.ends) (rw c.none.ensures at c.put_between.ensures.links)

pub invariant_of-self : goal.invariant_of-self
invariant_of-self c = (done c).sound

pub returns-clause-after : goal.returns-clause-after
returns-clause-after c = (done c).view

pub returns-clause-agreed : goal.returns-clause-agreed
returns-clause-agreed c = IsAgreed-now c.put_between.new.ends.items c.put_between.new.links.items (done c).sound
