use Rattle.std.proofs.Common.{◌∙◌, sym, Some, arith}
use Rattle.plir_store.specs.Lists.{with_before}
use Rattle.plir_store.proofs.chains.Chains.insert_before.Goals.{After-put_between}
use Rattle.plir_store.proofs.Changes.{IsStore, IsAgreed-now, IsAgreed-seen, parent_list_within, before_gap, gap_left}
use Rattle.plir_store.proofs.Changes.{insert_before_done}
use Rattle.plir_store.proofs.chains.Chains.insert_before.Goals as goal

pub put_between-requires-clause-list_in : goal.put_between-requires-clause-list_in
put_between-requires-clause-list_in c = parent_list_within c.self.inside.ends.items c.self.inside.links.items
    c.args.self.now c.self.invariant c.self.view_is c.args.mark c.in-Some.list c.index-at.result.now c.requires.mark_in
    c.index-at.ensures (sym c.get.ensures ∙ c.in-Some.is)

pub put_between-requires-clause-prev_in : goal.put_between-requires-clause-prev_in
put_between-requires-clause-prev_in c = gap_left c.self.inside.ends.items c.self.inside.links.items c.args.self.now
    c.self.invariant c.self.view_is c.in-Some.list c.index-at.result.now.prev (Some c.args.mark) _
    (before_gap c.self.inside.ends.items c.self.inside.links.items c.args.self.now c.self.invariant c.self.view_is
    c.args.mark c.in-Some.list c.index-at.result.now c.requires.mark_in c.index-at.ensures
    (sym c.get.ensures ∙ c.in-Some.is))

pub put_between-requires-clause-list_fits : goal.put_between-requires-clause-list_fits
put_between-requires-clause-list_fits c = omega (
  arith,
  parent_list_within c.self.inside.ends.items
      c.self.inside.links.items c.args.self.now c.self.invariant c.self.view_is c.args.mark c.in-Some.list
      c.index-at.result.now c.requires.mark_in c.index-at.ensures (sym c.get.ensures ∙ c.in-Some.is),
  c.self.invariant.num_lists,
)

done : (c : After-put_between) → IsStore c.put_between.new.ends.items c.put_between.new.links.items
    (with_before c.args.self.now c.args.child c.args.mark)
done c =
    insert_before_done c.self.inside.ends.items c.self.inside.links.items c.args.self.now c.self.invariant
    c.self.view_is c.args.child c.args.mark c.in-Some.list c.index-at.result.now c.put_between.new.ends.items
    c.put_between.new.links.items c.requires.child_in c.requires.mark_in c.requires.loose c.index-at.ensures
    (sym c.get.ensures ∙ c.in-Some.is) (rw c.to-next.ensures at c.put_between.ensures.ends)
    (rw c.to-next.ensures at c.put_between.ensures.links)

pub invariant_of-self : goal.invariant_of-self
invariant_of-self c = (done c).sound

pub returns-in-Some-clause-after : goal.returns-in-Some-clause-after
returns-in-Some-clause-after c = (done c).view

pub returns-in-Some-clause-agreed : goal.returns-in-Some-clause-agreed
returns-in-Some-clause-agreed c = IsAgreed-now c.put_between.new.ends.items c.put_between.new.links.items (done c).sound

pub returns-in_default-clause-agreed : goal.returns-in_default-clause-agreed
returns-in_default-clause-agreed c = IsAgreed-seen c.self.inside.ends.items c.self.inside.links.items c.args.self.now
    c.self.invariant c.self.view_is
