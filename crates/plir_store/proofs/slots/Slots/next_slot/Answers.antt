use Rattle.std.proofs.Common.{◌≡◌, ◌∙◌, ◌≤◌, sym, ap, length, subst, rules}
use Rattle.plir_store.specs.Table.{slot_after}
use Rattle.plir_store.specs.TableLaws.{next_slot-within}
use Rattle.plir_store.proofs.Frees.{whole_now, none_free, head_is, slots_length}
use Rattle.plir_store.proofs.slots.Slots.next_slot.Goals as goal

pub returns-in-Some-clause-value : goal.returns-in-Some-clause-value
returns-in-Some-clause-value g c = head_is c.self.inside.versions.items c.self.inside.places.items c.self.inside.free
    c.self.inside.live c.args.self.now c.self.invariant c.self.view_is c.in-Some.index
    (sym c.get.ensures ∙ c.in-Some.is)

pub returns-in-Some-clause-within : goal.returns-in-Some-clause-within
returns-in-Some-clause-within g c =
    subst (λ n. n ≤ length c.args.self.now.slots) (sym (returns-in-Some-clause-value g c))
    (next_slot-within c.args.self.now (whole_now c.self.inside.versions.items c.self.inside.places.items
    c.self.inside.free c.self.inside.live c.args.self.now c.self.invariant c.self.view_is))

pub returns-in-None-clause-value : goal.returns-in-None-clause-value
returns-in-None-clause-value g c =
    let n : c.len.result ≡ length c.self.inside.places.items = search rules in
    n ∙ sym (slots_length c.self.inside.versions.items c.self.inside.places.items c.self.inside.free c.self.inside.live
    c.args.self.now c.self.invariant c.self.view_is) ∙ ap (slot_after (length c.args.self.now.slots))
    (sym (none_free c.self.inside.versions.items c.self.inside.places.items c.self.inside.free c.self.inside.live
    c.args.self.now c.self.invariant c.self.view_is (sym c.get.ensures ∙ c.in-None.is)))

pub returns-in-None-clause-within : goal.returns-in-None-clause-within
returns-in-None-clause-within g c =
    subst (λ n. n ≤ length c.args.self.now.slots) (sym (returns-in-None-clause-value g c))
    (next_slot-within c.args.self.now (whole_now c.self.inside.versions.items c.self.inside.places.items
    c.self.inside.free c.self.inside.live c.args.self.now c.self.invariant c.self.view_is))
