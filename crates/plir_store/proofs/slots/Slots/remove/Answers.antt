use Rattle.std.proofs.Common.{◌∙◌, ◌+◌, ◌<◌, ap, sym, subst, length, arith, rules}
use Rattle.plir_store.specs.Table.{num_full, IsTable}
use Rattle.plir_store.specs.TableLaws.{num_full-without_slot, IsTable-without_slot}
use Rattle.plir_store.proofs.Frees.{whole_now, slot_within, place_full, content_read, freed_read, retired_read}
use Rattle.plir_store.proofs.slots.Slots.remove.Goals as goal

pub index_mut-requires : goal.index_mut-requires
index_mut-requires g c =
    let h = slot_within c.self.inside.versions.items c.self.inside.places.items c.self.inside.free c.self.inside.live
    c.args.self.now c.self.invariant c.self.view_is c.args.index c.requires in
    search rules

pub vacate-value-requires : goal.vacate-value-requires
vacate-value-requires g c = place_full c.self.inside.versions.items c.self.inside.places.items c.self.inside.free
    c.self.inside.live c.args.self.now c.self.invariant c.self.view_is c.args.index c.requires c.index_mut.result.now
    c.index_mut.ensures.value

pub index-requires : goal.index-requires
index-requires g c =
    let h = slot_within c.self.inside.versions.items c.self.inside.places.items c.self.inside.free c.self.inside.live
    c.args.self.now c.self.invariant c.self.view_is c.args.index c.requires in
    let h' : c.args.index < length c.self.inside.versions.items = omega (arith, c.self.invariant.as_many) in
    search rules

pub invariant_of-self : goal.invariant_of-self
invariant_of-self g c =
    (freed_read c.self.inside.versions.items c.self.inside.places.items c.self.inside.free c.self.inside.live
    c.args.self.now c.self.invariant c.self.view_is c.args.index c.requires c.index.result.now c.vacate-value.new.self
    c.to-self-inside.result c.index.ensures c.vacate-value.ensures.place c.to-self-inside.ensures
    (omega (arith, c.if-not-is_retired.true))).sound

pub invariant_of-self-else-not-is_retired : goal.invariant_of-self-else-not-is_retired
invariant_of-self-else-not-is_retired g c =
    (retired_read c.self.inside.versions.items c.self.inside.places.items c.self.inside.free c.self.inside.live
    c.args.self.now c.self.invariant c.self.view_is c.args.index c.requires c.index.result.now c.vacate-value.new.self
    c.index.ensures c.vacate-value.ensures.place (omega (arith, c.if-not-is_retired.false))).sound

pub returns-then-not-is_retired-clause-value : goal.returns-then-not-is_retired-clause-value
returns-then-not-is_retired-clause-value g c =
    content_read c.self.inside.versions.items c.self.inside.places.items c.self.inside.free c.self.inside.live
    c.args.self.now c.self.invariant c.self.view_is c.args.index c.index_mut.result.now
    (slot_within c.self.inside.versions.items c.self.inside.places.items c.self.inside.free c.self.inside.live
    c.args.self.now c.self.invariant c.self.view_is c.args.index c.requires) c.index_mut.ensures.value ∙
    c.vacate-value.ensures.value

pub returns-then-not-is_retired-clause-after : goal.returns-then-not-is_retired-clause-after
returns-then-not-is_retired-clause-after g c =
    (freed_read c.self.inside.versions.items c.self.inside.places.items c.self.inside.free c.self.inside.live
    c.args.self.now c.self.invariant c.self.view_is c.args.index c.requires c.index.result.now c.vacate-value.new.self
    c.to-self-inside.result c.index.ensures c.vacate-value.ensures.place c.to-self-inside.ensures
    (omega (arith, c.if-not-is_retired.true))).view

pub returns-then-not-is_retired-clause-count : goal.returns-then-not-is_retired-clause-count
returns-then-not-is_retired-clause-count g c = ap (λ t. num_full t + 1) (returns-then-not-is_retired-clause-after g c) ∙
    num_full-without_slot c.args.self.now c.args.index c.requires

pub returns-then-not-is_retired-clause-whole : goal.returns-then-not-is_retired-clause-whole
returns-then-not-is_retired-clause-whole g c = subst IsTable (sym (returns-then-not-is_retired-clause-after g c))
    (IsTable-without_slot c.args.self.now c.args.index c.requires (whole_now c.self.inside.versions.items
    c.self.inside.places.items c.self.inside.free c.self.inside.live c.args.self.now c.self.invariant c.self.view_is))

pub returns-else-not-is_retired-clause-value : goal.returns-else-not-is_retired-clause-value
returns-else-not-is_retired-clause-value g c =
    content_read c.self.inside.versions.items c.self.inside.places.items c.self.inside.free c.self.inside.live
    c.args.self.now c.self.invariant c.self.view_is c.args.index c.index_mut.result.now
    (slot_within c.self.inside.versions.items c.self.inside.places.items c.self.inside.free c.self.inside.live
    c.args.self.now c.self.invariant c.self.view_is c.args.index c.requires) c.index_mut.ensures.value ∙
    c.vacate-value.ensures.value

pub returns-else-not-is_retired-clause-after : goal.returns-else-not-is_retired-clause-after
returns-else-not-is_retired-clause-after g c =
    (retired_read c.self.inside.versions.items c.self.inside.places.items c.self.inside.free c.self.inside.live
    c.args.self.now c.self.invariant c.self.view_is c.args.index c.requires c.index.result.now c.vacate-value.new.self
    c.index.ensures c.vacate-value.ensures.place (omega (arith, c.if-not-is_retired.false))).view

pub returns-else-not-is_retired-clause-count : goal.returns-else-not-is_retired-clause-count
returns-else-not-is_retired-clause-count g c = ap (λ t. num_full t + 1) (returns-else-not-is_retired-clause-after g c) ∙
    num_full-without_slot c.args.self.now c.args.index c.requires

pub returns-else-not-is_retired-clause-whole : goal.returns-else-not-is_retired-clause-whole
returns-else-not-is_retired-clause-whole g c = subst IsTable (sym (returns-else-not-is_retired-clause-after g c))
    (IsTable-without_slot c.args.self.now c.args.index c.requires (whole_now c.self.inside.versions.items
    c.self.inside.places.items c.self.inside.free c.self.inside.live c.args.self.now c.self.invariant c.self.view_is))
