use Rattle.std.proofs.Common.{◌≡◌, ◌∙◌, ◌<◌, ap, sym, subst, length, arith, rules}
use Rattle.plir_store.specs.Table.{Cell, num_full, content_at, next_slot, slot_after, IsTable}
use Rattle.plir_store.specs.TableLaws.{num_full-with_new, cell_at-with_new, IsTable-with_new}
use Rattle.plir_store.proofs.slots.Slots.insert.Goals.{After-self-in-Some-2-1, After-self-in-Ok-1}
use Rattle.plir_store.proofs.Frees.{whole_now, head_within, head_usable, version_read, none_free, slots_length}
use Rattle.plir_store.proofs.Frees.{reused_read, pushed_done}
use Rattle.plir_store.proofs.slots.Slots.insert.Goals as goal

pub index_mut-requires : goal.index_mut-requires
index_mut-requires g c =
    let h = head_within c.self.inside.versions.items c.self.inside.places.items c.self.inside.free c.self.inside.live
    c.args.self.now c.self.invariant c.self.view_is c.in-Some.index (sym c.get.ensures ∙ c.in-Some.is) in
    search rules

pub index_mut-requires-in-Some : goal.index_mut-requires-in-Some
index_mut-requires-in-Some g c =
    let h = head_within c.self.inside.versions.items c.self.inside.places.items c.self.inside.free c.self.inside.live
    c.args.self.now c.self.invariant c.self.view_is c.in-Some.index (sym c.get.ensures ∙ c.in-Some.is) in
    let h' : c.in-Some.index < length c.self.inside.versions.items = omega (arith, c.self.invariant.as_many) in
    search rules

pub overflow_add-index_mut : goal.overflow_add-index_mut
overflow_add-index_mut g c =
    let h = head_within c.self.inside.versions.items c.self.inside.places.items c.self.inside.free c.self.inside.live
    c.args.self.now c.self.invariant c.self.view_is c.in-Some.index (sym c.get.ensures ∙ c.in-Some.is) in
    let h' : c.in-Some.index < length c.self.inside.versions.items = omega (arith, c.self.invariant.as_many) in
    let e = version_read c.self.inside.versions.items c.self.inside.places.items c.self.inside.free c.self.inside.live
    c.args.self.now c.self.invariant c.self.view_is c.in-Some.index c.index_mut-in-Some.result.now h'
    c.index_mut-in-Some.ensures.value in
    let small = head_usable c.self.inside.versions.items c.self.inside.places.items c.self.inside.free
    c.self.inside.live c.args.self.now c.self.invariant c.self.view_is c.in-Some.index
    (sym c.get.ensures ∙ c.in-Some.is) in
    omega (arith, e, small)

pub invariant_of-self : goal.invariant_of-self
invariant_of-self g c = (reused_read c.self.inside.versions.items c.self.inside.places.items c.self.inside.free
    c.self.inside.live c.args.self.now c.self.invariant c.self.view_is c.in-Some.index c.index_mut-in-Some.result.now
    c.index_mut.result.now c.fill-next.new.self c.args.value c.fill-next.result (sym c.get.ensures ∙ c.in-Some.is)
    c.index_mut-in-Some.ensures.value c.index_mut.ensures.value c.fill-next.ensures.place c.fill-next.ensures.next
    c.requires.room c.requires.count).sound

pub overflow_cast-index-in-None : goal.overflow_cast-index-in-None
overflow_cast-index-in-None g c =
    let n : c.len-index.result ≡ length c.self.inside.places.items = search rules in
    let next : next_slot c.args.self.now ≡ length c.args.self.now.slots = ap (slot_after (length c.args.self.now.slots))
    (none_free c.self.inside.versions.items c.self.inside.places.items c.self.inside.free c.self.inside.live
    c.args.self.now c.self.invariant c.self.view_is (sym c.get.ensures ∙ c.in-None.is)) in
    omega (
      arith,
      n,
      next,
      slots_length c.self.inside.versions.items c.self.inside.places.items c.self.inside.free
          c.self.inside.live c.args.self.now c.self.invariant c.self.view_is,
      c.requires.room,
    )

pub invariant_of-self-in-Ok : goal.invariant_of-self-in-Ok
invariant_of-self-in-Ok g c = rw (c.in-Ok.ensures.versions, c.in-Ok.ensures.places)
    ((pushed_done c.self.inside.versions.items c.self.inside.places.items c.self.inside.free c.self.inside.live
    c.args.self.now c.self.invariant c.self.view_is c.args.value (sym c.get.ensures ∙ c.in-None.is) c.requires.room
    c.requires.count).sound)

pub returns-in-Some-clause-ok : goal.returns-in-Some-clause-ok
returns-in-Some-clause-ok g c = (reused_read c.self.inside.versions.items c.self.inside.places.items c.self.inside.free
    c.self.inside.live c.args.self.now c.self.invariant c.self.view_is c.in-Some.index c.index_mut-in-Some.result.now
    c.index_mut.result.now c.fill-next.new.self c.args.value c.fill-next.result (sym c.get.ensures ∙ c.in-Some.is)
    c.index_mut-in-Some.ensures.value c.index_mut.ensures.value c.fill-next.ensures.place c.fill-next.ensures.next
    c.requires.room c.requires.count).view

pub returns-in-Some-clause-here : goal.returns-in-Some-clause-here
returns-in-Some-clause-here g c =
    ap (λ t. content_at t (next_slot c.args.self.now)) (returns-in-Some-clause-ok g c) ∙ ap
    (λ (z : Cell g.row.T.Denot). z.content) (cell_at-with_new c.args.self.now c.args.value
    (whole_now c.self.inside.versions.items c.self.inside.places.items c.self.inside.free c.self.inside.live
    c.args.self.now c.self.invariant c.self.view_is))

pub returns-in-Some-clause-count : goal.returns-in-Some-clause-count
returns-in-Some-clause-count g c = ap num_full (returns-in-Some-clause-ok g c) ∙ num_full-with_new c.args.self.now
    c.args.value (whole_now c.self.inside.versions.items c.self.inside.places.items c.self.inside.free
    c.self.inside.live c.args.self.now c.self.invariant c.self.view_is)

pub returns-in-Some-clause-whole : goal.returns-in-Some-clause-whole
returns-in-Some-clause-whole g c =
    subst IsTable (sym (returns-in-Some-clause-ok g c)) (IsTable-with_new c.args.self.now c.args.value
    (whole_now c.self.inside.versions.items c.self.inside.places.items c.self.inside.free c.self.inside.live
    c.args.self.now c.self.invariant c.self.view_is) c.requires.room c.requires.count)

pub returns-in-Ok-clause-slot : goal.returns-in-Ok-clause-slot
returns-in-Ok-clause-slot g c =
    let n : c.len-index.result ≡ length c.self.inside.places.items = search rules in
    n ∙ sym (slots_length c.self.inside.versions.items c.self.inside.places.items c.self.inside.free c.self.inside.live
    c.args.self.now c.self.invariant c.self.view_is) ∙ ap (slot_after (length c.args.self.now.slots))
    (sym (none_free c.self.inside.versions.items c.self.inside.places.items c.self.inside.free c.self.inside.live
    c.args.self.now c.self.invariant c.self.view_is (sym c.get.ensures ∙ c.in-None.is)))

pub returns-in-Ok-clause-ok : goal.returns-in-Ok-clause-ok
returns-in-Ok-clause-ok g c = rw (c.in-Ok.ensures.versions, c.in-Ok.ensures.places)
    ((pushed_done c.self.inside.versions.items c.self.inside.places.items c.self.inside.free c.self.inside.live
    c.args.self.now c.self.invariant c.self.view_is c.args.value (sym c.get.ensures ∙ c.in-None.is) c.requires.room
    c.requires.count).view)

pub returns-in-Ok-clause-here : goal.returns-in-Ok-clause-here
returns-in-Ok-clause-here g c =
    ap (λ t. content_at t (next_slot c.args.self.now)) (returns-in-Ok-clause-ok g c) ∙ ap
    (λ (z : Cell g.row.T.Denot). z.content) (cell_at-with_new c.args.self.now c.args.value
    (whole_now c.self.inside.versions.items c.self.inside.places.items c.self.inside.free c.self.inside.live
    c.args.self.now c.self.invariant c.self.view_is))

pub returns-in-Ok-clause-count : goal.returns-in-Ok-clause-count
returns-in-Ok-clause-count g c = ap num_full (returns-in-Ok-clause-ok g c) ∙ num_full-with_new c.args.self.now
    c.args.value (whole_now c.self.inside.versions.items c.self.inside.places.items c.self.inside.free
    c.self.inside.live c.args.self.now c.self.invariant c.self.view_is)

pub returns-in-Ok-clause-whole : goal.returns-in-Ok-clause-whole
returns-in-Ok-clause-whole g c =
    subst IsTable (sym (returns-in-Ok-clause-ok g c)) (IsTable-with_new c.args.self.now c.args.value
    (whole_now c.self.inside.versions.items c.self.inside.places.items c.self.inside.free c.self.inside.live
    c.args.self.now c.self.invariant c.self.view_is) c.requires.room c.requires.count)
