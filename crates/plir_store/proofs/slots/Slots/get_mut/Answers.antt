use Rattle.std.proofs.Common.{◌∙◌, refl, rules}
use Rattle.plir_store.proofs.Frees.{slot_within, place_full, content_read, rewritten_done, whole_now}
use Rattle.plir_store.proofs.slots.Slots.get_mut.Goals as goal

pub index_mut-requires : goal.index_mut-requires
index_mut-requires g c =
    let h = slot_within c.self.inside.versions.items c.self.inside.places.items c.self.inside.free c.self.inside.live
    c.args.self.now c.self.invariant c.self.view_is c.args.index c.requires in
    search rules

pub value_mut-requires : goal.value_mut-requires
value_mut-requires g c = place_full c.self.inside.versions.items c.self.inside.places.items c.self.inside.free
    c.self.inside.live c.args.self.now c.self.invariant c.self.view_is c.args.index c.requires c.index_mut.result.now
    c.index_mut.ensures.value

pub invariant_of-self-lent : goal.invariant_of-self-lent
invariant_of-self-lent g c w = (rewritten_done c.self.inside.versions.items c.self.inside.places.items
    c.self.inside.free c.self.inside.live c.args.self.now c.self.invariant c.self.view_is c.args.index c.requires
    w).sound

pub returns : goal.returns
returns g c = (
  (
    refl,
    λ w. (rewritten_done c.self.inside.versions.items c.self.inside.places.items c.self.inside.free
        c.self.inside.live c.args.self.now c.self.invariant c.self.view_is c.args.index c.requires w).view,
  ),
  record {
    writes_back = tt;
    value = content_read c.self.inside.versions.items c.self.inside.places.items c.self.inside.free c.self.inside.live
        c.args.self.now c.self.invariant c.self.view_is c.args.index c.index_mut.result.now
        (slot_within c.self.inside.versions.items c.self.inside.places.items c.self.inside.free c.self.inside.live
        c.args.self.now c.self.invariant c.self.view_is c.args.index c.requires) c.index_mut.ensures.value ∙
        c.value_mut.ensures.value;
    whole = whole_now c.self.inside.versions.items c.self.inside.places.items c.self.inside.free c.self.inside.live
        c.args.self.now c.self.invariant c.self.view_is;
  },
)
