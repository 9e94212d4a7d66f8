use Rattle.std.proofs.Common.{◌∙◌, ap, subst, IsSome, rules}
use Rattle.plir_store.specs.Places.{content_of}
use Rattle.plir_store.proofs.Frees.{slot_within, place_full, content_read}
use Rattle.plir_store.proofs.slots.Slots.get.Goals as goal

pub index-requires : goal.index-requires
index-requires g c =
    let h = slot_within c.self.inside.versions.items c.self.inside.places.items c.self.inside.free c.self.inside.live
    c.args.self.now c.self.invariant c.self.view_is c.args.index c.requires in
    search rules

pub unreachable-requires : goal.unreachable-requires
unreachable-requires g c =
    let full = place_full c.self.inside.versions.items c.self.inside.places.items c.self.inside.free c.self.inside.live
    c.args.self.now c.self.invariant c.self.view_is c.args.index c.requires c.index.result.now c.index.ensures in
    let none = subst (λ p. IsSome (content_of p)) c.in-Vacant.is full in
    cc

pub returns-clause-value : goal.returns-clause-value
returns-clause-value g c =
    content_read c.self.inside.versions.items c.self.inside.places.items c.self.inside.free c.self.inside.live
    c.args.self.now c.self.invariant c.self.view_is c.args.index c.index.result.now
    (slot_within c.self.inside.versions.items c.self.inside.places.items c.self.inside.free c.self.inside.live
    c.args.self.now c.self.invariant c.self.view_is c.args.index c.requires) c.index.ensures ∙ ap content_of
    c.in-Full.is
