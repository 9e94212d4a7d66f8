use Rattle.std.proofs.Common.{◌∙◌, sym, rules}
use Rattle.plir_store.proofs.Frees.{versions_within, version_read, version_now}
use Rattle.plir_store.proofs.slots.Slots.version.Goals as goal

pub index-requires : goal.index-requires
index-requires g c =
    let h = versions_within c.self.inside.versions.items c.self.inside.places.items c.self.inside.free
    c.self.inside.live c.args.self.now c.self.invariant c.self.view_is c.args.index c.requires in
    search rules

pub returns-clause-value : goal.returns-clause-value
returns-clause-value g c =
    let h = versions_within c.self.inside.versions.items c.self.inside.places.items c.self.inside.free
    c.self.inside.live c.args.self.now c.self.invariant c.self.view_is c.args.index c.requires in
    sym (version_now c.self.inside.versions.items c.self.inside.places.items c.self.inside.free c.self.inside.live
    c.args.self.now c.self.invariant c.self.view_is c.args.index ∙ version_read c.self.inside.versions.items
    c.self.inside.places.items c.self.inside.free c.self.inside.live c.args.self.now c.self.invariant c.self.view_is
    c.args.index c.index.result.now h c.index.ensures)
