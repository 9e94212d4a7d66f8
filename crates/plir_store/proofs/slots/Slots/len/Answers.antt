use Rattle.std.proofs.Common.{◌≡◌, length, sym, ◌∙◌, rules}
use Rattle.plir_store.proofs.Frees.{slots_length}
use Rattle.plir_store.proofs.slots.Slots.len.Goals as goal

pub returns-clause-value : goal.returns-clause-value
returns-clause-value g c =
    let n : c.len.result ≡ length c.self.inside.places.items = search rules in
    n ∙ sym (slots_length c.self.inside.versions.items c.self.inside.places.items c.self.inside.free c.self.inside.live
    c.args.self.now c.self.invariant c.self.view_is)
