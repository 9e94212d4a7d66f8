use Rattle.std.proofs.Common.{◌≡◌, ◌≤◌, ◌<◌, length, ap, arith, rules}
use Rattle.plir_store.specs.Places.{content_of}
use Rattle.plir_store.proofs.Frees.{live_past, live_other, live_vacant, live_full}
use Rattle.plir_store.proofs.slots.Slots.is_live.Goals as goal

pub returns-then-index-len-clause-value : goal.returns-then-index-len-clause-value
returns-then-index-len-clause-value g c =
    let h : length c.self.inside.versions.items ≤ c.args.index = omega (
      arith,
      (let e : c.len.result ≡ length
          c.self.inside.versions.items = search rules in e),
    ) in
    live_past c.self.inside.versions.items c.self.inside.places.items c.self.inside.free c.self.inside.live
    c.args.self.now c.self.invariant c.self.view_is c.args.index c.args.version h

pub returns-then-index-version-clause-value : goal.returns-then-index-version-clause-value
returns-then-index-version-clause-value g c =
    let h : c.args.index < length c.self.inside.versions.items = omega (
      arith,
      (let e : c.len.result ≡ length
          c.self.inside.versions.items = search rules in e),
    ) in
    live_other c.self.inside.versions.items c.self.inside.places.items c.self.inside.free c.self.inside.live
    c.args.self.now c.self.invariant c.self.view_is c.args.index c.args.version c.index.result.now h c.index.ensures
    c.if-index-version.true

pub returns-in-Vacant-clause-value : goal.returns-in-Vacant-clause-value
returns-in-Vacant-clause-value g c =
    let h : c.args.index < length c.self.inside.versions.items = omega (
      arith,
      (let e : c.len.result ≡ length
          c.self.inside.versions.items = search rules in e),
    ) in
    live_vacant c.self.inside.versions.items c.self.inside.places.items c.self.inside.free c.self.inside.live
    c.args.self.now c.self.invariant c.self.view_is c.args.index c.args.version c.index-2.result.now h
    c.index-2.ensures (ap content_of c.in-Vacant.is)

pub returns-in-Full-clause-value : goal.returns-in-Full-clause-value
returns-in-Full-clause-value g c =
    let h : c.args.index < length c.self.inside.versions.items = omega (
      arith,
      (let e : c.len.result ≡ length
          c.self.inside.versions.items = search rules in e),
    ) in
    live_full c.self.inside.versions.items c.self.inside.places.items c.self.inside.free c.self.inside.live
    c.args.self.now c.self.invariant c.self.view_is c.args.index c.args.version c.index.result.now
    c.index-2.result.now _ h c.index.ensures c.index-2.ensures (ap content_of c.in-Full.is) c.if-index-version.false
