use Rattle.std.proofs.Common.{◌∙◌, ap, sym, take}
use Rattle.plir_store.specs.MemberLaws.{Has-at}
use Rattle.plir_copies.specs.Images.{images}
use Rattle.plir_copies.specs.Twins.{with_twin, with_twins}
use Rattle.plir_copies.specs.ListLaws.{take_next}
use Rattle.plir_copies.proofs.Below.{with-last}
use Rattle.plir_copies.proofs.trees.map_twins.Goals as goal

pub map_twin-requires-clause-live : goal.map_twin-requires-clause-live
map_twin-requires-clause-live g c =
    let i = c.loop-i.i in
    let ws = c.args.twins.now in
    let w = c.twin_at-twin.result in
    c.requires.live w (Has-at ws i w c.twin_at-twin.ensures)

pub map_twin-requires-clause-copy_live : goal.map_twin-requires-clause-copy_live
map_twin-requires-clause-copy_live g c =
    let i = c.loop-i.i in
    let ws = c.args.twins.now in
    let w = c.twin_at-twin.result in
    c.requires.copy_live w (Has-at ws i w c.twin_at-twin.ensures)

pub map_twin-requires-clause-same : goal.map_twin-requires-clause-same
map_twin-requires-clause-same g c =
    let i = c.loop-i.i in
    let ws = c.args.twins.now in
    let w = c.twin_at-twin.result in
    c.requires.same w (Has-at ws i w c.twin_at-twin.ensures)

pub loop-i-preserved : goal.loop-i-preserved
loop-i-preserved g c =
    let i = c.loop-i.i in
    let ws = c.args.twins.now in
    let w = c.twin_at-twin.result in
    let s = c.args.ctx.now in
    let m = images c.args.map.now in
    c.in_ok-map_twin.ensures ∙ ap (λ z. with_twin s z w.node w.copy) c.loop-i.invariant
    ∙ sym (with-last s (take i ws) m w) ∙ ap (with_twins s m) (sym (take_next ws i w c.twin_at-twin.ensures))
