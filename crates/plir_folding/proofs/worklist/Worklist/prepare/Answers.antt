use Rattle.std.proofs.Common.{◌<◌, ◌^◌, refl, rules, sym, ◌∙◌}
use Rattle.plir_folding.specs.declared.worklist.Worklist.{Worklist}
use Rattle.plir_folding.proofs.Worklists.{prepared-one, removed-listed}
use Rattle.plir_folding.proofs.worklist.Worklist.prepare.Goals as goal

pub returns : goal.returns
returns g c =
    let w = c.args.self.now in
    let m : Worklist = record { listed = c.remove.new.self; waiting = w.waiting } in
    let small : c.loop-place.place < 2 ^ 64 = search rules in
    let t : Worklist = record { listed = c.remove.new.self; waiting = c.push.new.self } in
    prepared-one w m t c.loop-place.self c.args.op
    c.loop-place.place (sym c.remove.ensures.test ∙ c.if-not-remove.false)
    (removed-listed w m c.args.op c.remove.ensures.updates.0) c.if-not-remove.ensures.len refl refl
    c.in_ok-push.ensures.items c.loop-place.invariant small
