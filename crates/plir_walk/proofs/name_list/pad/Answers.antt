use Rattle.std.proofs.Common.{arith}
use Rattle.plir_walk.proofs.NameLists.{pad-more}
use Rattle.plir_walk.proofs.name_list.pad.Goals as goal

pub loop-names-preserved : goal.loop-names-preserved
loop-names-preserved c =
    let r = pad-more c.args.names.now.items c.loop-names.names.items c.push.new.self.items c.loop-names.invariant.0
    c.loop-names.invariant.1 c.in_ok-push.ensures.items in
    let more = r.1 in
    let le = c.loop-names.invariant.1 in
    let len = c.len.ensures in
    let test = c.loop-names-test.true in
    (r.0, omega arith, omega arith)
