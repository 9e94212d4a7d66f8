use Rattle.plir_read_ir.proofs.Noted.{none_noted}
use Rattle.plir_read_ir.proofs.reader.read_linked.Goals as goal

pub read_and_link-requires-clause-ready : goal.read_and_link-requires-clause-ready
read_and_link-requires-clause-ready g c =
    let n = c.new-notes.ensures in
    none_noted c.args.ctx.now c.new-notes.result n.values n.labels n.uses
