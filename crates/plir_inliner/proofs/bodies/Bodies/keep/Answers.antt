use Rattle.std.proofs.Common.{true}
use Rattle.plir_inliner.proofs.Remembered.{keep-right}
use Rattle.plir_inliner.proofs.bodies.Bodies.keep.Goals as goal

pub returns : goal.returns
returns g c =
    keep-right g.D.OpSet.is_symbol g.D.CallSet.call g.D.CallSet.returned c.args.ctx.now c.args.self.now
    (record { told = c.insert.new.self; is_any_refused = true }) c.args.block c.args.told c.requires
    c.in_ok-insert.ensures.updates.0
