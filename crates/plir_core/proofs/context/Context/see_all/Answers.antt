use Rattle.plir_core.proofs.Noted.{AreSeen-none}
use Rattle.plir_core.proofs.context.Context.see_all.Goals as goal

pub loop-slot-init : goal.loop-slot-init
loop-slot-init g c = AreSeen-none c.args.self.now c.args.value
