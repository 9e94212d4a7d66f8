use Rattle.std.proofs.Common.{length, sym, ap}
use Rattle.plir_core.specs.ContextView.{op_at}
use Rattle.plir_passes_calls.proofs.Held.{named-in, none-in}
use Rattle.plir_passes_calls.proofs.symbols.toy.num_callees.Goals as goal

pub returns-in-Some : goal.returns-in-Some
returns-in-Some g c = sym (ap length (named-in (op_at c.args.ctx.now c.args.op) _ c.in-Some.ensures))

pub returns-in-None : goal.returns-in-None
returns-in-None g c = sym (ap length (none-in (op_at c.args.ctx.now c.args.op) c.in-None.ensures))
