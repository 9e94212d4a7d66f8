use Rattle.std.proofs.Common.{codes, drop, arith}
use Rattle.std.proofs.lemmas.List.{drop_all}
use Rattle.plir_print.specs.EdgeText.{use_text}
use Rattle.plir_data.specs.TextLaws.{ended}
use Rattle.plir_print.proofs.edges.put_reads.Goals as goal

pub returns : goal.returns
returns g c =
    ended (codes ", ") (use_text c.args.ctx.now) c.reads.is_first _ _ (drop c.reads.operand-index c.args.reads.now)
    (drop_all c.reads.operand-index c.args.reads.now (omega arith)) c.reads.invariant
