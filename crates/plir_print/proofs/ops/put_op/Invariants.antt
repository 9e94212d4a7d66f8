use Rattle.std.proofs.Common.{◌+◌, ◌*◌, ◌-◌, ◌++◌, length, string_bytes}
use Rattle.plir_core.specs.declared.ptr.IRNode.TheVariants.{Operation}
use Rattle.plir_print.specs.OpText.{op_text}
use Rattle.plir_print.specs.Steps.{IsAt, rank, ranks}
use Rattle.plir_print.proofs.ops.put_op.Given as goal

abbrev pub invariant-steps : goal.invariant-steps
invariant-steps g l =
    IsAt g.D.OpSet l.ctx (Operation l.fn.op) (string_bytes l.fn.out ++ op_text g.D.OpSet l.ctx l.fn.op)
    (string_bytes l.out) l.at

-- a step puts something, or comes to a lower rank
abbrev pub decreases-steps : goal.decreases-steps
decreases-steps g l =
    (length (string_bytes l.fn.out ++ op_text g.D.OpSet l.ctx l.fn.op) - length (string_bytes l.out)) * ranks l.ctx +
    rank l.ctx l.at
