use Rattle.std.proofs.Common.{◌≡◌, replicate}
use Rattle.plir_read_ir.proofs.making.repeated.Given as goal

abbrev pub invariant-times : goal.invariant-times
invariant-times l = l.blocks.items ≡ replicate l._time l.block
