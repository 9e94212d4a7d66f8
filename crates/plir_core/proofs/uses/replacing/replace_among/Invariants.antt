use Rattle.std.proofs.Common.{◌≡◌}
use Rattle.plir_core.specs.Replaced.{replaced}
use Rattle.plir_core.proofs.ReplacedUses.{first_mapped}
use Rattle.plir_core.proofs.uses.replacing.replace_among.Given as goal

abbrev pub invariant-loop-place : goal.invariant-loop-place
invariant-loop-place l = l.values.items ≡ first_mapped (replaced l.value l.other) l.place l.fn.values.items
