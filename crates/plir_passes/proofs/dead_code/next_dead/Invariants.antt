use Rattle.std.specs.Prelude.{◌≡◌, length}
use Rattle.plir_passes.proofs.Pending.{StillWaits}
use Rattle.plir_passes.proofs.dead_code.next_dead.Given as goal

abbrev pub invariant-waiting : goal.invariant-waiting
invariant-waiting g l =
    (l.list.listed.keys ≡ l.fn.list.listed.keys) ×
    StillWaits g.D.EffectSet.has_effect g.D.OpSet.is_terminator l.ctx l.fn.list l.list

abbrev pub decreases-waiting : goal.decreases-waiting
decreases-waiting g l = length l.list.waiting.items
