use Rattle.std.proofs.Common.{◌≡◌, ◌++◌, take}
use Rattle.plir_core.specs.ListedUses.{uses_from}
use Rattle.plir_core.specs.SameValue.{same_value}
use Rattle.plir_core.proofs.uses.listing.list_operands.Given as goal

abbrev pub invariant-loop-place : goal.invariant-loop-place
invariant-loop-place g l =
    l.uses.items ≡ l.initial.uses.items ++ uses_from (λ x. same_value x l.value) l.op 0 (take l.place l.operands)
