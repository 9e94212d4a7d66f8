use Rattle.std.proofs.Common.{refl}
use Rattle.plir_store.specs.FilterLaws.{not-both}
use Rattle.plir_driver.proofs.transform.print_text.Goals as goal

pub returns-then-not-is_printable-clause-unprinted : goal.returns-then-not-is_printable-clause-unprinted
returns-then-not-is_printable-clause-unprinted g c =
    (refl, λ p. not-both _ (c.is_printable.ensures.value.1 p) c.if-not-is_printable.true)
