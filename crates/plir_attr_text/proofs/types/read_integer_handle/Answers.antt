use Rattle.std.proofs.Common.{refl}
use Rattle.plir_attr_text.specs.{Terms.integer_type, laws.Growth.Adds-one}
use Rattle.plir_attr_text.proofs.types.read_integer_handle.Goals as goal

pub returns-clause-kept : goal.returns-clause-kept
returns-clause-kept g c =
    let h = c.in_ok-handle.ensures in
    let read = c.in_ok-signedness in
    Adds-one _ _ _ _ (integer_type read.signedness read.width)
    (((read.signedness, read.width), read.rest.now), read.ensures, refl) (λ k e. e) h.ok h.rest
