use Rattle.std.proofs.Common.{◌∙◌, Some, ap, sym}
use Rattle.std.proofs.lemmas.Bool.{false≢true}
use Rattle.std.proofs.lemmas.Option.{same_Some}
use Rattle.plir_arguments.proofs.Members.{same-ptr}
use Rattle.plir_arguments.proofs.testing.is_other.Goals as goal

pub returns-then-i-place : goal.returns-then-i-place
returns-then-i-place g c = (
  λ yes. absurd (false≢true yes),
  λ h. absurd (h.0 c.if-i-place.true),
)

pub returns : goal.returns
returns g c =
    let told = same-ptr c.get_successor.result c.args.block c.eq.result c.eq.ensures in (
      λ yes. (c.if-i-place.false, c.get_successor.ensures.value ∙ ap Some (told.0 yes)),
      λ h. told.1 (same_Some _ _ (sym c.get_successor.ensures.value ∙ h.1)),
    )
