use Rattle.std.proofs.Common.{refl, ◌≡◌, ℕ, List}
use Rattle.plir_attr_text.specs.laws.TypeSteps.{behind_is}
use Rattle.plir_read.specs.OpTerms.{BlockHead}
use Rattle.plir_read.proofs.OpSteps.{block_head_is}
use Rattle.plir_read.specs.laws.OpEnds.{arguments_start}
use Rattle.plir_read.specs.laws.TypesNamed.{behind_named}
use Rattle.plir_attr_text.specs.laws.StepLaws.{done}
use Rattle.plir_read.specs.HeldTypes.{IsHeldByBlockHead}
use Rattle.plir_read.specs.OpReading.{block_head_at}
use Rattle.plir_read.proofs.Held.{held_is}
use Rattle.plir_read.proofs.arguments.read_block_head.Goals as goal

pub returns-in_ok-label-in-Ok-clause-read : goal.returns-in_ok-label-in-Ok-clause-read
returns-in_ok-label-in-Ok-clause-read g c =
    let y = c.in-Ok.ensures.read in (
      ((c.in_ok-name.name, y.0.0), c.in_ok-end-in-Ok.end.now),
      block_head_is c.args.levels _ _ _ _ _ _ y.0.0 c.in_ok-start.ensures c.in_ok-name.ensures
          (behind_is _ y.0 c.in-Ok.read.1.now y.1 y.2.1) c.in_ok-end-in-Ok.ensures,
      (record { label = c.in_ok-label-in-Ok.ensures.given; arguments = y.2.0 }, refl),
    )

pub returns-in_ok-label-in-Ok-clause-named : goal.returns-in_ok-label-in-Ok-clause-named
returns-in_ok-label-in-Ok-clause-named g c =
    behind_named _ _ _ _ (arguments_start _ _ _ _ c.in_ok-start.ensures c.in_ok-name.ensures) c.in-Ok.ensures.named

pub returns-in_err-label-in-Ok-clause-named : goal.returns-in_err-label-in-Ok-clause-named
returns-in_err-label-in-Ok-clause-named g c =
    behind_named _ _ _ _ (arguments_start _ _ _ _ c.in_ok-start.ensures c.in_ok-name.ensures) c.in-Ok.ensures.named

pub returns-in_err-end-in-Ok-clause-named : goal.returns-in_err-end-in-Ok-clause-named
returns-in_err-end-in-Ok-clause-named g c =
    behind_named _ _ _ _ (arguments_start _ _ _ _ c.in_ok-start.ensures c.in_ok-name.ensures) c.in-Ok.ensures.named

pub returns-in-Err-clause-named : goal.returns-in-Err-clause-named
returns-in-Err-clause-named g c =
    behind_named _ _ _ _ (arguments_start _ _ _ _ c.in_ok-start.ensures c.in_ok-name.ensures) c.in-Err.ensures.named

pub returns-in_ok-label-in-Ok-clause-held : goal.returns-in_ok-label-in-Ok-clause-held
returns-in_ok-label-in-Ok-clause-held g c =
    let y = c.in-Ok.ensures.read in
    let z : BlockHead × List ℕ = ((c.in_ok-name.name, y.0.0), c.in_ok-end-in-Ok.end.now) in
    let whole : block_head_at c.args.levels c.args.bytes.now ≡ done z =
    block_head_is c.args.levels _ _ _ _ _ _ y.0.0 c.in_ok-start.ensures c.in_ok-name.ensures
    (behind_is _ y.0 c.in-Ok.read.1.now y.1 y.2.1) c.in_ok-end-in-Ok.ensures in
    λ x e. held_is IsHeldByBlockHead _ z x _ _ whole e (c.in-Ok.ensures.held y.0 y.1)
