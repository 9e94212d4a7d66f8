use Rattle.std.proofs.Common.{◌≡◌, ◌<◌, true, length, refl, arith}
use Rattle.plir_core.specs.ContextView.{types_from}
use Rattle.plir_roundtrip.specs.ReadableParts.{IsValueReadable}
use Rattle.plir_roundtrip.proofs.ValuesAsked.{one_more, values_from_each, value_from_all}
use Rattle.plir_roundtrip.proofs.values.are_values_readable.Goals as goal

pub places-preserved : goal.places-preserved
places-preserved g c =
    let passed : c.is_value_readable.result ≡ true = cc in
    one_more (IsValueReadable c.args.ctx.now c.args.entity) c.places.place c.places.invariant
    (c.is_value_readable.ensures.0 passed)

pub returns : goal.returns
returns g c =
    (λ t. values_from_each c.args.ctx.now c.args.entity c.places.place (omega arith) c.places.invariant, λ r. refl)

pub returns-then-not-is_value_readable : goal.returns-then-not-is_value_readable
returns-then-not-is_value_readable g c = (
  λ t. absurd (let f : ⊥ = cc in f),
  λ r.
      let below : c.places.place < length (types_from c.args.ctx.now c.args.entity) = omega arith in
      let passed : c.is_value_readable.result ≡ true =
      c.is_value_readable.ensures.1 (value_from_all c.args.ctx.now c.args.entity r c.places.place below) in
      absurd (let f : ⊥ = cc in f),
)
