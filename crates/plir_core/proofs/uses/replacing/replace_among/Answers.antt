use Rattle.std.proofs.Common.{◌≡◌, ◌∙◌, refl, ap, get_or, arith}
use Rattle.std.specs.Prelude.{slice_set}
use Rattle.plir_core.specs.Replaced.{replaced}
use Rattle.plir_core.proofs.ReplacedUses.{mapped-rest, mapped-next, mapped-all}
use Rattle.plir_core.proofs.uses.replacing.replace_among.Goals as goal

pub loop-place-init : goal.loop-place-init
loop-place-init c = refl

pub loop-place-preserved : goal.loop-place-preserved
loop-place-preserved c =
    let xs = c.args.values.now.items in
    let n = c.loop-place.place in
    let at = c.index.result.now in
    let e = c.len-place-end.ensures in
    let seen : at ≡ get_or xs n at = c.index.ensures ∙ ap (λ l. get_or l n at) c.loop-place.invariant ∙ mapped-rest
    (replaced c.args.value c.args.other) xs n n at (omega arith) in
    ap (λ l. slice_set l n c.in_place_of.result) c.loop-place.invariant
    ∙ mapped-next (replaced c.args.value c.args.other) xs n at c.in_place_of.result
    (omega (arith, e, c.loop-place-test.true)) (c.in_place_of.ensures ∙ ap (replaced c.args.value c.args.other)
    seen)

pub returns : goal.returns
returns c =
    c.loop-place.invariant ∙ mapped-all (replaced c.args.value c.args.other) c.args.values.now.items c.loop-place.place
    (let e = c.len-place-end.ensures in omega (arith, e, c.loop-place-test.false))
