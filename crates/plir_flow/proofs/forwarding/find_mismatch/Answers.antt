use Rattle.std.proofs.Common.{◌≡◌, ◌+◌, ◌<◌, length, true, false, refl, sym, ap, ◌∙◌, arith}
use Rattle.std.proofs.lemmas.Option.{same_Some}
use Rattle.plir_iface.specs.Sides.{type_in}
use Rattle.plir_flow.specs.Branches.{types_within, argument_types}
use Rattle.plir_flow.proofs.Forwarded.{count-within, count-arguments, given-is, wanted-is, same-types, next-alike}
use Rattle.plir_flow.proofs.Forwarded.{differ, alike}
use Rattle.plir_flow.proofs.forwarding.find_mismatch.Goals as goal

pub returns-then-ne-clause-none : goal.returns-then-ne-clause-none
returns-then-ne-clause-none g c =
    let s = c.args.ctx.now in
    let within : c.args.range.start + c.loop-idx.idx < c.args.range.end = omega (arith, c.loop-idx-test.true) in
    let given =
    given-is s c.args.op c.args.range.start c.args.range.end c.loop-idx.idx c.get_operand.result
    c.get_type-forwarded.result within c.get_operand.ensures.value c.get_type-forwarded.ensures.value in
    let wanted = wanted-is s c.args.block c.loop-idx.idx c.get_type-wanted.result c.get_type-wanted.ensures.value in (
      λ h. absurd {A = types_within s c.args.op (c.args.range.start, c.args.range.end) ≡ argument_types s c.args.block}
          (let z : ⊥ = cc h in z),
      λ h. absurd {A = true ≡ false} (differ c.get_type-forwarded.result c.get_type-wanted.result c.if-ne.ensures
          (same_Some c.get_type-forwarded.result c.get_type-wanted.result
          (sym given ∙ ap (λ ts. type_in ts c.loop-idx.idx) h ∙ wanted))),
    )

pub returns-then-ne-clause-some : goal.returns-then-ne-clause-some
returns-then-ne-clause-some g c =
    let s = c.args.ctx.now in
    let within : c.args.range.start + c.loop-idx.idx < c.args.range.end = omega (arith, c.loop-idx-test.true) in
    let given =
    given-is s c.args.op c.args.range.start c.args.range.end c.loop-idx.idx c.get_operand.result
    c.get_type-forwarded.result within c.get_operand.ensures.value c.get_type-forwarded.ensures.value in
    let wanted = wanted-is s c.args.block c.loop-idx.idx c.get_type-wanted.result c.get_type-wanted.ensures.value in
    let given_count = count-within s c.args.op c.args.range.start c.args.range.end c.requires.inside in
    let wanted_count = count-arguments s c.args.block in
    let same : length (types_within s c.args.op (c.args.range.start, c.args.range.end)) ≡
    length (argument_types s c.args.block) = omega (arith, c.if-provided-expected.false) in (
      same,
      given,
      wanted,
      differ c.get_type-forwarded.result c.get_type-wanted.result c.if-ne.ensures,
      c.loop-idx.invariant,
    )

pub loop-idx-preserved : goal.loop-idx-preserved
loop-idx-preserved g c =
    let s = c.args.ctx.now in
    let within : c.args.range.start + c.loop-idx.idx < c.args.range.end = omega (arith, c.loop-idx-test.true) in
    let given =
    given-is s c.args.op c.args.range.start c.args.range.end c.loop-idx.idx c.get_operand.result
    c.get_type-forwarded.result within c.get_operand.ensures.value c.get_type-forwarded.ensures.value in
    let wanted = wanted-is s c.args.block c.loop-idx.idx c.get_type-wanted.result c.get_type-wanted.ensures.value in
    next-alike (types_within s c.args.op (c.args.range.start, c.args.range.end)) (argument_types s c.args.block)
    c.loop-idx.idx c.get_type-forwarded.result c.get_type-wanted.result c.loop-idx.invariant given wanted
    (alike c.get_type-forwarded.result c.get_type-wanted.result c.if-ne.ensures)

pub returns-clause-none : goal.returns-clause-none
returns-clause-none g c =
    let s = c.args.ctx.now in
    let given = count-within s c.args.op c.args.range.start c.args.range.end c.requires.inside in
    let wanted = count-arguments s c.args.block in
    let same : length (types_within s c.args.op (c.args.range.start, c.args.range.end)) ≡
    length (argument_types s c.args.block) = omega (arith, c.if-provided-expected.false) in (
      λ h. same-types (types_within s c.args.op (c.args.range.start, c.args.range.end)) (argument_types s c.args.block)
          same (λ k below. c.loop-idx.invariant k (omega (arith, c.loop-idx-test.false))),
      λ h. refl,
    )
