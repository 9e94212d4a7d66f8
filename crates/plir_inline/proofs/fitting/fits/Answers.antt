use Rattle.std.proofs.Common.{◌≡◌, ◌∙◌, Some, ap, map, sym}
use Rattle.std.specs.Prelude.{slice_get}
use Rattle.std.proofs.lemmas.Bool.{false≢true}
use Rattle.std.proofs.lemmas.Option.{same_Some}
use Rattle.plir_core.specs.ContextView.{operands_of, type_of_value, types_from}
use Rattle.plir_inline.proofs.Prefixes.{alike, differ, same-next, slice-map}
use Rattle.plir_inline.proofs.fitting.fits.Goals as goal

pub returns-then-ne : goal.returns-then-ne
returns-then-ne g c =
    let s = c.args.ctx.now in
    let i = c.loop-i.i in
    let t = c.get_type-given.result in
    let u = c.get_type.result in
    let wanted = ap (type_of_value s) (sym c.value_of.ensures.value) ∙ c.get_type.ensures.value in
    let given = slice-map (type_of_value s) (operands_of s c.args.giver) i c.get_operand.result c.get_operand.ensures.value
    ∙ ap (λ z. Some z) c.get_type-given.ensures.value in
    let other = slice-map (λ ty. Some ty) (types_from s c.args.owner) i u wanted in (
      λ yes. absurd (false≢true yes),
      λ same. absurd (differ t u (sym c.if-ne.true ∙ c.ne.ensures)
          (same_Some t u (same_Some (Some t) (Some u) (sym given ∙ ap (λ xs. slice_get xs i) same ∙ other)))),
    )

pub loop-i-preserved : goal.loop-i-preserved
loop-i-preserved g c =
    let s = c.args.ctx.now in
    let i = c.loop-i.i in
    let t = c.get_type-given.result in
    let u = c.get_type.result in
    let wanted = ap (type_of_value s) (sym c.value_of.ensures.value) ∙ c.get_type.ensures.value in
    let given = slice-map (type_of_value s) (operands_of s c.args.giver) i c.get_operand.result c.get_operand.ensures.value
    ∙ ap (λ z. Some z) c.get_type-given.ensures.value in
    let other = slice-map (λ ty. Some ty) (types_from s c.args.owner) i u wanted in
    let same : t ≡ u = alike t u (sym c.if-ne.false ∙ c.ne.ensures) in
    same-next (map (type_of_value s) (operands_of s c.args.giver)) (map Some (types_from s c.args.owner)) (Some t) i given
    (other ∙ ap (λ z. Some (Some z)) (sym same)) c.loop-i.invariant
