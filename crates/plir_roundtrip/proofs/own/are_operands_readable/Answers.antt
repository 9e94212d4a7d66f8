use Rattle.std.proofs.Common.{◌≡◌, true, refl, sym, subst, arith}
use Rattle.std.proofs.lemmas.Bool.{false≢true}
use Rattle.plir_core.specs.ContextView.{operands_of}
use Rattle.plir_roundtrip.specs.IrReadable.{IsUseReadable}
use Rattle.plir_roundtrip.specs.ReadableParts.{IsValueReadable}
use Rattle.plir_roundtrip.proofs.Climbs.{all_from_each, each_from_all, one_more_at}
use Rattle.plir_roundtrip.proofs.own.are_operands_readable.Goals as goal

pub operands-preserved : goal.operands-preserved
operands-preserved g c =
    let s = c.args.ctx.now in
    let v = c.get_operand-value.result in
    let passed : c.is_value_readable.result ≡ true = cc in
    let here : IsValueReadable s v.entity c.index.result =
    subst (λ e. IsValueReadable s e c.index.result) c.defining_entity.ensures (c.is_value_readable.ensures.0 passed) in
    one_more_at (IsUseReadable g.D.OpSet g.D.ReadSet.find_kind s) (operands_of s c.args.op) c.operands.place v
    c.get_operand-value.ensures.value (subst (IsValueReadable s v.entity) c.index.ensures here) c.operands.invariant

pub returns : goal.returns
returns g c = (
  λ t. all_from_each (IsUseReadable g.D.OpSet g.D.ReadSet.find_kind c.args.ctx.now)
      (operands_of c.args.ctx.now c.args.op) c.operands.place (omega arith) c.operands.invariant,
  λ all. refl,
)

pub returns-then-not-is_value_readable : goal.returns-then-not-is_value_readable
returns-then-not-is_value_readable g c = (
  λ t. absurd (false≢true t),
  λ all.
      let s = c.args.ctx.now in
      let v = c.get_operand-value.result in
      let here : IsValueReadable s v.entity v.index =
      each_from_all (IsUseReadable g.D.OpSet g.D.ReadSet.find_kind s) (operands_of s c.args.op) c.operands.place v
      c.get_operand-value.ensures.value all in
      let placed : IsValueReadable s v.entity c.index.result =
      subst (IsValueReadable s v.entity) (sym c.index.ensures) here in
      let passed : c.is_value_readable.result ≡ true =
      c.is_value_readable.ensures.1
      (subst (λ e. IsValueReadable s e c.index.result) (sym c.defining_entity.ensures) placed) in
      absurd (let f : ⊥ = cc in f),
)
