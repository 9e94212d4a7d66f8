use Rattle.std.proofs.Common.{sym, subst}
use Rattle.std.specs.Prelude.{IfSome}
use Rattle.plir_data.specs.AttrLive.{IsHeldLive}
use Rattle.plir_data.specs.AttrSeen.{attr_view}
use Rattle.plir_data.specs.Types.{AllLive, IsLive}
use Rattle.plir_builtin.proofs.Single.{all_one}
use Rattle.plir_builtin.proofs.constant_op.ConstantOp.new.Goals as goal

pub with_attributes-requires-clause-types_live : goal.with_attributes-requires-clause-types_live
with_attributes-requires-clause-types_live g c =
    let types = c.args.ctx.now.types in
    let held =
    subst (λ o. IfSome o (IsHeldLive _ g.D.OpSet.attr_handles (attr_view c.args.value))) c.unwrap-ty.ensures
    c.typed.ensures.live in
    let live = held types c.requires.live in
    subst (AllLive types) (sym c.in_ok-result_types.ensures.value) (all_one (IsLive types) c.unwrap-ty.result live)
