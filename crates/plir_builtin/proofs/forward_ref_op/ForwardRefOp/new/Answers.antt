use Rattle.std.proofs.Common.{sym, subst}
use Rattle.std.proofs.lemmas.Option.{slice_get_within}
use Rattle.plir_data.specs.Types.{AllLive, IsLive}
use Rattle.plir_builtin.proofs.Single.{all_one}
use Rattle.plir_builtin.proofs.forward_ref_op.ForwardRefOp.new.Goals as goal

pub new-requires-clause-types_live : goal.new-requires-clause-types_live
new-requires-clause-types_live g c =
    let types = c.get.new.ctx.types in
    let live = slice_get_within types c.in-Ok.ty _ c.in-Ok.ensures.ok.named in
    subst (AllLive types) (sym c.in_ok-result_types.ensures.value)
    (all_one (IsLive types) c.into.result (subst (IsLive types) (sym c.into.ensures) live))
