use Rattle.std.proofs.Common.{◌↔◌, IsTrue, subst}
use Rattle.plir_data.specs.Types.{AllLive}
use Rattle.plir_data.proofs.HeldHandles.{both_live, not_both_live}
use Rattle.plir_data.proofs.liveness.is_function_live.Goals as goal

pub returns-then-are_live : goal.returns-then-are_live
returns-then-are_live g c =
    let types = c.args.types.now in
    both_live types _ _ _ c.are_live-then-are_live.result
    (subst (λ hs. IsTrue c.are_live.result ↔ AllLive types hs) c.arg_types.ensures c.are_live.ensures)
    (subst (λ hs. IsTrue c.are_live-then-are_live.result ↔ AllLive types hs) c.res_types.ensures
    c.are_live-then-are_live.ensures) c.if-are_live.true

pub returns-else-are_live : goal.returns-else-are_live
returns-else-are_live g c =
    let types = c.args.types.now in
    not_both_live types _ _ _ (subst (λ hs. IsTrue c.are_live.result ↔ AllLive types hs) c.arg_types.ensures
    c.are_live.ensures) c.if-are_live.false
