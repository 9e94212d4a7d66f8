use Rattle.std.proofs.Common.{◌∙◌, sym}
use Rattle.std.specs.Cmp.{unsigned_Decides}
use Rattle.plir_core.proofs.OnlyResult.{owner_live, only_used}
use Rattle.plir_core.proofs.context.Context.is_only_result.Goals as goal

pub get_num_results-requires : goal.get_num_results-requires
get_num_results-requires g c =
    owner_live g.D.OpSet.attr_handles c.args.self.now c.is_live.ensures.whole c.args.value
    (sym c.is_live.ensures.value ∙ c.if-is_live.true) c.in-Op.op (sym c.defining_entity.ensures ∙ c.in-Op.is)

pub returns-then-is_live : goal.returns-then-is_live
returns-then-is_live g c = λ t.
    only_used g.D.OpSet.attr_handles c.args.self.now c.is_live.ensures.whole c.args.value
    (sym c.is_live.ensures.value ∙ c.if-is_live.true) c.in-Op.op (sym c.defining_entity.ensures ∙ c.in-Op.is)
    (sym c.get_num_results.ensures.value ∙ (unsigned_Decides c.get_num_results.result 1).0 t)
