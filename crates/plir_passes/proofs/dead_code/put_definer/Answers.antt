use Rattle.std.proofs.Common.{sym, ◌∙◌}
use Rattle.plir_passes.proofs.Using.{definer-again, definer-none}
use Rattle.plir_passes.proofs.dead_code.put_definer.Goals as goal

pub returns-in-Op : goal.returns-in-Op
returns-in-Op c =
    definer-again _ c.args.value c.in-Op.op _ _ (sym c.defining_entity.ensures ∙ c.in-Op.is) c.put_again.ensures

pub returns-in-Block : goal.returns-in-Block
returns-in-Block c = definer-none c.args.value _ _ (sym c.defining_entity.ensures ∙ c.in-Block.is)
