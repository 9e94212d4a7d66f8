use Rattle.plir_core.proofs.placing.Ptr+BasicBlock.insert_at_back.Goals as goal
use Rattle.plir_core.proofs.Putting.{can_be_put}

pub put_block-requires : goal.put_block-requires
put_block-requires g c =
    can_be_put c.requires.live c.requires.target_live c.requires.unlinked tt c.requires.not_above
