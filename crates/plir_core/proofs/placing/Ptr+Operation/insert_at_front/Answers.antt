use Rattle.plir_core.proofs.placing.Ptr+Operation.insert_at_front.Goals as goal
use Rattle.plir_core.proofs.Putting.{can_be_put}

pub put_op-requires : goal.put_op-requires
put_op-requires g c =
    can_be_put c.requires.live c.requires.target_live c.requires.unlinked tt c.requires.not_above
