use Rattle.plir_core.proofs.placing.Ptr+Operation.insert_before.Goals as goal
use Rattle.plir_core.proofs.Putting.{can_be_put}

pub put_op-requires : goal.put_op-requires
put_op-requires g c =
    can_be_put c.requires.live c.requires.mark_live c.requires.unlinked c.requires.linked c.requires.not_above
