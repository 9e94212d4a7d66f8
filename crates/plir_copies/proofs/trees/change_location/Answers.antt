use Rattle.plir_core.specs.Room.{no_node}
use Rattle.plir_core.specs.RoomLaws.{come_itself, op_edit_comes}
use Rattle.plir_copies.proofs.trees.change_location.Goals as goal

pub returns-clause-none_come : goal.returns-clause-none_come
returns-clause-none_come g c =
    let s = c.args.ctx.now in
    op_edit_comes s s no_node (come_itself s.nodes) c.set_loc.new.ctx c.args.op _ c.set_loc.ensures.after
