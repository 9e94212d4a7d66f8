use Rattle.plir_folding.proofs.Worklists.{put-listed}
use Rattle.plir_folding.proofs.worklist.Worklist.put.Goals as goal

pub returns : goal.returns
returns c = put-listed _ _ c.args.op c.in_ok-insert.ensures.updates.0 c.in_ok-push.ensures.items
