use Rattle.plir_flow.proofs.SegmentLists.{put-taken, edit-taken}
use Rattle.plir_flow.proofs.laws.put_and_taken_off.Goals as goal

pub returns-clause-list : goal.returns-clause-list
returns-clause-list c = put-taken

pub returns-clause-segment : goal.returns-clause-segment
returns-clause-segment c = edit-taken
