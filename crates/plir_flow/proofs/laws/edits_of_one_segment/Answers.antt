use Rattle.plir_flow.proofs.SegmentLists.{count-edit, edit-here, edit-others}
use Rattle.plir_flow.proofs.laws.edits_of_one_segment.Goals as goal

pub returns-clause-count : goal.returns-clause-count
returns-clause-count c = count-edit

pub returns-clause-here : goal.returns-clause-here
returns-clause-here c = edit-here

pub returns-clause-others : goal.returns-clause-others
returns-clause-others c = edit-others
