use Rattle.std.proofs.Common.{◌+◌, length, Some, ap}
use Rattle.plir_flow.proofs.laws.segments_keep_successors.Goals as goal

pub returns-clause-successors : goal.returns-clause-successors
returns-clause-successors g c = λ op s t segs live edited. edited.successors

pub returns-clause-one_for_each : goal.returns-clause-one_for_each
returns-clause-one_for_each g c = λ n op s t segs live edited. ap (λ bs. Some (length bs + n)) edited.successors
