use Rattle.std.proofs.Common.{arith}
use Rattle.plir_flow.proofs.SegmentLists.{sizes-in, flatten-in, in-flatten}
use Rattle.plir_flow.proofs.SegmentsPut.{sum-lengths}
use Rattle.plir_flow.proofs.laws.segments_are_the_one_list.Goals as goal

pub returns-clause-sizes : goal.returns-clause-sizes
returns-clause-sizes c = λ ns vs e. sizes-in ns vs (omega arith)

pub returns-clause-values : goal.returns-clause-values
returns-clause-values c = flatten-in

pub returns-clause-one : goal.returns-clause-one
returns-clause-one c = in-flatten

pub returns-clause-sum : goal.returns-clause-sum
returns-clause-sum c = sum-lengths
