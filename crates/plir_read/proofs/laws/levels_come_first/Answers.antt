use Rattle.plir_read.proofs.LevelsFirst.{fewer_levels, too_few_levels}
use Rattle.plir_read.proofs.laws.levels_come_first.Goals as goal

pub returns-clause-fewer : goal.returns-clause-fewer
returns-clause-fewer c m n text f le h = fewer_levels m n text f le h

pub returns-clause-too_few : goal.returns-clause-too_few
returns-clause-too_few c m n text w s lt = too_few_levels m n text w s lt
