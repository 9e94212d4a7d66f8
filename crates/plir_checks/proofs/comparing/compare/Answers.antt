use Rattle.std.proofs.Common.{◌≡◌, None, arith}
use Rattle.std.proofs.lemmas.Grind.{common_steps}
use Rattle.plir_checks.specs.Comparing.{difference}
use Rattle.plir_checks.proofs.Matching.{matched}
use Rattle.plir_checks.proofs.comparing.compare.Goals as goal

pub returns-in-empty-clause-matched : goal.returns-in-empty-clause-matched
returns-in-empty-clause-matched c =
    let none : difference 0 c.args.expected.now c.args.came.now ≡ None = grind (arith, common_steps) in
    matched 0 c.args.expected.now c.args.came.now none
