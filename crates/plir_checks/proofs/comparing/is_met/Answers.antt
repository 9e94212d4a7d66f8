use Rattle.std.proofs.Common.{◌≡◌}
use Rattle.plir_checks.specs.Cuts.{has_word}
use Rattle.plir_checks.proofs.Cutting.{has_word_is}
use Rattle.plir_checks.proofs.Taking.{both}
use Rattle.plir_checks.proofs.comparing.is_met.Goals as goal

pub returns-then-expected-came : goal.returns-then-expected-came
returns-then-expected-came c =
    let w : c.contains.result ≡ has_word c.args.expected.now.text.now c.args.came.now.message.now =
    has_word_is c.contains.result _ _ c.contains.ensures.cases in
    both c.args.expected.now.line c.args.came.now.line c.contains.result _ c.if-expected-came.true w
