use Rattle.std.proofs.Common.{lit<, refl}
use Rattle.std.proofs.lemmas.Str.Pattern.{strip_suffix_char}
use Rattle.plir_pipelines.proofs.pipeline.inside.Goals as goal

pub returns-in-Some-clause-closed : goal.returns-in-Some-clause-closed
returns-in-Some-clause-closed c =
    let cut = strip_suffix_char 125 c.args.rest.now c.strip_suffix.result c.strip_suffix.ensures.cases
    (lit< tt) in
    rw c.in-Some.is at cut

pub returns-in-None-clause-unclosed : goal.returns-in-None-clause-unclosed
returns-in-None-clause-unclosed c =
    let cut = strip_suffix_char 125 c.args.rest.now c.strip_suffix.result c.strip_suffix.ensures.cases
    (lit< tt) in
    (refl, rw c.in-None.is at cut)
