use Rattle.std.proofs.Common.{Some, None, lit<}
use Rattle.std.proofs.lemmas.Str.Pattern.{split_once_first}
use Rattle.plir_checks.proofs.Fronts.{first_of, only_one}
use Rattle.plir_checks.proofs.lines.split_line.Goals as goal

pub returns-in-Some : goal.returns-in-Some
returns-in-Some c =
    let f = split_once_first 10 c.args.text.now
    (Some (c.in-Some.line, c.in-Some.behind)) c.in-Some.ensures.cases (lit< tt) in
    first_of c.args.text.now c.in-Some.line.now c.in-Some.behind.now f.0 f.1 f.2

pub returns-in-None : goal.returns-in-None
returns-in-None c =
    only_one c.args.text.now (split_once_first 10 c.args.text.now None c.in-None.ensures.cases (lit< tt))
