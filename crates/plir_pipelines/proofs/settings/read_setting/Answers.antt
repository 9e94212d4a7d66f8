use Rattle.std.proofs.Common.{lit<, refl}
use Rattle.std.proofs.lemmas.Str.Pattern.{split_parts}
use Rattle.plir_pipelines.proofs.settings.read_setting.Goals as goal

pub returns-in-None-clause-refused : goal.returns-in-None-clause-refused
returns-in-None-clause-refused c =
    let parts = split_parts 61 c.args.word.now c.split_once.result c.split_once.ensures.cases (lit< tt) in
    (refl, rw c.in-None.is at parts)

pub returns-in-Some-read_number-clause-read : goal.returns-in-Some-read_number-clause-read
returns-in-Some-read_number-clause-read c =
    let parts = split_parts 61 c.args.word.now c.split_once.result c.split_once.ensures.cases (lit< tt) in
    (c.in-Some.number.now, rw c.in-Some.is at parts, c.in-Some-read_number.ensures)

pub returns-in-None-read_number-clause-refused : goal.returns-in-None-read_number-clause-refused
returns-in-None-read_number-clause-refused c =
    let parts = split_parts 61 c.args.word.now c.split_once.result c.split_once.ensures.cases (lit< tt) in
    (rw c.in-Some.is at parts, c.in-None-read_number.ensures)
