use Rattle.std.proofs.Common.{◌≡◌, None, Some, codes, rules, sym}
use Rattle.plir_checks.specs.Cuts.{cut_at}
use Rattle.plir_checks.proofs.Cutting.{cut_around, cut_none, no_close, no_end, no_open, whole}
use Rattle.plir_checks.proofs.expected.word_and_text.Goals as goal

pub returns-in_err-word : goal.returns-in_err-word
returns-in_err-word c =
    let none : cut_at (codes "{{") c.args.told.now ≡ None =
    cut_none (codes "{{") c.args.told.now c.in_err-word.ensures.cases in
    rw (no_open c.args.told.now none) (search rules)

pub returns-in_err-text : goal.returns-in_err-text
returns-in_err-text c =
    let word = c.in_ok-word.word.now in
    let behind = c.in_ok-word.behind.now in
    let opens : cut_at (codes "{{") c.args.told.now ≡ Some (word, behind) =
    cut_around (codes "{{") c.args.told.now word behind c.in_ok-word.ensures.cases in
    let none : cut_at (codes "}}") behind ≡ None = cut_none (codes "}}") behind c.in_err-text.ensures.cases in
    rw (no_close c.args.told.now word behind opens none) (search rules)

pub returns-then-is_empty : goal.returns-then-is_empty
returns-then-is_empty c =
    let word = c.in_ok-word.word.now in
    let behind = c.in_ok-word.behind.now in
    sym (whole c.args.told.now word behind c.in_ok-text.text.now c.in_ok-text.tail.now
    (cut_around (codes "{{") c.args.told.now word behind c.in_ok-word.ensures.cases)
    (cut_around (codes "}}") behind c.in_ok-text.text.now c.in_ok-text.tail.now c.in_ok-text.ensures.cases)
    c.trimmed.result.now c.if-is_empty.ensures c.trimmed.ensures)

pub returns-else-is_empty : goal.returns-else-is_empty
returns-else-is_empty c =
    let word = c.in_ok-word.word.now in
    let behind = c.in_ok-word.behind.now in
    sym (no_end c.args.told.now word behind c.in_ok-text.text.now c.in_ok-text.tail.now
    (cut_around (codes "{{") c.args.told.now word behind c.in_ok-word.ensures.cases)
    (cut_around (codes "}}") behind c.in_ok-text.text.now c.in_ok-text.tail.now c.in_ok-text.ensures.cases)
    c.if-is_empty.ensures)
