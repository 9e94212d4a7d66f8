use Rattle.std.proofs.Common.{◌≡◌, ◌++◌, true, is_some, string_bytes, subst, sym, ◌∙◌}
use Rattle.std.specs.Result.{OnOk}
use Rattle.plir_checks.specs.Lines.{comment_of}
use Rattle.plir_checks.proofs.Blanking.{blank_line, is_some_of}
use Rattle.plir_checks.proofs.comments.put_line.Goals as goal

pub returns-then-is_some : goal.returns-then-is_some
returns-then-is_some c =
    let is : is_some (comment_of c.args.line.now) ≡ true =
    sym (is_some_of c.comment_of.result (comment_of c.args.line.now) c.comment_of.ensures)
    ∙ sym c.is_some.ensures ∙ c.if-is_some.true in
    subst (λ z. OnOk c.put_spaces.result (string_bytes c.put_spaces.new.out ≡ string_bytes c.args.out.now ++ z))
    (blank_line c.args.line.now c.characters_of.result is c.characters_of.ensures) c.put_spaces.ensures
