use Rattle.std.proofs.Common.{◌≡◌, ◌∷◌, rules, string_bytes, ap, ◌∙◌}
use Rattle.plir_checks.specs.Comments.{blanked}
use Rattle.plir_checks.specs.Lines.{lines_left, lines_of}
use Rattle.plir_checks.proofs.Blanking.{put_more}
use Rattle.plir_checks.proofs.Feeding.{lines-blanked}
use Rattle.plir_checks.proofs.comments.blank_comments.Goals as goal

pub loop-out-preserved : goal.loop-out-preserved
loop-out-preserved c =
    let line = c.split_line.result.0.now in
    let cut : lines_of c.loop-out.rest.now ≡ line ∷ lines_of c.in-Some.others.now =
    c.split_line.ensures ∙ ap (λ o. line ∷ lines_left o) c.in-Some.is in (
      search rules,
      put_more (string_bytes c.loop-out.out) (string_bytes c.put_line.new.out) c.loop-out.rest.now line
          (blanked c.args.text.now)
          c.loop-out.invariant.1 c.in_ok-put_line.ensures (string_bytes c.push_str.new.self) c.in-Some.others.now cut
          c.in_ok-push_str-in-Some.ensures.bytes,
    )

pub returns-in-None-clause-lines : goal.returns-in-None-clause-lines
returns-in-None-clause-lines c =
    let whole : string_bytes c.put_line.new.out ≡ blanked c.args.text.now = search rules in
    lines-blanked c.args.text.now (string_bytes c.put_line.new.out) whole
