use Rattle.std.proofs.Common.{◌∷◌, arith, ap, sym, ◌∙◌, length, rules, length-append}
use Rattle.plir_checks.specs.Lines.{lines_left, lines_of}
use Rattle.plir_checks.proofs.Fronts.{few_lines}
use Rattle.plir_checks.proofs.Seeking.{passed_more}
use Rattle.plir_checks.proofs.meeting.seek_behind.Goals as goal

pub overflow_add-lines : goal.overflow_add-lines
overflow_add-lines c =
    let p = c.loop-behind.invariant.1 in
    omega (
      arith,
      c.well_formed,
      few_lines c.args.text.now,
      p.count,
      ap length p.cut,
      length-append p.front (lines_of c.loop-behind.rest.now),
      ap length c.split_line.ensures,
    )

pub loop-behind-preserved : goal.loop-behind-preserved
loop-behind-preserved c = (
  search rules,
  passed_more c.args.sought.now (lines_of c.args.text.now) (lines_of c.loop-behind.rest.now)
      (lines_of c.in-Some.others.now) c.split_line.result.0.now c.loop-behind.lines c.loop-behind.invariant.1
      (c.split_line.ensures ∙ ap (λ o. c.split_line.result.0.now ∷ lines_left o) c.in-Some.is)
      (sym c.has_text.ensures ∙ c.if-has_text.false),
)
