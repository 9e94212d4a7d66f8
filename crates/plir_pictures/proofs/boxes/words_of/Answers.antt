use Rattle.std.proofs.Common.{sym, ◌∙◌}
use Rattle.plir_pictures.proofs.Rows.{shown-printable}
use Rattle.plir_pictures.proofs.boxes.words_of.Goals as goal

pub print_op-requires-clause-printable : goal.print_op-requires-clause-printable
print_op-requires-clause-printable g c =
    shown-printable c.args.ctx.now c.args.op (sym c.shows_text.ensures ∙ c.if-shows_text.true)
