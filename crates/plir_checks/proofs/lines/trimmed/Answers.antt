use Rattle.std.proofs.Common.{refl}
use Rattle.std.proofs.lemmas.Str.Ascii.{trim_ascii_is}
use Rattle.plir_checks.specs.Lines.{behind_blanks}
use Rattle.plir_checks.proofs.lines.trimmed.Goals as goal

pub returns : goal.returns
returns c =
    trim_ascii_is c.args.text.now c.trim_ascii.result.now (behind_blanks c.args.text.now) refl
    c.trim_ascii.ensures.value
