use Rattle.std.proofs.Common.{[], refl, ap, subst}
use Rattle.plir_attr_text.specs.AttrReading.{name_at}
use Rattle.plir_attr_text.specs.Reading.{Fails}
use Rattle.plir_read_own.specs.OwnReading.{if_name, names_before}
use Rattle.plir_read_ir.proofs.openings.read_names_before.Goals as goal

pub returns-in-Err-At : goal.returns-in-Err-At
unfolding names_before
returns-in-Err-At c =
    let read = name_at c.args.bytes.now in
    let fault = (subst (λ z. Fails z read) c.in-Err-At.field-0-is c.in-Err-At.ensures.read).0 in
    (([], c.args.bytes.now), ap (if_name c.args.bytes.now) fault, (c.no_names.ensures, refl))
