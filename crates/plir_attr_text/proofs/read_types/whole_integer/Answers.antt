use Rattle.plir_attr_text.specs.TypeReading.{integer_at}
use Rattle.plir_attr_text.proofs.Wholes.{whole_fails, whole_reads}
use Rattle.plir_attr_text.proofs.read_types.whole_integer.Goals as goal

pub returns-in-Err : goal.returns-in-Err
returns-in-Err g c =
    record { read = whole_fails integer_at _ c.in-Err.stop c.in-Err.ensures.read; kept = c.in-Err.ensures.kept }

pub returns-in-Ok : goal.returns-in-Ok
returns-in-Ok g c =
    let y = c.in-Ok.ensures.read in
    record {
      read = whole_reads integer_at _ _ _ _ y.0 y.1 y.2.0 y.2.1 c.ended.result c.ended.ensures;
      kept = c.in-Ok.ensures.kept;
    }
