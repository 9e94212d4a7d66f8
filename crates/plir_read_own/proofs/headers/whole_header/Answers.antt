use Rattle.std.proofs.lemmas.Result.{err_from_is_err_and}
use Rattle.plir_attr_text.specs.laws.TypeSteps.{behind_is}
use Rattle.plir_read_own.specs.OwnReading.{header_at}
use Rattle.plir_read_own.proofs.Wholes.{whole_fails, whole_fails_behind, whole_read}
use Rattle.plir_read_own.proofs.headers.whole_header.Goals as goal

pub returns-in-Err : goal.returns-in-Err
returns-in-Err g c = record {
  read = whole_fails (header_at g.D.ReadSet.find_kind 199) _ c.in-Err.stop c.in-Err.ensures.read;
  kept = c.in-Err.ensures.kept;
}

pub returns-in_err-read_end : goal.returns-in_err-read_end
returns-in_err-read_end g c =
    let p = err_from_is_err_and c.from_residual.result c.from_residual.ensures.1 in
    let y = c.in-Ok.ensures.read in
    record {
      read = rw (p.1, p.2)
          (whole_fails_behind (header_at g.D.ReadSet.find_kind 199) _ c.in_err-read_end.field-0.0 y.0.0
          c.in-Ok.read.1.now (behind_is _ y.0 c.in-Ok.read.1.now y.1 y.2.1) c.in_err-read_end.ensures);
      kept = c.in-Ok.ensures.kept;
    }

pub returns : goal.returns
returns g c =
    let y = c.in-Ok.ensures.read in
    record {
      read = (
        y.0.0,
        whole_read (header_at g.D.ReadSet.find_kind 199) _ y.0.0 c.in-Ok.read.1.now _
            (behind_is _ y.0 c.in-Ok.read.1.now y.1 y.2.1) c.in_ok-read_end.ensures,
        y.2.0,
      );
      kept = c.in-Ok.ensures.kept;
    }
