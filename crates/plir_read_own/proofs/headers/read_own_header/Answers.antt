use Rattle.std.proofs.Common.{[], ap, sym, ◌∙◌}
use Rattle.plir_attr_text.specs.Wholes.{whole}
use Rattle.plir_read_own.specs.OwnReading.{header_at}
use Rattle.plir_read_own.specs.laws.TypeLists.{end_kept}
use Rattle.plir_read_own.proofs.Wholes.{told, no_place, header_text_found, header_text_refused}
use Rattle.plir_read_own.proofs.headers.read_own_header.Goals as goal

pub returns-in-Ok : goal.returns-in-Ok
returns-in-Ok g c =
    let y = c.in-Ok.ensures.read in
    let find = g.D.ReadSet.find_kind in
    record {
      found = (
        y.0,
        header_text_found find 199 _ y.0
            (ap (whole (header_at find 199)) (sym c.as_bytes-bytes.ensures.value) ∙ y.1),
        y.2,
      );
      refused = tt;
      met = tt;
      placeless = tt;
      kept = end_kept _ _ _ _ ([], sym c.as_bytes-bytes.ensures.value) c.in-Ok.ensures.kept;
    }

pub returns-in-Err : goal.returns-in-Err
returns-in-Err g c =
    let h = c.in-Err.ensures in
    let find = g.D.ReadSet.find_kind in
    record {
      found = tt;
      refused = λ n w s. header_text_refused find 199 _ _
          (ap (whole (header_at find 199)) (sym c.as_bytes-bytes.ensures.value) ∙
          told c.in-Err.stop _ _ c.placed.ensures.fault h.read n) w s;
      met = λ n. ap (whole (header_at find 199)) (sym c.as_bytes-bytes.ensures.value) ∙
          told c.in-Err.stop _ _ c.placed.ensures.fault h.read n;
      placeless = no_place c.in-Err.stop _ _ c.placed.ensures.fault c.placed.ensures.nowhere h.read;
      kept = end_kept _ _ _ _ ([], sym c.as_bytes-bytes.ensures.value) h.kept;
    }
