use Rattle.plir_print.proofs.OneLevel.{op-level, region-level, block-level}
use Rattle.plir_print.proofs.laws.texts_leave_out_no_level.Goals as goal

pub returns : goal.returns
returns g c s whole =
    let st = c.contexts_stand.ensures s whole in
    record {
      whole = op-level g.D.OpSet s st 0;
      ops = op-level g.D.OpSet s st;
      regions = region-level g.D.OpSet s st;
      blocks = block-level g.D.OpSet s st;
    }
