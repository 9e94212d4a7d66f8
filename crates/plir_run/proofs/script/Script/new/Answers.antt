use Rattle.plir_run.proofs.Lent.{agree-still}
use Rattle.plir_run.proofs.script.Script.new.Goals as goal

pub returns : goal.returns
returns c =
    record {
      agree = agree-still _ _ _
          (record { agree = c.no_tables_agree.ensures.agree; given = c.no_tables_agree.ensures.given }) c.new.result
          c.new.ensures;
    }
