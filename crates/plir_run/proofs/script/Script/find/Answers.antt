use Rattle.plir_run.proofs.script.Script.find.Goals as goal

pub returns : goal.returns
returns c =
    record {
      agree = record {
        agree = c.lookup_symbol_in_nearest_table.ensures.agree c.requires.agree.agree;
        given = c.lookup_symbol_in_nearest_table.ensures.given c.requires.agree.given;
      };
    }
