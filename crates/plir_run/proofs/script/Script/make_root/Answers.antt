use Rattle.plir_run.proofs.Lent.{agree-made, agree-refused}
use Rattle.plir_run.proofs.script.Script.make_root.Goals as goal

pub returns-in_err-made : goal.returns-in_err-made
returns-in_err-made c = record {
  agree =
      agree-refused _ _ _ c.requires.agree c.stands.ensures.whole _
      c.new_nodes_keep_agreement.ensures.refused c.in_err-made.ensures.err c.new-made.ensures.given;
}

pub returns : goal.returns
returns c = record {
  agree =
      agree-made _ _ _ c.requires.agree c.stands.ensures.whole _
      c.new_nodes_keep_agreement.ensures.made _ c.in_ok-made.ensures.made c.new-made.ensures.given;
}
