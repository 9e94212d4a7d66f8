use Rattle.plir_iface.proofs.result_types.ResultsMNOfType.verify.Goals as goal

pub returns-clause-ok : goal.returns-clause-ok
returns-clause-ok g c = rw (c.get_operation.ensures, c.within-places.ensures) at c.verify_at.ensures.ok
