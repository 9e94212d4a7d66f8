use Rattle.plir_iface.proofs.result_types.ResultsMNImplsTy.verify.Goals as goal

pub returns-clause-ok : goal.returns-clause-ok
returns-clause-ok g c = rw (c.get_operation.ensures, c.within-places.ensures) at c.verify_at.ensures.ok

pub returns-clause-refused : goal.returns-clause-refused
returns-clause-refused g c = rw (c.get_operation.ensures, c.within-places.ensures) at c.verify_at.ensures.refused
