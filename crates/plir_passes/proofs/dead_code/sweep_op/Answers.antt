use Rattle.plir_core.specs.declared.ptr.IRNode.TheVariants.{Operation}
use Rattle.plir_passes.proofs.dead_code.sweep_op.Goals as goal

pub returns-clause-thinned : goal.returns-clause-thinned
returns-clause-thinned g c =
    c.erasures_thin.ensures.erased c.erase.new.ctx (Operation c.args.op) c.erase.ensures.tree c.erase.ensures.after

pub returns-clause-stands : goal.returns-clause-stands
returns-clause-stands g c = c.lawful_changes.ensures.forest c.erase.new.ctx c.erase.ensures.whole
