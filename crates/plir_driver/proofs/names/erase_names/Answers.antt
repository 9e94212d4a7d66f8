use Rattle.plir_core.specs.declared.ptr.IRNode.TheVariants.{Operation}
use Rattle.plir_driver.proofs.Naming.{nothing-lost, something-lost}
use Rattle.plir_driver.proofs.names.erase_names.Goals as goal

pub returns-then-any_named-clause-exact : goal.returns-then-any_named-clause-exact
returns-then-any_named-clause-exact g c =
    λ told. something-lost c.args.ctx.now c.erase_given_names.new.ctx (Operation c.args.root)
    (c.any_named.ensures.some c.if-any_named.true) c.erase_given_names.ensures

pub returns-clause-unnamed : goal.returns-clause-unnamed
returns-clause-unnamed g c =
    nothing-lost c.args.ctx.now (Operation c.args.root) (c.any_named.ensures.none c.if-any_named.false)
