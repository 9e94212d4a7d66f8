use Rattle.std.proofs.Common.{◌∙◌, ap, sym}
use Rattle.plir_core.specs.declared.ptr.IRNode.TheVariants.{Operation}
use Rattle.plir_core.specs.ContextView.{is_live}
use Rattle.plir_passes.proofs.Erasures.{erased-none, erased-one}
use Rattle.plir_passes.proofs.unreached_code.erase_live.Goals as goal

pub erase-requires-clause-unused : goal.erase-requires-clause-unused
erase-requires-clause-unused g c = c.requires (sym c.is_live.ensures.value ∙ c.if-is_live.true)

pub returns-then-is_live : goal.returns-then-is_live
returns-then-is_live g c =
    erased-one c.args.ctx.now c.erase.new.ctx c.args.op c.erase.ensures.tree
    (c.erasures_thin.ensures.erased c.erase.new.ctx (Operation c.args.op) c.erase.ensures.tree c.erase.ensures.after)
    (c.lawful_changes.ensures.forest c.erase.new.ctx c.erase.ensures.whole)

pub returns-else-is_live : goal.returns-else-is_live
returns-else-is_live g c =
    erased-none c.args.ctx.now c.stands.ensures.standing.forest
    (λ q same. ap (λ z. is_live c.args.ctx.now (Operation z)) same
    ∙ sym c.is_live.ensures.value ∙ c.if-is_live.false)
