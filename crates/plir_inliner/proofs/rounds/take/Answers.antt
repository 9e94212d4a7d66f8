use Rattle.std.proofs.Common.{◌<◌, Err, ap, arith, ◌∙◌}
use Rattle.plir_core.specs.declared.ptr.IRNode.TheVariants.{Operation}
use Rattle.plir_inliner.specs.Steps.{IsCutShort, of_nodes}
use Rattle.plir_copies.specs.RefusalLaws.{passed_on, on_err}
use Rattle.plir_inliner.proofs.Kept.{agree-still, sure-still}
use Rattle.plir_inliner.proofs.Plainness.{plain-costs}
use Rattle.plir_inliner.proofs.Stepping.{node-refusal, root-stays}
use Rattle.plir_inliner.proofs.Went.{cut-here, part-none, part-one}
use Rattle.plir_inliner.proofs.rounds.take.Given.{Over}
use Rattle.plir_inliner.proofs.rounds.take.Goals.{After-stands}
use Rattle.plir_inliner.proofs.rounds.take.Goals as goal

-- a step costs something
costs : (g : Over) (c : After-stands g) → 0 < c.args.step.cost
costs g c =
    plain-costs g.D.OpSet.is_symbol g.D.CallSet.call g.D.CallSet.returned c.args.ctx.now c.args.step.block
    c.stands.ensures.standing.forest c.requires.ready.can.can.plain c.args.step.cost c.requires.ready.can.cost

pub inline_block-requires : goal.inline_block-requires
inline_block-requires g c = c.requires.ready.can.can.fits

pub returns-then-step-tally-clause-part : goal.returns-then-step-tally-clause-part
returns-then-step-tally-clause-part g c = part-none

pub returns-then-step-tally-clause-over : goal.returns-then-step-tally-clause-over
returns-then-step-tally-clause-over g c = λ _. (c.args.step, c.requires.ready, omega arith)

pub returns-clause-sure_still : goal.returns-clause-sure_still
returns-clause-sure_still g c =
    let s = c.args.ctx.now in
    let t = c.inline_block.new.ctx in
    let fs = (c.contexts_stand.ensures s c.stands.ensures.whole).forest in
    let ft = (c.contexts_stand.ensures t c.inline_block.ensures.whole).forest in
    let can = c.requires.ready.can.can in
    sure-still g.D.OpSet.is_symbol g.D.OpSet.is_symbol_table s t c.args.step.call c.args.step.block fs ft
    c.in_ok-inline_block.ensures.ok can.no_symbol (λ p below. (can.plain.stand p below).quiet.no_symbol)
    (c.stayed_tables_agree.ensures s t)

pub returns-clause-root_live : goal.returns-clause-root_live
returns-clause-root_live g c =
    root-stays g.D.OpSet.is_symbol g.D.OpSet.is_symbol_table g.D.CallSet.call g.D.CallSet.returned c.args.ctx.now
    c.args.root c.inline_block.new.ctx c.args.step.call c.args.step.block c.requires.ready.below
    c.in_ok-inline_block.ensures.ok c.requires.root_live

pub returns-clause-part : goal.returns-clause-part
returns-clause-part g c =
    part-one c.args.step c.requires.ready
    c.in_ok-inline_block.ensures.ok (omega arith) (omega arith) (omega arith)

pub returns-in_err-inline_block-clause-agree_still : goal.returns-in_err-inline_block-clause-agree_still
returns-in_err-inline_block-clause-agree_still g c =
    let s = c.args.ctx.now in
    let t = c.inline_block.new.ctx in
    let fs = (c.contexts_stand.ensures s c.stands.ensures.whole).forest in
    let ft = (c.contexts_stand.ensures t c.inline_block.ensures.whole).forest in
    on_err c.from_residual.result
    (agree-still g.D.OpSet.is_symbol g.D.OpSet.is_symbol_table s t fs ft c.in_err-inline_block.ensures.err
    (c.stayed_tables_agree.ensures s t))

pub returns-in_err-inline_block-clause-root_live : goal.returns-in_err-inline_block-clause-root_live
returns-in_err-inline_block-clause-root_live g c =
    c.in_err-inline_block.ensures.err.nodes.live (Operation c.args.root) ∙ c.requires.root_live

pub returns-in_err-inline_block-clause-err : goal.returns-in_err-inline_block-clause-err
returns-in_err-inline_block-clause-err g c =
    let s = c.args.ctx.now in
    let t = c.inline_block.new.ctx in
    let e = c.in_err-inline_block.field-0.0 in
    passed_on (IsCutShort g.D.OpSet.is_symbol g.D.OpSet.is_symbol_table g.D.CallSet.call g.D.CallSet.returned
    c.args.root s t c.args.tally.now.left) c.from_residual.result c.from_residual.ensures.1
    (cut-here (of_nodes e)
    (node-refusal g.D.OpSet.is_symbol g.D.OpSet.is_symbol_table g.D.CallSet.call g.D.CallSet.returned s c.args.root
    c.args.step c.requires.ready e (λ is. c.in_err-inline_block.ensures.too_many_only (ap Err is)))
    c.in_err-inline_block.ensures.err)

pub overflow_add-tally : goal.overflow_add-tally
overflow_add-tally g c =
    let some = costs g (goal.at.overflow_add-tally g c).After-stands in
    omega (arith, some, c.requires.fits)

pub returns-clause-fits : goal.returns-clause-fits
returns-clause-fits g c =
    let some = costs g (goal.at.returns-clause-fits g c).After-stands in
    omega (arith, some)

pub returns-clause-less : goal.returns-clause-less
returns-clause-less g c = λ _.
    (let some = costs g (goal.at.returns-clause-less g c).After-stands in
    omega (arith, some))
