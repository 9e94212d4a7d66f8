use Rattle.std.proofs.Common.{◌∙◌, ◌+◌, ◌-◌, ◌<◌, arith, length, sym}
use Rattle.std.proofs.lemmas.Option.{slice_get_within}
use Rattle.plir_core.specs.declared.ptr.IRNode.TheVariants.{Operation}
use Rattle.plir_core.specs.ContextView.{children}
use Rattle.plir_passes.specs.Seeking.{IsEnd, Through}
use Rattle.plir_passes.proofs.Ending.{few-children, past-end, inner-through, through-inner}
use Rattle.plir_passes.proofs.Marking.{each-all, each-next, each-none, grown-as}
use Rattle.plir_passes.proofs.reaching.put_ends.Goals as goal

pub regions-init : goal.regions-init
regions-init g c =
    let P = Through c.args.ctx.now (Through c.args.ctx.now (IsEnd g.D.OpSet.is_terminator c.args.ctx.now)) in
    record {
      at = c.first_child-at.ensures.value ∙ c.first_child_is_front.ensures.place;
      grown = each-none P (children c.args.ctx.now (Operation c.args.op)) c.args.reached.now;
    }

pub child_at-requires : goal.child_at-requires
child_at-requires g c = sym c.regions.invariant.at ∙ c.in-Some.is

pub overflow_add-place : goal.overflow_add-place
overflow_add-place g c =
    let ns = children c.args.ctx.now (Operation c.args.op) in
    let within = slice_get_within ns c.regions.place c.in-Some.region (sym c.regions.invariant.at ∙ c.in-Some.is) in
    let few = few-children c.args.ctx.now c.stands.ensures.standing (Operation c.args.op) in
    omega (arith, within, few)

pub regions-smaller : goal.regions-smaller
regions-smaller g c =
    let ns = children c.args.ctx.now (Operation c.args.op) in
    let within = slice_get_within ns c.regions.place c.in-Some.region (sym c.regions.invariant.at ∙ c.in-Some.is) in
    let less : length ns - (c.regions.place + 1) < length ns - c.regions.place = omega (arith, within) in
    less

pub regions-preserved : goal.regions-preserved
regions-preserved g c =
    let P = Through c.args.ctx.now (Through c.args.ctx.now (IsEnd g.D.OpSet.is_terminator c.args.ctx.now)) in
    record {
      at = c.next_sibling-at.ensures.value ∙ c.child_at.ensures.next;
      grown = each-next P (children c.args.ctx.now (Operation c.args.op))
          c.regions.place c.in-Some.region
          c.args.reached.now c.regions.reached c.put_ends_under.new.reached (sym c.regions.invariant.at ∙ c.in-Some.is)
          c.regions.invariant.grown c.in_ok-put_ends_under.ensures;
    }

pub returns : goal.returns
returns g c =
    let P = Through c.args.ctx.now (Through c.args.ctx.now (IsEnd g.D.OpSet.is_terminator c.args.ctx.now)) in
    grown-as _ _
    (λ q h. through-inner c.args.ctx.now c.stands.ensures.standing g.D.OpSet.is_terminator c.args.op q h)
    (λ q h. inner-through c.args.ctx.now c.stands.ensures.standing g.D.OpSet.is_terminator c.args.op q h)
    (each-all P (children c.args.ctx.now (Operation c.args.op))
    c.regions.place c.args.reached.now
    c.regions.reached (past-end _ c.regions.place (sym c.regions.invariant.at ∙ c.in_default.is))
    c.regions.invariant.grown)
