use Rattle.std.proofs.Common.{◌∙◌, ◌+◌, ◌-◌, ◌<◌, arith, length, sym}
use Rattle.std.proofs.lemmas.Option.{slice_get_within}
use Rattle.plir_core.specs.ContextView.{children}
use Rattle.plir_passes.specs.Seeking.{IsEnd, Through}
use Rattle.plir_passes.proofs.Ending.{few-children, past-end}
use Rattle.plir_passes.proofs.Marking.{each-all, each-next, each-none}
use Rattle.plir_passes.proofs.reaching.put_ends_under.Goals as goal

pub parts-init : goal.parts-init
parts-init g c =
    let P = Through c.args.ctx.now (IsEnd g.D.OpSet.is_terminator c.args.ctx.now) in
    record {
      at = c.first_child-at.ensures.value ∙ c.first_child_is_front.ensures.place;
      grown = each-none P (children c.args.ctx.now c.args.region) c.args.reached.now;
    }

pub child_at-requires : goal.child_at-requires
child_at-requires g c = sym c.parts.invariant.at ∙ c.in-Some.is

pub overflow_add-place : goal.overflow_add-place
overflow_add-place g c =
    let ns = children c.args.ctx.now c.args.region in
    let within = slice_get_within ns c.parts.place c.in-Some.block (sym c.parts.invariant.at ∙ c.in-Some.is) in
    let few = few-children c.args.ctx.now c.stands.ensures.standing c.args.region in
    omega (arith, within, few)

pub parts-smaller : goal.parts-smaller
parts-smaller g c =
    let ns = children c.args.ctx.now c.args.region in
    let within = slice_get_within ns c.parts.place c.in-Some.block (sym c.parts.invariant.at ∙ c.in-Some.is) in
    let less : length ns - (c.parts.place + 1) < length ns - c.parts.place = omega (arith, within) in
    less

pub parts-preserved : goal.parts-preserved
parts-preserved g c =
    let P = Through c.args.ctx.now (IsEnd g.D.OpSet.is_terminator c.args.ctx.now) in
    record {
      at = c.next_sibling-at.ensures.value ∙ c.child_at.ensures.next;
      grown = each-next P (children c.args.ctx.now c.args.region) c.parts.place c.in-Some.block
          c.args.reached.now c.parts.reached c.put_ends_in.new.reached (sym c.parts.invariant.at ∙ c.in-Some.is)
          c.parts.invariant.grown c.in_ok-put_ends_in.ensures;
    }

pub returns : goal.returns
returns g c =
    let P = Through c.args.ctx.now (IsEnd g.D.OpSet.is_terminator c.args.ctx.now) in
    each-all P (children c.args.ctx.now c.args.region) c.parts.place c.args.reached.now
    c.parts.reached (past-end _ c.parts.place (sym c.parts.invariant.at ∙ c.in_default.is)) c.parts.invariant.grown
