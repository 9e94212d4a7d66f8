use Rattle.std.proofs.Common.{◌∙◌, ◌+◌, ◌-◌, ◌<◌, arith, length, sym}
use Rattle.std.proofs.lemmas.Option.{slice_get_within}
use Rattle.plir_core.specs.ContextView.{children}
use Rattle.plir_passes.specs.Seeking.{IsEnd}
use Rattle.plir_passes.proofs.Ending.{few-children, past-end}
use Rattle.plir_passes.proofs.Marking.{each-all, each-next, each-none}
use Rattle.plir_passes.proofs.reaching.put_ends_in.Goals as goal

pub ops-init : goal.ops-init
ops-init g c =
    let P = IsEnd g.D.OpSet.is_terminator c.args.ctx.now in
    record {
      at = c.first_child-at.ensures.value ∙ c.first_child_is_front.ensures.place;
      grown = each-none P (children c.args.ctx.now c.args.block) c.args.reached.now;
    }

pub child_at-requires : goal.child_at-requires
child_at-requires g c = sym c.ops.invariant.at ∙ c.in-Some.is

pub overflow_add-place : goal.overflow_add-place
overflow_add-place g c =
    let ns = children c.args.ctx.now c.args.block in
    let within = slice_get_within ns c.ops.place c.in-Some.op (sym c.ops.invariant.at ∙ c.in-Some.is) in
    let few = few-children c.args.ctx.now c.stands.ensures.standing c.args.block in
    omega (arith, within, few)

pub ops-smaller : goal.ops-smaller
ops-smaller g c =
    let ns = children c.args.ctx.now c.args.block in
    let within = slice_get_within ns c.ops.place c.in-Some.op (sym c.ops.invariant.at ∙ c.in-Some.is) in
    let less : length ns - (c.ops.place + 1) < length ns - c.ops.place = omega (arith, within) in
    less

pub ops-preserved : goal.ops-preserved
ops-preserved g c =
    let P = IsEnd g.D.OpSet.is_terminator c.args.ctx.now in
    record {
      at = c.next_sibling-at.ensures.value ∙ c.child_at.ensures.next;
      grown = each-next P (children c.args.ctx.now c.args.block) c.ops.place c.in-Some.op
          c.args.reached.now c.ops.reached c.put_end.new.reached (sym c.ops.invariant.at ∙ c.in-Some.is)
          c.ops.invariant.grown c.in_ok-put_end.ensures;
    }

pub returns : goal.returns
returns g c =
    let P = IsEnd g.D.OpSet.is_terminator c.args.ctx.now in
    each-all P (children c.args.ctx.now c.args.block) c.ops.place c.args.reached.now
    c.ops.reached (past-end _ c.ops.place (sym c.ops.invariant.at ∙ c.in_default.is)) c.ops.invariant.grown
