use Rattle.std.proofs.Common.{◌∙◌, arith, sym}
use Rattle.plir_places.proofs.Giving.{keeps-edit, places-end, places-next, still-live}
use Rattle.plir_places.proofs.placing.place_each.Goals as goal

pub op_edits_keep_the_rest-requires : goal.op_edits_keep_the_rest-requires
op_edits_keep_the_rest-requires g c =
    still-live c.args.ctx.now c.ops.ctx c.args.ops.now c.ops.place _ c.ops.invariant.keeps c.requires
    (omega (arith, c.ops-test.true, c.min-count.ensures))

pub set_loc-requires : goal.set_loc-requires
set_loc-requires g c =
    still-live c.args.ctx.now c.ops.ctx c.args.ops.now c.ops.place _ c.ops.invariant.keeps c.requires
    (omega (arith, c.ops-test.true, c.min-count.ensures))

pub ops-preserved : goal.ops-preserved
ops-preserved g c =
    record {
      placed =
          places-next c.ops.ctx c.set_loc.new.ctx c.args.ops.now c.args.places.now c.ops.place _ _
          (omega (arith, c.ops-test.true, c.min-count.ensures)) (omega (arith, c.ops-test.true, c.min-count.ensures))
          c.set_loc.ensures.after
          ∙ c.ops.invariant.placed;
      keeps =
          keeps-edit c.args.ctx.now c.ops.ctx c.set_loc.new.ctx _ _ c.ops.invariant.keeps
          (c.op_edits_keep_the_rest.ensures _) c.set_loc.ensures.after;
      formed = c.set_loc.ensures.whole;
    }

pub returns-clause-placed : goal.returns-clause-placed
returns-clause-placed g c =
    sym (places-end c.ops.ctx c.args.ops.now c.args.places.now c.ops.place
    (omega (arith, c.ops-test.false, c.min-count.ensures)))
    ∙ c.ops.invariant.placed
