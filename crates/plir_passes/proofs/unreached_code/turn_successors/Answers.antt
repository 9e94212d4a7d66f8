use Rattle.std.proofs.Common.{◌<◌, ◌≤◌, ◌∙◌, ap, arith, length, length-set, refl, subst, sym}
use Rattle.std.proofs.lemmas.List.{take_all}
use Rattle.plir_store.specs.Members.{Has}
use Rattle.plir_core.specs.declared.ptr.IRNode.TheVariants.{Operation, BasicBlock}
use Rattle.plir_core.specs.ContextView.{successors_of}
use Rattle.plir_passes.proofs.Cuts.{cut-more, operands-still, successor-turned, turned-more, with_successor}
use Rattle.plir_passes.proofs.Freed.{cut-none}
use Rattle.plir_passes.proofs.unreached_code.turn_successors.Goals as goal

pub loop-place-init : goal.loop-place-init
loop-place-init g c = record {
  cut = cut-none c.args.ctx.now;
  all = λ b has. absurd has;
  count = sym c.get_num_successors-count.ensures.value;
  operands = refl;
}

pub op_edits_keep_the_rest-requires : goal.op_edits_keep_the_rest-requires
op_edits_keep_the_rest-requires g c =
    c.loop-place.invariant.cut.keeps.live (Operation c.args.op) ∙ c.requires.live

pub set_successor-requires-clause-live : goal.set_successor-requires-clause-live
set_successor-requires-clause-live g c =
    c.loop-place.invariant.cut.keeps.live (Operation c.args.op) ∙ c.requires.live

pub set_successor-requires-clause-below : goal.set_successor-requires-clause-below
set_successor-requires-clause-below g c =
    let count = c.loop-place.invariant.count in
    let less = c.loop-place-test.true in
    omega (arith, count, less)

pub set_successor-requires-clause-block_live : goal.set_successor-requires-clause-block_live
set_successor-requires-clause-block_live g c =
    c.loop-place.invariant.cut.keeps.live (BasicBlock c.args.block) ∙ c.requires.block_live

pub loop-place-preserved : goal.loop-place-preserved
loop-place-preserved g c =
    let r = c.args.ctx.now in
    let s = c.loop-place.ctx in
    let t = c.set_successor.new.ctx in
    let p = c.args.op in
    let i = c.loop-place.place in
    let b = c.args.block in
    let f = c.op_edits_keep_the_rest.ensures (with_successor i b) in
    let test = c.loop-place-test.true in
    let count = c.loop-place.invariant.count in
    let within : i < length (successors_of s p) = omega (arith, count, test) in
    let after = c.set_successor.ensures.after in
    record {
      cut = cut-more r s t p (with_successor i b) f after c.loop-place.invariant.cut;
      all = turned-more r s t p i b within f after c.loop-place.invariant.all;
      count =
          ap length (successor-turned r s t p i b within f after) ∙ length-set (successors_of s p) i b ∙ count;
      operands = operands-still r s t p i b within f after ∙ c.loop-place.invariant.operands;
    }

pub returns-clause-cut : goal.returns-clause-cut
returns-clause-cut g c = c.loop-place.invariant.cut

pub returns-clause-all : goal.returns-clause-all
returns-clause-all g c = λ b has.
    let count = c.loop-place.invariant.count in
    let past = c.loop-place-test.false in
    let end : length (successors_of c.loop-place.ctx c.args.op) ≤ c.loop-place.place = omega (arith, count, past) in
    c.loop-place.invariant.all b (subst (λ z. Has z b) (sym (take_all c.loop-place.place _ end)) has)

pub returns-clause-operands : goal.returns-clause-operands
returns-clause-operands g c = c.loop-place.invariant.operands
