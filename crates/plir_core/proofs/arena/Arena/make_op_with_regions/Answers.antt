use Rattle.std.proofs.Common.{◌≡◌, inr, ap, subst, arith}
use Rattle.std.specs.Prelude.{Err}
use Rattle.plir_core.specs.declared.arena.making.NodeErr.TheVariants.{TooManyNodes}
use Rattle.plir_core.specs.declared.ptr.IRNode.TheVariants.{Operation}
use Rattle.plir_core.specs.Nodes.{Nodes}
use Rattle.plir_core.specs.Erase.{IsErased}
use Rattle.plir_core.proofs.arena.Arena.make_op_with_regions.Goals as goal
use Rattle.plir_core.proofs.Added.{SameNodes-unmade}
use Rattle.plir_core.proofs.NewRegions.{IsMaking-start, IsMaking-more, IsMaking-freed, spent_refusal}
use Rattle.plir_core.proofs.SpentLeft.{spent_left}

pub loop-i-init : goal.loop-i-init
loop-i-init g c = IsMaking-start c.args.self.now c.make_op.new.self c.args.value c.in_ok-op.op
    c.num_live-live.ensures.stored c.in_ok-op.ensures.ok c.in_ok-op.ensures.pointer c.make_op.ensures.stored

pub loop-i-preserved : goal.loop-i-preserved
loop-i-preserved g c = IsMaking-more c.args.self.now c.loop-i.self c.make_region.new.self c.args.value c.in_ok-op.op
    c.in-Ok.field-0 c.loop-i._i c.num_live-live.ensures.stored c.loop-i.invariant c.in-Ok.ensures.ok
    c.in-Ok.ensures.pointer c.make_region.ensures.stored

pub returns-in-Err-clause-err : goal.returns-in-Err-clause-err
returns-in-Err-clause-err g c =
    SameNodes-unmade c.args.self.now c.loop-i.self c.erase.new.self c.num_live-live.ensures.stored
    (Operation c.in_ok-op.op) c.loop-i.invariant.made
    (subst (λ (z : Nodes g.row.O.Denot g.row.B.Denot). IsErased z c.erase.new.self (Operation c.in_ok-op.op))
    c.in-Err.ensures.err c.erase.ensures.tree)

pub returns-in-Err-clause-too_many_only : goal.returns-in-Err-clause-too_many_only
returns-in-Err-clause-too_many_only g c = λ e.
    inr (inr (spent_refusal c.args.self.now c.args.value c.in_ok-op.op c.loop-i._i c.args.count c.loop-i.self
    c.loop-i.invariant c.loop-i-test.true (omega (
      arith,
      c.num_live-live.ensures.value,
      c.num_live-live.ensures.stored.within,
      ap (λ (z : Nodes g.row.O.Denot g.row.B.Denot). z.limit) c.self.view_is,
    ))
    (c.in-Err.ensures.too_many.0 (ap (λ z. Err z) (let q : c.in-Err.refusal ≡ TooManyNodes = cc in q)))))

pub returns-in-Err-clause-slots : goal.returns-in-Err-clause-slots
returns-in-Err-clause-slots g c =
    IsMaking-freed c.args.self.now c.args.value c.in_ok-op.op c.loop-i._i c.args.count c.loop-i.self
    c.make_region.new.self c.erase.new.self c.loop-i.invariant c.loop-i-test.true c.in-Err.ensures.err
    c.erase.ensures.after

pub returns-in-Err-clause-crowded : goal.returns-in-Err-clause-crowded
returns-in-Err-clause-crowded g c = λ e.
    inr (inr (spent_left c.args.self.now c.args.value c.in_ok-op.op c.loop-i._i c.args.count c.loop-i.self
    c.make_region.new.self c.erase.new.self c.loop-i.invariant c.loop-i-test.true (omega (
      arith,
      c.num_live-live.ensures.value,
      c.num_live-live.ensures.stored.within,
      ap (λ (z : Nodes g.row.O.Denot g.row.B.Denot). z.limit) c.self.view_is,
    ))
    (c.in-Err.ensures.too_many.0 (ap (λ z. Err z) (let q : c.in-Err.refusal ≡ TooManyNodes = cc in q)))
    c.in-Err.ensures.err c.erase.ensures.after))
