use Rattle.std.proofs.Common.{◌≡◌, true, arith}
use Rattle.plir_core.specs.declared.ptr.IRNode.TheVariants.{Operation}
use Rattle.plir_roundtrip.specs.UsesWithin.{IsBeside}
use Rattle.plir_roundtrip.proofs.Climbs.{all_from_each, one_more_at}
use Rattle.plir_core.specs.ContextView.{successors_of}
use Rattle.plir_roundtrip.proofs.reach.far_successor.Goals as goal

pub returns-then-not-is_beside : goal.returns-then-not-is_beside
returns-then-not-is_beside g c = record {
  block = c.get_successor.result;
  there = c.get_successor.ensures.value;
  far = λ b. let yes : c.is_beside.result ≡ true = c.is_beside.ensures.1 b in let f : ⊥ = cc in f;
  others = c.successors.invariant;
}

pub successors-preserved : goal.successors-preserved
successors-preserved g c =
    let passed : c.is_beside.result ≡ true = cc in
    one_more_at (IsBeside c.args.ctx.now (Operation c.args.root) c.args.op) (successors_of c.args.ctx.now c.args.op)
    c.successors.place c.get_successor.result c.get_successor.ensures.value (c.is_beside.ensures.0 passed)
    c.successors.invariant

pub returns : goal.returns
returns g c =
    all_from_each (IsBeside c.args.ctx.now (Operation c.args.root) c.args.op) (successors_of c.args.ctx.now c.args.op)
    c.successors.place (omega arith) c.successors.invariant
