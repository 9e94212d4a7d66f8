use Rattle.std.proofs.Common.{◌≡◌, true}
use Rattle.plir_core.specs.Forest.{look}
use Rattle.plir_core.specs.declared.ptr.IRNode.TheVariants.{Operation}
use Rattle.plir_walk.specs.TreeLaws.{under-live}
use Rattle.plir_roundtrip.specs.IrReadable.{HasReadableText}
use Rattle.plir_roundtrip.proofs.Obstructed.{told_by_node, told_by_uses}
use Rattle.plir_roundtrip.proofs.ir_readable.ir_obstacle.Goals as goal

pub obstacle_at-requires-clause-live : goal.obstacle_at-requires-clause-live
obstacle_at-requires-clause-live g c =
    under-live (look c.args.ctx.now) c.stands.ensures.standing.forest (Operation c.args.op) c.in-Some.node
    c.requires.live c.in-Some.ensures.within

pub returns-in-Some-clause-value : goal.returns-in-Some-clause-value
returns-in-Some-clause-value g c =
    told_by_node g.D.OpSet g.D.ReadSet.find_kind g.D.ReadSet.is_isolated c.args.ctx.now c.args.op c.in-Some.node
    c.obstacle_at.result c.in-Some.ensures c.obstacle_at.ensures

pub returns-then-not-is_op_within-clause-value : goal.returns-then-not-is_op_within-clause-value
returns-then-not-is_op_within-clause-value g c = (
  c.in_default.ensures.0,
  λ few. let yes : c.is_op_within.result ≡ true = c.is_op_within.ensures.1 few in let f : ⊥ = cc in f,
)

pub returns-clause-value : goal.returns-clause-value
returns-clause-value g c =
    let o = g.D.OpSet in
    let find = g.D.ReadSet.find_kind in
    let s = c.args.ctx.now in
    let few : c.is_op_within.result ≡ true = cc in
    let text : HasReadableText o find s c.args.op =
    record { nodes = c.in_default.ensures.0; levels = c.is_op_within.ensures.0 few } in
    told_by_uses o find g.D.ReadSet.is_isolated s c.args.op c.find_far_use.result text c.in_default.ensures.1
    c.find_far_use.ensures
