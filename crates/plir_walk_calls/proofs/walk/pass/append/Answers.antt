use Rattle.std.proofs.Common.{suc, zero, ap, refl, ◌∙◌}
use Rattle.plir_core.specs.Above.{climb}
use Rattle.plir_core.specs.ContextView.{parent_of}
use Rattle.plir_core.specs.declared.ptr.IRNode.TheVariants.{Operation, BasicBlock}
use Rattle.plir_walk_calls.proofs.walk.pass.append.Goals as goal

pub insert_at_back-requires-clause-not_above : goal.insert_at_back-requires-clause-not_above
insert_at_back-requires-clause-not_above g c = c.in_ok-op.ensures.made.made.apart (BasicBlock c.args.block) c.requires

pub returns-clause-kept : goal.returns-clause-kept
returns-clause-kept g c = λ n live. c.fill.ensures.kept n ((c.growth.ensures.placed _ _ (Operation c.in_ok-op.op)
    (BasicBlock c.args.block) _ c.in_ok-op.ensures.made.made c.insert_at_back.ensures.placed).keeps.live n live)

pub returns-clause-lawful : goal.returns-clause-lawful
returns-clause-lawful g c =
    let s = c.args.ctx.now in
    let u = c.insert_at_back.new.ctx in
    let block = BasicBlock c.args.block in
    let placed = c.lawful_changes.ensures.placed s c.new.new.ctx u block block (Operation c.in_ok-op.op) _
    c.forest.ensures (zero, refl) c.in_ok-op.ensures.made.made c.insert_at_back.ensures.placed in
    let filled = c.fill.ensures.lawful block (
      suc (suc zero),
      ap (climb (parent_of u) (suc zero))
          c.child_at.ensures.parent ∙ c.insert_at_back.ensures.placed.parent,
    ) in
    c.lawful_changes.ensures.both s u c.fill.new.ctx block c.forest.ensures placed filled
