use Rattle.std.proofs.Common.{suc, zero, sym, ap, ◌∙◌}
use Rattle.std.specs.Prelude.{option_map}
use Rattle.plir_core.specs.Above.{climb, Reaches}
use Rattle.plir_core.specs.ContextView.{parent_of}
use Rattle.plir_core.specs.declared.ptr.IRNode.TheVariants.{Region, BasicBlock}
use Rattle.plir_walk_calls.proofs.walk.changes.make_nest.Goals as goal

pub child_at-requires : goal.child_at-requires
child_at-requires g c = sym c.first_child_is_front.ensures.place ∙ (sym c.first_region.ensures.value ∙ ap
    (option_map Region) c.in_ok-region.ensures.ok_part)

pub insert_at_back-requires-clause-not_above : goal.insert_at_back-requires-clause-not_above
insert_at_back-requires-clause-not_above g c = c.in_ok-block.ensures.made.apart (Region c.in_ok-region.region)
    (sym c.if-not-is_live.ensures.value)

pub returns : goal.returns
returns g c = record {
  lawful = λ b is.
      let s = c.args.ctx.now in
      let t = c.new_op.new.ctx in
      let v = c.insert_at_back.new.ctx in
      let n = BasicBlock b in
      let region = Region c.in_ok-region.region in
      let over : Reaches (parent_of t) region n = (
        suc (suc zero),
        ap (climb (parent_of t) (suc zero))
            c.child_at.ensures.parent ∙ c.in_ok-op.ensures.placed b is,
      ) in
      let forest = c.lawful_changes.ensures.forest t c.is_live.ensures.whole in
      let more = c.lawful_changes.ensures.placed t c.new-2.new.ctx v n region (BasicBlock c.in_ok-block.block) _ forest
      over c.in_ok-block.ensures.made c.insert_at_back.ensures.placed in
      c.lawful_changes.ensures.both s t v n c.forest.ensures (c.in_ok-op.ensures.lawful b is) more;
}
