use Rattle.std.proofs.Common.{◌≡◌, true, false, sym, ap, ◌∙◌}
use Rattle.std.specs.Prelude.{option_map}
use Rattle.plir_core.specs.declared.ptr.IRNode.TheVariants.{BasicBlock}
use Rattle.std.proofs.Math.Logic.Iff
use Rattle.plir_iface.proofs.Ends.{no-last-block, one-block, same-ptr}
use Rattle.plir_iface.proofs.blocks.has_one_block.Goals as goal

pub returns-clause-value : goal.returns-clause-value
returns-clause-value g c =
    Iff.trans (same-ptr c.in-Some.first c.in-Some-get_tail.last c.eq.result c.eq.ensures)
    (one-block c.args.ctx.now.nodes c.get_head.ensures.whole.stored c.args.region c.requires c.in-Some.first
    c.in-Some-get_tail.last
    (sym (ap (option_map BasicBlock) c.in-Some.is) ∙ c.get_head.ensures.value)
    (sym (ap (option_map BasicBlock) c.in-Some-get_tail.is) ∙ c.get_tail.ensures.value))

pub returns-in_default-get_tail-clause-value : goal.returns-in_default-get_tail-clause-value
returns-in_default-get_tail-clause-value g c = (
  λ h. let b : true ≡ false = sym h in cc,
  λ h. absurd (no-last-block c.args.ctx.now.nodes c.get_head.ensures.whole.stored c.args.region c.requires
      c.in_default-get_tail.ensures.value h),
)
