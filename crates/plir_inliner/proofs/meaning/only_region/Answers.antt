use Rattle.std.proofs.Common.{sym}
use Rattle.plir_core.specs.declared.ptr.IRNode.TheVariants.{Operation, Region}
use Rattle.plir_inliner.proofs.Soles.{only-none, only-first, only-more}
use Rattle.plir_inliner.proofs.meaning.only_region.Goals as goal

pub returns-in_default-clause-only : goal.returns-in_default-clause-only
returns-in_default-clause-only g c =
    sym (only-none c.args.ctx.now (Operation c.args.op) c.first_child_is_front.ensures.front
    (sym c.in_default.ensures.value))

pub returns-in-Some-get_next-clause-only : goal.returns-in-Some-get_next-clause-only
returns-in-Some-get_next-clause-only g c =
    sym (only-more c.args.ctx.now (Operation c.args.op) c.first_child_is_front.ensures.front (Region c.in-Some.region)
    (sym c.in-Some.ensures.value) c.next_is_behind.ensures _ (sym c.in-Some-get_next.ensures.value))

pub returns-in-None-clause-only : goal.returns-in-None-clause-only
returns-in-None-clause-only g c =
    sym (only-first c.args.ctx.now (Operation c.args.op) c.first_child_is_front.ensures.front (Region c.in-Some.region)
    (sym c.in-Some.ensures.value) c.next_is_behind.ensures (sym c.in-None.ensures.value))
