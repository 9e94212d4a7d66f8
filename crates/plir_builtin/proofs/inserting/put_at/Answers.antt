use Rattle.plir_builtin.proofs.Puts.{put-start, put-before, put-after, not-above-before, not-above-after}
use Rattle.plir_builtin.proofs.inserting.put_at.Goals as goal

pub returns-in-AtBlockStart-clause-put : goal.returns-in-AtBlockStart-clause-put
returns-in-AtBlockStart-clause-put g c =
    put-start c.args.ctx.now c.insert_at_front.new.ctx c.args.op c.args.block c.args.point c.requires.into
    c.in-AtBlockStart.b c.in-AtBlockStart.is c.insert_at_front.ensures.placed

pub returns-in-BeforeOperation-clause-put : goal.returns-in-BeforeOperation-clause-put
returns-in-BeforeOperation-clause-put g c =
    put-before c.args.ctx.now c.insert_before.new.ctx c.args.op c.args.block c.args.point c.requires.into
    c.stands.ensures.standing c.in-BeforeOperation.mark c.in-BeforeOperation.is c.insert_before.ensures.placed

pub returns-in-AfterOperation-clause-put : goal.returns-in-AfterOperation-clause-put
returns-in-AfterOperation-clause-put g c =
    put-after c.args.ctx.now c.insert_after.new.ctx c.args.op c.args.block c.args.point c.requires.into
    c.stands.ensures.standing c.in-AfterOperation.mark c.in-AfterOperation.is c.insert_after.ensures.placed

pub insert_before-requires-clause-not_above : goal.insert_before-requires-clause-not_above
insert_before-requires-clause-not_above g c =
    not-above-before c.args.ctx.now c.args.ctx.now c.args.op c.args.block c.args.point c.requires.into
    c.requires.unlinked c.requires.not_above c.in-BeforeOperation.mark c.in-BeforeOperation.is

pub insert_after-requires-clause-not_above : goal.insert_after-requires-clause-not_above
insert_after-requires-clause-not_above g c =
    not-above-after c.args.ctx.now c.args.ctx.now c.args.op c.args.block c.args.point c.requires.into
    c.requires.unlinked c.requires.not_above c.in-AfterOperation.mark c.in-AfterOperation.is
