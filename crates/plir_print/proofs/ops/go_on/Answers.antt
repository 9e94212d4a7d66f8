use Rattle.std.proofs.Common.{sym, ◌∙◌}
use Rattle.plir_data.specs.TextLaws.{on}
use Rattle.plir_print.proofs.Stepping.{leaves-over, leaves-up, leaves-alone}
use Rattle.plir_print.proofs.ops.go_on.Goals as goal

pub returns-in_default : goal.returns-in_default
returns-in_default g c = λ root old below put.
    leaves-alone g.D.OpSet c.args.ctx.now c.stands.ensures root c.args.indent c.args.node old _
    (sym c.parent.ensures ∙ c.in_default.is) below

pub returns-in_ok-put_lead-in-Some-next_of : goal.returns-in_ok-put_lead-in-Some-next_of
returns-in_ok-put_lead-in-Some-next_of g c = λ root old below put.
    leaves-over g.D.OpSet c.args.ctx.now c.stands.ensures root c.args.indent c.args.node c.next_is_behind.ensures old _
    c.in-Some.over c.in-Some-next_of.next (sym c.parent.ensures ∙ c.in-Some.is)
    (sym c.next_of.ensures ∙ c.in-Some-next_of.is) (on old _ _ _ _ put c.in_ok-put_lead-in-Some-next_of.ensures)
    below

pub returns-in-None : goal.returns-in-None
returns-in-None g c = λ root old below put.
    leaves-up g.D.OpSet c.args.ctx.now c.stands.ensures root c.args.indent c.args.node c.next_is_behind.ensures old _
    c.in-Some.over c.outer_indent.result (sym c.parent.ensures ∙ c.in-Some.is)
    (sym c.next_of.ensures ∙ c.in-None.is) c.outer_indent.ensures put below
