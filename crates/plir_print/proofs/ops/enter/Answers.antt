use Rattle.std.proofs.Common.{string_bytes, sym, ◌∙◌}
use Rattle.plir_data.specs.TextLaws.{on}
use Rattle.plir_print.proofs.Stepping.{enters-child, enters-leaf}
use Rattle.plir_print.proofs.ops.enter.Goals as goal

pub returns-in_ok-put_lead-in-Some : goal.returns-in_ok-put_lead-in-Some
returns-in_ok-put_lead-in-Some g c = λ root.
    enters-child g.D.OpSet c.args.ctx.now c.stands.ensures root c.args.indent c.inner_indent-within.result c.args.node
    c.in-Some.child (string_bytes c.args.out.now) _ (sym c.first_child.ensures ∙ c.in-Some.is)
    c.inner_indent-within.ensures
    (on (string_bytes c.args.out.now) _ _ _ _ c.in_ok-put_opening.ensures c.in_ok-put_lead-in-Some.ensures)

pub returns-in-None : goal.returns-in-None
returns-in-None g c = λ root.
    enters-leaf g.D.OpSet c.args.ctx.now c.stands.ensures root c.args.indent c.args.node (string_bytes c.args.out.now) _
    (sym c.first_child.ensures ∙ c.in-None.is) c.in_ok-put_opening.ensures
