use Rattle.std.proofs.Common.{sym, ◌∙◌}
use Rattle.plir_pictures.proofs.Stepping.{leaves-alone, leaves-over, leaves-up}
use Rattle.plir_pictures.proofs.figure.go_on.Goals as goal

pub returns-in_default : goal.returns-in_default
returns-in_default g c = λ opens closes root old new below put.
    leaves-alone c.args.ctx.now c.stands.ensures opens closes root c.args.node old new put
    (sym c.parent.ensures ∙ c.in_default.is) below

pub returns-in-Some-next_sibling : goal.returns-in-Some-next_sibling
returns-in-Some-next_sibling g c = λ opens closes root old new below put.
    leaves-over c.args.ctx.now c.stands.ensures opens closes root c.args.node old new put c.next_is_behind.ensures
    c.in-Some.over (sym c.parent.ensures ∙ c.in-Some.is) below c.in-Some-next_sibling.next
    (sym c.next_sibling.ensures.value ∙ c.in-Some-next_sibling.is)

pub returns-in-None : goal.returns-in-None
returns-in-None g c = λ opens closes root old new below put.
    leaves-up c.args.ctx.now c.stands.ensures opens closes root c.args.node old new put c.next_is_behind.ensures
    c.in-Some.over (sym c.parent.ensures ∙ c.in-Some.is) below (sym c.next_sibling.ensures.value ∙ c.in-None.is)
