use Rattle.std.proofs.Common.{◌∙◌, refl, subst, sym}
use Rattle.plir_data.specs.AttrLive.{HandlesLive}
use Rattle.plir_arguments.proofs.Keeping.{nameless-live}
use Rattle.plir_arguments.proofs.dropping.attributes_without.Goals as goal

pub same-attributes : goal.same-attributes
same-attributes g c = refl

pub returns-clause-handles : goal.returns-clause-handles
returns-clause-handles g c =
    let own = g.D.OpSet.attr_handles in
    let types = c.args.ctx.now.types in
    let es = c.in_ok-attributes.attributes in
    let live = subst (HandlesLive own types) (sym (c.in_ok-attributes.ensures ∙ c.attributes.ensures.value))
    c.attributes.ensures.live in
    subst (HandlesLive own types) (sym c.in_ok-drop_name.ensures) (nameless-live own types es c.args.i live)
