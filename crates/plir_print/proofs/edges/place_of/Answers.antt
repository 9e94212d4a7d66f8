use Rattle.std.proofs.Common.{◌≡◌, Some, None, sym, subst, ap, ◌∙◌}
use Rattle.std.specs.Prelude.{IfSome, option_map, slice_get}
use Rattle.plir_core.specs.declared.ptr.IRNode.TheVariants.{Operation, Region}
use Rattle.plir_core.specs.ContextView.{children, parent_of}
use Rattle.plir_print.specs.EdgeText.{place_under}
use Rattle.plir_print.proofs.RegionPlaces.{place-there}
use Rattle.plir_print.proofs.edges.place_of.Goals as goal

pub returns-in-Some : goal.returns-in-Some
returns-in-Some g c =
    let s = c.args.ctx.now in
    let r = c.args.region in
    let over = Operation c.in-Some.field-0 in
    let parent : parent_of s (Region r) ≡ Some over =
    sym c.get_parent_op.ensures.value ∙ ap (option_map Operation) c.in-Some.is in
    let there : slice_get (children s over) c.find_index_in_parent.result ≡ Some (Region r) =
    subst (λ (o : _). IfSome o (λ n. slice_get (children s n) c.find_index_in_parent.result ≡ Some (Region r)))
    parent c.find_index_in_parent.ensures.value in
    sym (ap (place_under s (Region r)) parent
    ∙ place-there r (children s over) c.find_index_in_parent.result (c.stands.ensures.forest.once over) there)

pub returns-in-None : goal.returns-in-None
returns-in-None g c =
    let s = c.args.ctx.now in
    let r = c.args.region in
    let parent : parent_of s (Region r) ≡ None =
    sym c.get_parent_op.ensures.value ∙ ap (option_map Operation) c.in-None.is in
    sym (ap (place_under s (Region r)) parent)
