use Rattle.std.proofs.Common.{◌≡◌, [], true, Ok, drop, map, sym, ap, ◌∙◌, arith}
use Rattle.std.proofs.Math.ListN.{drop_of_length-le}
use Rattle.plir_data.specs.AttrSeen.{attr_view}
use Rattle.plir_data.specs.AttrVerify.{items_are_valid}
use Rattle.plir_data.specs.AttrView.{items_of}
use Rattle.plir_data.proofs.attributes.+verify.Goals as goal

pub VecAttr::verify-returns : goal.VecAttr::verify-returns
VecAttr::verify-returns g t c =
    let l = c.items in
    let items = c.as_slice-items.result.now in
    let types = g.C.TypeStore.types c.args.ctx.now in
    let valid = g.D.OpSet.attr_is_valid types in
    let nothing : drop l.item-index items ≡ [] = drop_of_length-le items (omega (arith, c.items-test.false)) in
    let left : items_are_valid valid types (items_of (map attr_view (drop l.item-index items))) ≡ true =
    ap (λ xs. items_are_valid valid types (items_of (map attr_view xs))) nothing in
    ap (λ xs. items_are_valid valid types (items_of xs)) (sym (ap (map attr_view) c.as_slice-items.ensures.value ∙
    c.self.view_is)) ∙ l.invariant.1 (Ok tt) left
