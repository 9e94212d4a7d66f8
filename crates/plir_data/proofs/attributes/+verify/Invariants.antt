use Rattle.std.proofs.Common.{drop, map, Result}
use Rattle.plir_data.specs.AttrLive.{AreItemsLive}
use Rattle.plir_data.specs.AttrSeen.{attr_view}
use Rattle.plir_data.specs.AttrVerify.{items_are_valid, IsFirstRefusal}
use Rattle.plir_data.specs.AttrView.{items_of}
use Rattle.plir_data.specs.Verify.{IsVerdict}
use Rattle.plir_data.specs.declared.attr_verify.AttrVerifyErr.{AttrVerifyErr}
use Rattle.plir_data.specs.declared.location.VerifyErr.{VerifyErr}
use Rattle.plir_data.proofs.attributes.+verify.Given as goal

-- A verdict on what is left is one on all.
abbrev pub invariant-VecAttr::verify-items : goal.invariant-VecAttr::verify-items
invariant-VecAttr::verify-items g l =
    let types = g.C.TypeStore.types l.ctx in
    let valid = g.D.OpSet.attr_is_valid types in
    let refusal = g.D.OpSet.attr_refusal types in
    let left = items_of (map attr_view (drop l.item-index l.items)) in
    let all = items_of (map attr_view l.items) in (
    AreItemsLive g.D.OpSet.attr_handles types left × ((r : Result (Unit {0}) (VerifyErr
    (AttrVerifyErr g.row.D-Err.Denot))) → IsVerdict (items_are_valid valid types left)
    (IsFirstRefusal valid refusal types left) r → IsVerdict (items_are_valid valid types all)
    (IsFirstRefusal valid refusal types all) r)
    )
