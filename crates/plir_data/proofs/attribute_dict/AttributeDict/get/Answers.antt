use Rattle.std.proofs.Common.{◌∙◌, ap, subst, sym, Ok, Err, Some}
use Rattle.std.proofs.lemmas.List.{get_or_read}
use Rattle.plir_data.specs.AttrSeen.{attr_view}
use Rattle.plir_data.specs.Dictionary.{dict_get}
use Rattle.plir_data.specs.Places.{KeysAscend, IsPlace}
use Rattle.plir_data.proofs.HeldHandles.{seen_live}
use Rattle.plir_data.proofs.KeyPlaces.{keys_ascend, get_absent, got_by}
use Rattle.plir_data.proofs.attribute_dict.AttributeDict.get.Goals as goal

pub place_of-requires : goal.place_of-requires
place_of-requires g c =
    subst (KeysAscend (λ e. e.0)) (sym c.deref.ensures.value) (keys_ascend (λ e. e.0)
    (λ e. attr_view e.1) c.self.inside.entries.items c.self.invariant)

pub returns-in-Ok-clause-value : goal.returns-in-Ok-clause-value
returns-in-Ok-clause-value g c =
    let p : IsPlace (λ e. e.0) c.self.inside.entries.items c.args.key.now (Ok c.in-Ok.at) = subst
    (λ es. IsPlace (λ e. e.0) es c.args.key.now (Ok c.in-Ok.at)) c.deref.ensures.value c.in-Ok.ensures
    in
    got_by (λ e. e.0) (λ e. attr_view e.1) c.args.key.now c.self.inside.entries.items c.in-Ok.at _
    (λ d. ap (λ e. attr_view e.1) (get_or_read c.self.inside.entries.items c.in-Ok.at c.index.result.now p.0
    c.index.ensures d)) p ∙ ap (λ d. dict_get d c.args.key.now) c.self.view_is

pub returns-in-Ok-clause-live : goal.returns-in-Ok-clause-live
returns-in-Ok-clause-live g c =
    let p : IsPlace (λ e. e.0) c.self.inside.entries.items c.args.key.now (Ok c.in-Ok.at) = subst
    (λ es. IsPlace (λ e. e.0) es c.args.key.now (Ok c.in-Ok.at)) c.deref.ensures.value c.in-Ok.ensures
    in
    seen_live _ attr_view (Some c.index.result.now.1) c.args.self.now c.args.key.now
    (got_by (λ e. e.0) (λ e. attr_view e.1) c.args.key.now c.self.inside.entries.items c.in-Ok.at _
    (λ d. ap (λ e. attr_view e.1) (get_or_read c.self.inside.entries.items c.in-Ok.at c.index.result.now p.0
    c.index.ensures d)) p ∙ ap (λ d. dict_get d c.args.key.now) c.self.view_is)

pub returns-in-Err-clause-value : goal.returns-in-Err-clause-value
returns-in-Err-clause-value g c =
    let p : IsPlace (λ e. e.0) c.self.inside.entries.items c.args.key.now (Err c.in-Err.field-0) = subst
    (λ es. IsPlace (λ e. e.0) es c.args.key.now (Err c.in-Err.field-0)) c.deref.ensures.value
    c.in-Err.ensures in
    sym (get_absent (λ e. e.0) (λ e. attr_view e.1) c.args.key.now c.self.inside.entries.items
    c.in-Err.field-0 p) ∙ ap (λ d. dict_get d c.args.key.now) c.self.view_is
