use Rattle.std.proofs.Common.{◌≡◌, ◌∙◌, ap, subst, sym, Ok, Err, Some}
use Rattle.std.proofs.lemmas.List.{get_or_read}
use Rattle.plir_data.specs.AttrSeen.{attr_view}
use Rattle.plir_data.specs.DictSeen.{pairs_view}
use Rattle.plir_data.specs.Dictionary.{dict_get, dict_without, IsDictionary}
use Rattle.plir_data.specs.Places.{KeysAscend, IsPlace}
use Rattle.plir_data.proofs.Dictionaries.{dictionary_without}
use Rattle.plir_data.proofs.HeldHandles.{seen_live}
use Rattle.plir_data.proofs.KeyPlaces.{keys_ascend, get_absent, got_by, without_found, without_absent}
use Rattle.plir_data.proofs.attribute_dict.AttributeDict.remove.Goals as goal

pub place_of-requires : goal.place_of-requires
place_of-requires g c =
    subst (KeysAscend (λ e. e.0)) (sym c.deref.ensures.value) (keys_ascend (λ e. e.0)
    (λ e. attr_view e.1) c.self.inside.entries.items c.self.invariant)

pub invariant_of-self : goal.invariant_of-self
invariant_of-self g c =
    let p : IsPlace (λ e. e.0) c.self.inside.entries.items c.args.key.now (Ok c.in-Ok.at) = subst
    (λ es. IsPlace (λ e. e.0) es c.args.key.now (Ok c.in-Ok.at)) c.deref.ensures.value c.in-Ok.ensures
    in
    let left : pairs_view c.remove.new.self.items ≡ dict_without (pairs_view c.self.inside.entries.items) c.args.key.now
    = ap pairs_view c.remove.ensures.items ∙ without_found
    (λ e. e.0) (λ e. attr_view e.1) c.args.key.now c.self.inside.entries.items c.in-Ok.at p in
    subst IsDictionary (sym left) (dictionary_without _ c.args.key.now c.self.invariant)

pub returns-in-Ok-clause-taken : goal.returns-in-Ok-clause-taken
returns-in-Ok-clause-taken g c =
    let p : IsPlace (λ e. e.0) c.self.inside.entries.items c.args.key.now (Ok c.in-Ok.at) = subst
    (λ es. IsPlace (λ e. e.0) es c.args.key.now (Ok c.in-Ok.at)) c.deref.ensures.value c.in-Ok.ensures
    in
    got_by (λ e. e.0) (λ e. attr_view e.1) c.args.key.now c.self.inside.entries.items c.in-Ok.at _
    (λ d. ap (λ e. attr_view e.1) (get_or_read c.self.inside.entries.items c.in-Ok.at c.remove.result p.0
    c.remove.ensures.value d)) p ∙ ap (λ d. dict_get d c.args.key.now) c.self.view_is

pub returns-in-Ok-clause-left : goal.returns-in-Ok-clause-left
returns-in-Ok-clause-left g c =
    let p : IsPlace (λ e. e.0) c.self.inside.entries.items c.args.key.now (Ok c.in-Ok.at) = subst
    (λ es. IsPlace (λ e. e.0) es c.args.key.now (Ok c.in-Ok.at)) c.deref.ensures.value c.in-Ok.ensures
    in
    ap pairs_view c.remove.ensures.items ∙ without_found (λ e. e.0) (λ e. attr_view e.1) c.args.key.now
    c.self.inside.entries.items c.in-Ok.at p ∙ ap (λ d. dict_without d c.args.key.now) c.self.view_is

pub returns-in-Ok-clause-live : goal.returns-in-Ok-clause-live
returns-in-Ok-clause-live g c =
    let p : IsPlace (λ e. e.0) c.self.inside.entries.items c.args.key.now (Ok c.in-Ok.at) = subst
    (λ es. IsPlace (λ e. e.0) es c.args.key.now (Ok c.in-Ok.at)) c.deref.ensures.value c.in-Ok.ensures
    in
    seen_live _ attr_view (Some c.remove.result.1) c.args.self.now c.args.key.now
    (got_by (λ e. e.0) (λ e. attr_view e.1) c.args.key.now c.self.inside.entries.items c.in-Ok.at _
    (λ d. ap (λ e. attr_view e.1) (get_or_read c.self.inside.entries.items c.in-Ok.at c.remove.result p.0
    c.remove.ensures.value d)) p ∙ ap (λ d. dict_get d c.args.key.now) c.self.view_is)

pub returns-in-Err-clause-taken : goal.returns-in-Err-clause-taken
returns-in-Err-clause-taken g c =
    let p : IsPlace (λ e. e.0) c.self.inside.entries.items c.args.key.now (Err c.in-Err.field-0) = subst
    (λ es. IsPlace (λ e. e.0) es c.args.key.now (Err c.in-Err.field-0)) c.deref.ensures.value
    c.in-Err.ensures in
    sym (get_absent (λ e. e.0) (λ e. attr_view e.1) c.args.key.now c.self.inside.entries.items
    c.in-Err.field-0 p) ∙ ap (λ d. dict_get d c.args.key.now) c.self.view_is

pub returns-in-Err-clause-left : goal.returns-in-Err-clause-left
returns-in-Err-clause-left g c =
    let p : IsPlace (λ e. e.0) c.self.inside.entries.items c.args.key.now (Err c.in-Err.field-0) = subst
    (λ es. IsPlace (λ e. e.0) es c.args.key.now (Err c.in-Err.field-0)) c.deref.ensures.value
    c.in-Err.ensures in
    sym c.self.view_is ∙ without_absent (λ e. e.0) (λ e. attr_view e.1) c.args.key.now
    c.self.inside.entries.items c.in-Err.field-0 p ∙ ap (λ d. dict_without d c.args.key.now) c.self.view_is
