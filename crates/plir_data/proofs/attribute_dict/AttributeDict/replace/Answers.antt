use Rattle.std.proofs.Common.{◌∙◌, ap, subst, sym, refl, Ok, Err, Some}
use Rattle.plir_data.specs.AttrSeen.{attr_view}
use Rattle.plir_data.specs.Dictionary.{dict_get, dict_put, IsDictionary}
use Rattle.plir_data.specs.Places.{KeysAscend, IsPlace}
use Rattle.plir_data.proofs.Dictionaries.{dictionary_put}
use Rattle.plir_data.proofs.HeldHandles.{seen_live}
use Rattle.plir_data.proofs.KeyPlaces.{keys_ascend, get_absent, got_by, put_by}
use Rattle.plir_data.proofs.KeyPlaces.{found_formed}
use Rattle.plir_data.proofs.attribute_dict.AttributeDict.replace.Goals as goal

pub place_of-requires : goal.place_of-requires
place_of-requires g c =
    subst (KeysAscend (λ e. e.0)) (sym c.deref.ensures.value) (keys_ascend (λ e. e.0)
    (λ e. attr_view e.1) c.self.inside.entries.items c.self.invariant)

pub invariant_of-self : goal.invariant_of-self
invariant_of-self g c =
    let p : IsPlace (λ e. e.0) c.self.inside.entries.items c.args.key.now (Ok c.in-Ok.at) = subst
    (λ es. IsPlace (λ e. e.0) es c.args.key.now (Ok c.in-Ok.at)) c.deref.ensures.value c.in-Ok.ensures
    in
    subst IsDictionary (sym (put_by (λ e. e.0) (λ e. attr_view e.1) c.args.key.now
    c.self.inside.entries.items c.put_at.new.entries.items c.in-Ok.at (attr_view c.args.value)
    (λ e. (e.0, c.args.value)) (λ e. refl) (λ e. refl) c.put_at.ensures.put p))
    (dictionary_put _ c.args.key.now _ (found_formed (λ e. e.0) (λ e. attr_view e.1) c.args.key.now
    c.self.inside.entries.items c.in-Ok.at c.self.invariant p) c.self.invariant)

pub returns-in-Ok-clause-found : goal.returns-in-Ok-clause-found
returns-in-Ok-clause-found g c =
    let p : IsPlace (λ e. e.0) c.self.inside.entries.items c.args.key.now (Ok c.in-Ok.at) = subst
    (λ es. IsPlace (λ e. e.0) es c.args.key.now (Ok c.in-Ok.at)) c.deref.ensures.value c.in-Ok.ensures
    in
    sym (got_by (λ e. e.0) (λ e. attr_view e.1) c.args.key.now c.self.inside.entries.items c.in-Ok.at _
    (λ d. ap attr_view (c.put_at.ensures.taken d)) p ∙ ap (λ d. dict_get d c.args.key.now) c.self.view_is)

pub returns-in-Ok-clause-put : goal.returns-in-Ok-clause-put
returns-in-Ok-clause-put g c =
    let p : IsPlace (λ e. e.0) c.self.inside.entries.items c.args.key.now (Ok c.in-Ok.at) = subst
    (λ es. IsPlace (λ e. e.0) es c.args.key.now (Ok c.in-Ok.at)) c.deref.ensures.value c.in-Ok.ensures
    in
    put_by (λ e. e.0) (λ e. attr_view e.1) c.args.key.now c.self.inside.entries.items
    c.put_at.new.entries.items c.in-Ok.at (attr_view c.args.value) (λ e. (e.0, c.args.value)) (λ e. refl)
    (λ e. refl) c.put_at.ensures.put p ∙ ap (λ d. dict_put d c.args.key.now (attr_view c.args.value)) c.self.view_is

pub returns-in-Ok-clause-live : goal.returns-in-Ok-clause-live
returns-in-Ok-clause-live g c =
    let p : IsPlace (λ e. e.0) c.self.inside.entries.items c.args.key.now (Ok c.in-Ok.at) = subst
    (λ es. IsPlace (λ e. e.0) es c.args.key.now (Ok c.in-Ok.at)) c.deref.ensures.value c.in-Ok.ensures
    in
    seen_live _ attr_view (Some c.put_at.result) c.args.self.now c.args.key.now (got_by (λ e. e.0)
    (λ e. attr_view e.1) c.args.key.now c.self.inside.entries.items c.in-Ok.at _
    (λ d. ap attr_view (c.put_at.ensures.taken d)) p ∙ ap (λ d. dict_get d c.args.key.now) c.self.view_is)

pub returns-in-Err-clause-absent : goal.returns-in-Err-clause-absent
returns-in-Err-clause-absent g c =
    let p : IsPlace (λ e. e.0) c.self.inside.entries.items c.args.key.now (Err c.in-Err.field-0) = subst
    (λ es. IsPlace (λ e. e.0) es c.args.key.now (Err c.in-Err.field-0)) c.deref.ensures.value
    c.in-Err.ensures in
    ap (λ d. dict_get d c.args.key.now) (sym c.self.view_is) ∙ get_absent (λ e. e.0) (λ e. attr_view e.1)
    c.args.key.now c.self.inside.entries.items c.in-Err.field-0 p
