use Rattle.std.proofs.Common.{◌≡◌, ◌∙◌, ap, subst, sym, refl, Ok, Err, Some, set}
use Rattle.std.proofs.lemmas.List.{get_or_read}
use Rattle.std.proofs.lemmas.List.{get_or_read}
use Rattle.plir_data.specs.AttrSeen.{attr_view}
use Rattle.plir_data.specs.DictSeen.{pairs_view}
use Rattle.plir_data.specs.Dictionary.{dict_get, dict_put, IsDictionary}
use Rattle.plir_data.specs.Places.{KeysAscend, IsPlace}
use Rattle.plir_data.proofs.Dictionaries.{dictionary_put}
use Rattle.plir_data.proofs.HeldHandles.{seen_live}
use Rattle.plir_data.proofs.KeyPlaces.{keys_ascend, get_absent, got_by, put_found}
use Rattle.plir_data.proofs.KeyPlaces.{found_formed}
use Rattle.plir_data.proofs.attribute_dict.AttributeDict.get_mut.Goals as goal

pub place_of-requires : goal.place_of-requires
place_of-requires g c =
    subst (KeysAscend (λ e. e.0)) (sym c.deref.ensures.value) (keys_ascend (λ e. e.0)
    (λ e. attr_view e.1) c.self.inside.entries.items c.self.invariant)

pub invariant_of-self-lent : goal.invariant_of-self-lent
invariant_of-self-lent g c = λ w.
    let es = c.self.inside.entries.items in
    let k = c.args.key.now in
    let p : IsPlace (λ e. e.0) es k (Ok c.in-Ok.at) = subst (λ es. IsPlace (λ e. e.0) es k
    (Ok c.in-Ok.at)) c.deref.ensures.value c.in-Ok.ensures in
    let e = c.in_ok-entry.entry.now in
    let put : pairs_view (set es c.in-Ok.at (e.0, w)) ≡ dict_put (pairs_view es) k (attr_view w) = put_found
    (λ e. e.0) (λ e. attr_view e.1) k es c.in-Ok.at (e.0, w) (attr_view w)
    (λ d. ap (λ e. e.0) (get_or_read es c.in-Ok.at e p.0 c.in_ok-entry.ensures.value d)) refl p in
    subst IsDictionary (sym put) (dictionary_put (pairs_view es) k (attr_view w)
    (found_formed (λ e. e.0) (λ e. attr_view e.1) k es c.in-Ok.at c.self.invariant p) c.self.invariant)

pub returns-in-Err : goal.returns-in-Err
returns-in-Err g c =
    let p : IsPlace (λ e. e.0) c.self.inside.entries.items c.args.key.now (Err c.in-Err.field-0) = subst
    (λ es. IsPlace (λ e. e.0) es c.args.key.now (Err c.in-Err.field-0)) c.deref.ensures.value
    c.in-Err.ensures in (
      (refl, (λ w. tt), c.self.view_is),
      (
        sym (get_absent (λ e. e.0) (λ e. attr_view e.1) c.args.key.now
            c.self.inside.entries.items c.in-Err.field-0 p) ∙ ap (λ d. dict_get d c.args.key.now) c.self.view_is,
        tt,
      ),
    )

pub returns : goal.returns
returns g c =
    let es = c.self.inside.entries.items in
    let k = c.args.key.now in
    let p : IsPlace (λ e. e.0) es k (Ok c.in-Ok.at) = subst (λ es. IsPlace (λ e. e.0) es k
    (Ok c.in-Ok.at)) c.deref.ensures.value c.in-Ok.ensures in
    let e = c.in_ok-entry.entry.now in
    let got : Some (attr_view e.1) ≡ dict_get c.args.self.now k = got_by (λ e. e.0) (λ e. attr_view e.1) k
    es c.in-Ok.at _ (λ d. ap (λ e. attr_view e.1) (get_or_read es c.in-Ok.at e p.0 c.in_ok-entry.ensures.value d)) p
    ∙ ap (λ d. dict_get d k) c.self.view_is in (
      (
        refl,
        (λ w. put_found (λ e. e.0) (λ e. attr_view e.1) k es c.in-Ok.at (e.0, w) (attr_view w)
            (λ d. ap (λ e. e.0) (get_or_read es c.in-Ok.at e p.0 c.in_ok-entry.ensures.value d)) refl p ∙
            ap
            (λ d. dict_put d k (attr_view w)) c.self.view_is),
        refl,
      ),
      (
        got,
        seen_live _ attr_view (Some e.1) c.args.self.now
            k got,
      ),
    )
