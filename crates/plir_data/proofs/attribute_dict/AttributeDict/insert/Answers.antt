use Rattle.std.proofs.Common.{◌≡◌, ◌∙◌, ap, subst, sym, refl, Ok, Err, OnOk}
use Rattle.plir_data.specs.AttrSeen.{attr_view}
use Rattle.plir_data.specs.DictSeen.{pairs_view}
use Rattle.plir_data.specs.Dictionary.{dict_put, IsDictionary}
use Rattle.plir_data.specs.Places.{KeysAscend, IsPlace}
use Rattle.plir_data.proofs.Dictionaries.{dictionary_put}
use Rattle.plir_data.proofs.KeyPlaces.{keys_ascend, put_by}
use Rattle.plir_data.proofs.KeyPlaces.{found_formed, inserted, dictionary_inserted}
use Rattle.plir_data.proofs.attribute_dict.AttributeDict.insert.Goals as goal

pub place_of-requires : goal.place_of-requires
place_of-requires g c =
    subst (KeysAscend (λ e. e.0)) (sym c.deref.ensures.value) (keys_ascend (λ e. e.0)
    (λ e. attr_view e.1) c.self.inside.entries.items c.self.invariant)

pub invariant_of-self : goal.invariant_of-self
invariant_of-self g c =
    let p : IsPlace (λ e. e.0) c.self.inside.entries.items c.as_str.result.now (Ok c.in-Ok.at) = subst
    (λ es. IsPlace (λ e. e.0) es c.as_str.result.now (Ok c.in-Ok.at)) c.deref.ensures.value
    c.in-Ok.ensures in
    subst IsDictionary (sym (put_by (λ e. e.0) (λ e. attr_view e.1) c.as_str.result.now
    c.self.inside.entries.items c.put_at-old.new.entries.items c.in-Ok.at (attr_view c.args.value)
    (λ e. (e.0, c.args.value)) (λ e. refl) (λ e. refl) c.put_at-old.ensures.put p))
    (dictionary_put _ c.as_str.result.now _ (found_formed (λ e. e.0) (λ e. attr_view e.1)
    c.as_str.result.now c.self.inside.entries.items c.in-Ok.at c.self.invariant p) c.self.invariant)

pub invariant_of-self-in-Err : goal.invariant_of-self-in-Err
invariant_of-self-in-Err g c =
    let p : IsPlace (λ e. e.0) c.self.inside.entries.items c.as_str.result.now (Err c.in-Err.at) = subst
    (λ es. IsPlace (λ e. e.0) es c.as_str.result.now (Err c.in-Err.at)) c.deref.ensures.value
    c.in-Err.ensures in
    let q : IsPlace (λ e. e.0) c.self.inside.entries.items c.args.key (Err c.in-Err.at) = subst
    (λ k. IsPlace (λ e. e.0) c.self.inside.entries.items k (Err c.in-Err.at)) c.as_str.ensures.text p
    in
    dictionary_inserted (λ e. e.0) (λ e. attr_view e.1) c.self.inside.entries.items
    c.insert_at.new.entries.items c.in-Err.at (c.args.key, c.args.value) c.insert_at.result c.args.key
    refl c.as_str.ensures.formed q c.self.invariant c.insert_at.ensures.ok
    c.insert_at.ensures.err

pub returns-in-Ok-clause-ok : goal.returns-in-Ok-clause-ok
returns-in-Ok-clause-ok g c =
    let p : IsPlace (λ e. e.0) c.self.inside.entries.items c.as_str.result.now (Ok c.in-Ok.at) = subst
    (λ es. IsPlace (λ e. e.0) es c.as_str.result.now (Ok c.in-Ok.at)) c.deref.ensures.value
    c.in-Ok.ensures in
    put_by (λ e. e.0) (λ e. attr_view e.1) c.as_str.result.now c.self.inside.entries.items
    c.put_at-old.new.entries.items c.in-Ok.at (attr_view c.args.value) (λ e. (e.0, c.args.value)) (λ e. refl)
    (λ e. refl) c.put_at-old.ensures.put p ∙ ap (λ d. dict_put d c.as_str.result.now (attr_view c.args.value))
    c.self.view_is ∙ ap (λ k. dict_put c.args.self.now k (attr_view c.args.value)) c.as_str.ensures.text

pub returns-in-Err-clause-ok : goal.returns-in-Err-clause-ok
returns-in-Err-clause-ok g c =
    let p : IsPlace (λ e. e.0) c.self.inside.entries.items c.as_str.result.now (Err c.in-Err.at) = subst
    (λ es. IsPlace (λ e. e.0) es c.as_str.result.now (Err c.in-Err.at)) c.deref.ensures.value
    c.in-Err.ensures in
    let q : IsPlace (λ e. e.0) c.self.inside.entries.items c.args.key (Err c.in-Err.at) = subst
    (λ k. IsPlace (λ e. e.0) c.self.inside.entries.items k (Err c.in-Err.at)) c.as_str.ensures.text p
    in
    subst (λ d. OnOk c.insert_at.result (pairs_view c.insert_at.new.entries.items ≡ dict_put d c.args.key
    (attr_view c.args.value))) c.self.view_is (inserted (λ e. e.0) (λ e. attr_view e.1)
    c.self.inside.entries.items c.insert_at.new.entries.items c.in-Err.at (c.args.key, c.args.value)
    c.insert_at.result c.args.key refl q c.insert_at.ensures.ok)
