use Rattle.std.proofs.Common.{◌≡◌, ◌∙◌, Ok, Err, None, ap, sym}
use Rattle.std.specs.Prelude.{OnOk, OnErr}
use Rattle.std.specs.declared.result.Result.{Result}
use Rattle.plir_data.specs.AttrView.{leaf, given_names}
use Rattle.plir_data.specs.Dictionary.{dict_get, dict_put}
use Rattle.plir_data.specs.Keys.{names_key}
use Rattle.plir_walk.specs.GivenNames.{all_unset}
use Rattle.plir_arguments.proofs.Keeping.{left-set, left-there, left-unset}
use Rattle.plir_arguments.proofs.names.drop_name.Goals as goal

settled : {X E : Type 0} (P N : Type 0) (r : Result X E) → OnOk r P → OnErr r N → (N → ⊥) → P
settled P N (Ok x) p n off = p
settled P N (Err e) p n off = absurd (off n)

pub returns-then-are_all_unset : goal.returns-then-are_all_unset
returns-then-are_all_unset g c =
    let told = sym c.in_ok-names.ensures ∙ c.in-Some.is in
    let unset = sym (ap all_unset c.names-2.ensures) ∙ sym c.are_all_unset.ensures ∙ c.if-are_all_unset.true in
    c.remove-names.ensures.left ∙ left-unset c.args.attributes.now c.args.i c.in-Some.names told unset

pub returns-else-are_all_unset : goal.returns-else-are_all_unset
returns-else-are_all_unset g c =
    let es = c.args.attributes.now in
    let ns = c.in-Some.names in
    let told = sym c.in_ok-names.ensures ∙ c.in-Some.is in
    let set = sym (ap all_unset c.names-2.ensures) ∙ sym c.are_all_unset.ensures ∙ c.if-are_all_unset.false in
    settled (c.replace-replaced.new.self ≡ dict_put es names_key (leaf (given_names ns))) (dict_get es names_key ≡ None)
    c.replace-replaced.result c.replace-replaced.ensures.put c.replace-replaced.ensures.absent
    (left-there es c.args.i ns told)
    ∙ left-set es c.args.i ns told set
