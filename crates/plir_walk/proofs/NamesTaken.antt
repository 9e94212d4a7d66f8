-- Names that are taken out to be edited, and put back.
use Rattle.std.proofs.Common.{◌≡◌, ℕ, Bool, true, false, cond, List, [], Option, Some, None, IsSome, is_some, refl, sym}
use Rattle.std.proofs.Common.{ap, subst, ◌∙◌}
use Rattle.std.specs.Prelude.{unwrap_or, option_and_then, option_map}
use Rattle.std.proofs.lemmas.Option.{none-some}
use Rattle.plir_data.specs.AttrView.{leaf, unit, given_names}
use Rattle.plir_data.specs.Dictionary.{IsDictionary, dict_get, dict_put, dict_without}
use Rattle.plir_core.specs.declared.value.DefiningEntity.{DefiningEntity}
use Rattle.plir_core.specs.ContextView.{ContextView, IsLive, entity_node}
use Rattle.plir_walk.specs.declared.name_list.Placing.{Placing}
use Rattle.plir_walk.specs.GivenNames.{Names, names_of, named, all_unset, attributes_at, with_attributes, names_at}
use Rattle.plir_walk.specs.GivenNames.{with_names}
use Rattle.plir_walk.specs.Placing.{placed_name}
use Rattle.plir_walk.proofs.NameLists.{unset-first, given-set}
use Rattle.plir_data.specs.DictLaws.{put-put, without-put, put-same, without-absent, get-put}
use Rattle.plir_data.specs.Keys.{names_key}
use Rattle.plir_walk.proofs.NamedStores.{attributes-same, attributes-id, attributes-live, attributes-after}
use Rattle.plir_walk.proofs.NamedStores.{attributes-then}

module _ {K A T : Type 0} (s t : ContextView K A T) (e : DefiningEntity) (ns : Names) {names : Option Names}
    (some : names ≡ Some ns)
    (found : option_map (λ ns. leaf (given_names ns)) names ≡ dict_get (attributes_at s e) names_key)
    (left : IsSome names → t ≡ with_attributes s e (λ es. dict_put es names_key (leaf unit))) where
  taken : Some (leaf (given_names ns)) ≡ dict_get (attributes_at s e) names_key
  taken = sym (ap (option_map (λ ns. leaf (given_names ns))) some) ∙ found

  after : t ≡ with_attributes s e (λ es. dict_put es names_key (leaf unit))
  after = left (subst IsSome (sym some) refl)

  -- the node is live still, and something stands under the key
  pub taken-live : IsLive s (entity_node e) → IsLive t (entity_node e)
  taken-live l = subst (λ z. IsLive z (entity_node e)) (sym after) (attributes-live s e
      (λ es. dict_put es names_key (leaf unit)) l)

  pub taken-present : IsSome (dict_get (attributes_at t e) names_key)
  taken-present =
      let there : attributes_at s e ≡ [] → ⊥ = λ q. none-some (leaf (given_names ns))
      (sym (ap (λ es. dict_get es names_key) q) ∙ sym taken) in
      let q : attributes_at t e ≡ dict_put (attributes_at s e) names_key (leaf unit) = ap
      (λ z. attributes_at z e) after ∙ attributes-after s e (λ es. dict_put es names_key (leaf unit)) there in
      subst IsSome (sym (ap (λ es. dict_get es names_key) q ∙ get-put (attributes_at s e) names_key (leaf unit))) refl

  -- the names that there were
  pub taken-names : names_at s e ≡ ns
  taken-names = ap (λ o. unwrap_or (option_and_then names_of o) []) (sym taken)

  module _ (d : IsDictionary (attributes_at s e)) where
    -- names that are put back
    pub names-put : (ms : Names) → with_names t e ms ≡ with_names s e ms
    names-put ms =
        ap (λ z. with_names z e ms) after
        ∙ attributes-then s e (λ es. dict_put es names_key (leaf unit)) (named ms)
        ∙ attributes-same s e (λ es. named ms (dict_put es names_key (leaf unit))) (named ms) (by (all_unset ms))
      where
        by : (b : Bool) → cond b (dict_without (dict_put (attributes_at s e) names_key (leaf unit)) names_key)
            (dict_put (dict_put (attributes_at s e) names_key (leaf unit)) names_key (leaf (given_names ms))) ≡ cond b
            (dict_without (attributes_at s e) names_key) (dict_put (attributes_at s e) names_key
            (leaf (given_names ms)))
        by true = without-put (attributes_at s e) names_key (leaf unit) (leaf (given_names ns)) d (sym taken)
        by false = put-put (attributes_at s e) names_key (leaf unit) (leaf (given_names ms))

    -- names that are put back as they were
    pub names-restored : with_attributes t e (λ es. dict_put es names_key (leaf (given_names ns))) ≡ s
    names-restored =
        ap (λ z. with_attributes z e (λ es. dict_put es names_key (leaf (given_names ns)))) after
        ∙ attributes-then s e (λ es. dict_put es names_key (leaf unit)) (λ es. dict_put es names_key
        (leaf (given_names ns)))
        ∙ attributes-id s e (λ es. dict_put (dict_put es names_key (leaf unit)) names_key (leaf (given_names ns)))
        (put-put (attributes_at s e) names_key (leaf unit) (leaf (given_names ns)) ∙ put-same (attributes_at s e)
        names_key (leaf (given_names ns)) d (sym taken))

-- Where nothing stands under the key.
module _ {K A T : Type 0} (s : ContextView K A T) (e : DefiningEntity) (absent : dict_get (attributes_at s e) names_key
    ≡ None) where
  pub no-names : names_at s e ≡ []
  no-names = ap (λ o. unwrap_or (option_and_then names_of o) []) absent

  pub names-unset : (ms : Names) → all_unset ms ≡ true → with_names s e ms ≡ s
  names-unset ms none = attributes-id s e (named ms) (ap (λ b. cond b (dict_without (attributes_at s e) names_key)
      (dict_put (attributes_at s e) names_key (leaf (given_names ms)))) none ∙ without-absent (attributes_at s e)
      names_key absent)

  -- an unset name adds nothing
  pub first-unset : (p : Placing) (i : ℕ) (n : Option (List ℕ)) → is_some n ≡ false → with_names s e
      (placed_name p [] i n) ≡ s
  first-unset p i None none = names-unset (placed_name p [] i None) (unset-first p i)
  first-unset p i (Some v) none = absurd (let z : ⊥ = cc (none) in z)

  -- a name that is set comes into a new list
  pub first-set : (p : Placing) (i : ℕ) (n : Option (List ℕ)) (ms : Names) → is_some n ≡ true → ms ≡ placed_name p [] i
      n → with_attributes s e (λ es. dict_put es names_key (leaf (given_names ms))) ≡ with_names s e
      (placed_name p [] i n)
  first-set p i None ms some is = absurd (let z : ⊥ = cc (some) in z)
  first-set p i (Some v) ms some is =
      ap (λ z. with_attributes s e (λ es. dict_put es names_key (leaf (given_names z)))) is
      ∙ attributes-same s e (λ es. dict_put es names_key (leaf (given_names (placed_name p [] i (Some v)))))
      (named (placed_name p [] i (Some v)))
      (sym (ap (λ b. cond b (dict_without (attributes_at s e) names_key) (dict_put (attributes_at s e) names_key
      (leaf (given_names (placed_name p [] i (Some v)))))) (given-set p [] i v)))
