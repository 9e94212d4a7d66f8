-- What is kept of lists and of attributes where one is taken out.
use Rattle.std.proofs.Common.{◌≡◌, ℕ, Bool, true, false, cond, List, [], ◌∷◌, Option, Some, None, sym, ap, ◌∙◌}
use Rattle.std.specs.Prelude.{All, option_and_then, option_map}
use Rattle.std.proofs.lemmas.List.Elements.{All-cons, All-head, All-tail, All-nil}
use Rattle.plir_data.specs.AttrLive.{HandlesLive, IsAttrLive}
use Rattle.plir_data.specs.AttrView.{AttrView, leaf, given_names}
use Rattle.std.proofs.lemmas.Option.{none-some}
use Rattle.plir_data.specs.Dictionary.{dict_get, dict_put, dict_without, is_key}
use Rattle.plir_data.specs.Keys.{names_key}
use Rattle.plir_data.specs.LiveLaws.{put_live}
use Rattle.plir_data.specs.Types.{TypeView}
use Rattle.plir_walk.specs.GivenNames.{Names, all_unset, named, names_of, remove_name}
use Rattle.plir_arguments.specs.Dropped.{names_left, renamed, without_name}

-- what holds of each entry holds of each that is left
pub without-all : {V : Type 0} (P : List ℕ × V → Type 0) (es : List (List ℕ × V)) (k : List ℕ) → All P es
    → All P (dict_without es k)
without-all P [] k all = all
without-all P (e ∷ es) k all = by (is_key k e.0) (without-all P es k (All-tail P e es all))
  where
    by : (b : Bool) → All P (dict_without es k) → All P (cond b es (e ∷ dict_without es k))
    by true rest = All-tail P e es all
    by false rest = All-cons P e (dict_without es k) (All-head P e es all) rest

module _ {A T : Type 0} (own : A → List ℕ) (types : List (TypeView T)) where
  named-live : (ns : Names) (es : List (List ℕ × AttrView A)) → HandlesLive own types es
      → HandlesLive own types (named ns es)
  named-live ns es all = by (all_unset ns)
    where
      by : (b : Bool) → HandlesLive own types (cond b (dict_without es names_key) (dict_put es names_key (leaf (given_names ns))))
      by true = without-all (λ e. IsAttrLive own types e.1) es names_key all
      by false = put_live own types es names_key (leaf (given_names ns)) (All-nil _) all

  -- attributes are live still where a name is taken out
  pub nameless-live : (es : List (List ℕ × AttrView A)) (i : ℕ) → HandlesLive own types es
      → HandlesLive own types (without_name es i)
  nameless-live es i all = by (names_left es i)
    where
      by : (o : Option Names) → HandlesLive own types (renamed o es)
      by None = all
      by (Some ns) = named-live ns es all

module _ {A : Type 0} (es : List (List ℕ × AttrView A)) (i : ℕ) (ns : Names) (told : names_left es i ≡ Some ns) where
  -- where no name is left that is set, the attribute of names goes
  pub left-unset : all_unset ns ≡ true → dict_without es names_key ≡ without_name es i
  left-unset e = sym (ap (λ o. renamed o es) told
      ∙ ap (λ b. cond b (dict_without es names_key) (dict_put es names_key (leaf (given_names ns)))) e)

  -- else the names come in its place
  pub left-set : all_unset ns ≡ false → dict_put es names_key (leaf (given_names ns)) ≡ without_name es i
  left-set e = sym (ap (λ o. renamed o es) told
      ∙ ap (λ b. cond b (dict_without es names_key) (dict_put es names_key (leaf (given_names ns)))) e)

  -- there is one
  pub left-there : dict_get es names_key ≡ None → ⊥
  left-there none = none-some ns
      (sym (ap (λ o. option_map (λ ms. remove_name ms i) (option_and_then names_of o)) none) ∙ told)
