-- Flags that are given numbers, as far as a loop has come.
use Rattle.std.proofs.Common.{◌≡◌, ℕ, suc, ◌+◌, ◌<◌, List, [], ◌∷◌, ◌++◌, length, take, get_or, map, Option, Some, None}
use Rattle.std.proofs.Common.{arith, refl, sym, subst, ap, ◌∙◌, string_bytes}
use Rattle.std.specs.List.{flat_map}
use Rattle.std.proofs.lemmas.Grind.{flat_map-append}
use Rattle.std.proofs.lemmas.List.{append-nil, append_assoc, map-append}
use Rattle.std.proofs.Math.Seq.{take-suc}
use Rattle.plir_pipelines.specs.declared.flags.Flag.{Flag}
use Rattle.plir_pipelines.specs.declared.flags.Given.{Given}
use Rattle.plir_command.specs.Chosen.{AreFlagsGiven, FlagText, given_by, text_of}

-- a flag is given nothing
pub none-given : (o : Option (List ℕ)) (name : List ℕ) (xs : List FlagText) → o ≡ None → xs ≡ xs ++ given_by o name
none-given o name xs none = sym (append-nil xs) ∙ ap (λ z. xs ++ given_by z name) (sym none)

-- a flag is given a number
pub one-given : (o : Option (List ℕ)) (g : Given) (xs ys : List Given) → ys ≡ xs ++ g ∷ [] → o ≡ Some g.number.now →
    map text_of ys ≡ map text_of xs ++ given_by o g.flag.now
one-given o g xs ys put some =
    ap (map text_of) put
    ∙ map-append text_of xs (g ∷ [])
    ∙ ap (λ z. map text_of xs ++ given_by z g.flag.now) (sym some)

-- a flag further
pub given-next : (value : List ℕ → Option (List ℕ)) (flags : List Flag) (i : ℕ) (f : Flag) (name : List ℕ)
    (given more : List Given) → i < length flags → f ≡ get_or flags i f → name ≡ string_bytes f.text →
    AreFlagsGiven value (take i flags) given → map text_of more ≡ map text_of given ++ given_by (value name) name →
    AreFlagsGiven value (take (i + 1) flags) more
given-next value flags i f name given more below is named so_far put =
    let next : i + 1 ≡ suc i = omega arith in
    let Each = λ (x : Flag). given_by (value (string_bytes x.text)) (string_bytes x.text) in
    put
    ∙ ap (λ z. z ++ given_by (value name) name) so_far
    ∙ ap (λ z. flat_map Each (take i flags) ++ given_by (value z) z) (named ∙ ap (λ x. string_bytes x.text) is)
    ∙ sym (ap (λ z. flat_map Each (take i flags) ++ z) (append-nil (Each (get_or flags i f))))
    ∙ sym (flat_map-append Each (take i flags) (get_or flags i f ∷ []))
    ∙ sym (ap (flat_map Each) (ap (λ k. take k flags) next ∙ take-suc flags i f below))
