-- The names that the entries of a dictionary use, entry by entry.
use Rattle.std.proofs.Common.{◌≡◌, ◌≤◌, ◌<◌, ◌+◌, ◌-◌, ℕ, suc, true, false, cond, List, [], ◌∷◌, ◌++◌, length, Bor}
use Rattle.std.proofs.Common.{Option, Some, None, option_map, arith, refl, sym, ap, ◌∙◌}
use Rattle.std.specs.Prelude.{codes, is_some}
use Rattle.std.specs.List.{cons_option}
use Rattle.std.specs.Str.{bytes_eq}
use Rattle.std.proofs.lemmas.List.{append_assoc, append-nil, length-append, map-append}
use Rattle.plir_data.specs.AttrView.{AttrView}
use Rattle.plir_data.specs.Dictionary.{dict_get}
use Rattle.plir_data.specs.Keys.{symbol_key}
use Rattle.plir_core.specs.Contents.{OpView}
use Rattle.plir_core.specs.ContextView.{attributes_in}
use Rattle.plir_builtin.specs.Symbols.{name_in}
use Rattle.plir_symbols.specs.BuiltinNames.{is_marked_private, is_text, name_under, names_held, names_under}
use Rattle.plir_symbols.specs.BuiltinNames.{visibility_key}
use Rattle.plir_symbols.specs.SymbolNames.{is_private_in, names_in}
use Rattle.plir_symbols.proofs.Told.{texts}

-- what is told of an operation is told of its dictionary
pub in-held : {K A : Type 0} (o : Option (OpView K A)) → names_in names_held o ≡ names_under (attributes_in o)
in-held None = refl
in-held (Some o) = refl

pub marked-in : {K A : Type 0} (o : Option (OpView K A)) →
    is_text (codes "private") (dict_get (attributes_in o) visibility_key) ≡ is_private_in is_marked_private o
marked-in None = refl
marked-in (Some o) = refl

pub some-map : {X Y : Type 0} (f : X → Y) (o : Option X) → is_some (option_map f o) ≡ is_some o
some-map f None = refl
some-map f (Some x) = refl

-- what is put before a list, if anything is
longer : {X : Type 0} (o : Option X) (xs : List X) → is_some o ≡ true → length (cons_option o xs) ≡ suc (length xs)
longer None xs e = absurd (let z : ⊥ = cc e in z)
longer (Some x) xs e = refl

as-long : {X : Type 0} (o : Option X) (xs : List X) → is_some o ≡ false → length (cons_option o xs) ≡ length xs
as-long None xs e = refl
as-long (Some x) xs e = absurd (let z : ⊥ = cc e in z)

one-longer : {X : Type 0} (o : Option X) (xs : List X) → length (cons_option o xs) ≤ suc (length xs)
one-longer None xs = omega arith
one-longer (Some x) xs = omega arith

module _ {A : Type 0} where
  -- an entry under another key than that of a symbol's own name uses the name in it
  pub other-name : (k : List ℕ) (v : AttrView A) (o : Option (List ℕ)) → bytes_eq k symbol_key ≡ false →
      o ≡ name_in (Some v) → o ≡ name_under (k, v)
  other-name k v o e is = is ∙ ap (λ t. cond t None (name_in (Some v))) (sym e)

  -- no more names than entries
  under-fewer : (es : List (List ℕ × AttrView A)) → length (names_under es) ≤ length es
  under-fewer [] = omega arith
  under-fewer (e ∷ es) =
      (let less = under-fewer es in let most = one-longer (name_under e) (names_under es) in omega (arith, less, most))

  -- as many as the entries, without those that use no name: at the start, past a name, past another entry, at the end
  pub counted-start : (es it : List (List ℕ × AttrView A)) (n : ℕ) → it ≡ es → n ≡ length es →
      n + length (names_under it) ≡ length (names_under es) + length it
  counted-start es it n same is =
      (let a = ap (λ z. length (names_under z)) same in let b = ap length same in omega (arith, is, a, b))

  module _ (it rest : List (List ℕ × AttrView A)) (e : List ℕ × AttrView A) (n t : ℕ) (step : it ≡ e ∷ rest)
      (inv : n + length (names_under it) ≡ t + length it) where
    all : length it ≡ suc (length rest)
    all = ap length step

    pub counted-some : is_some (name_under e) ≡ true → n + length (names_under rest) ≡ t + length rest
    counted-some is =
        (let a = ap (λ z. length (names_under z)) step ∙ longer (name_under e) (names_under rest) is in
        let b = all in omega (arith, inv, a, b))

    fewer : is_some (name_under e) ≡ false → length (names_under it) ≡ length (names_under rest)
    fewer is = ap (λ z. length (names_under z)) step ∙ as-long (name_under e) (names_under rest) is

    pub counted-least : is_some (name_under e) ≡ false → 1 ≤ n
    counted-least is =
        (let a = fewer is in let b = under-fewer rest in let d = all in omega (arith, inv, a, b, d))

    pub counted-none : is_some (name_under e) ≡ false → (n - 1) + length (names_under rest) ≡ t + length rest
    counted-none is =
        (let a = fewer is in let b = counted-least is in let d = all in omega (arith, inv, a, b, d))

  pub counted-end : (it : List (List ℕ × AttrView A)) (n t : ℕ) → it ≡ [] →
      n + length (names_under it) ≡ t + length it → n ≡ t
  counted-end it n t none inv =
      (let a = ap (λ z. length (names_under z)) none in let b = ap length none in omega (arith, inv, a, b))

  -- the names of the entries that were passed, and of those that are left: past another entry, past a name, at the end
  module _ (it rest : List (List ℕ × AttrView A)) (e : List ℕ × AttrView A) (ns : List (Bor (List ℕ)))
      (total : List (List ℕ)) (step : it ≡ e ∷ rest) (inv : texts ns ++ names_under it ≡ total) where
    gathered : (o : Option (List ℕ)) → o ≡ name_under e → texts ns ++ cons_option o (names_under rest) ≡ total
    gathered o is =
        ap (λ z. texts ns ++ cons_option z (names_under rest)) is
        ∙ sym (ap (λ z. texts ns ++ names_under z) step) ∙ inv

    pub gathered-none : None ≡ name_under e → texts ns ++ names_under rest ≡ total
    gathered-none is = gathered None is

    pub gathered-there : (x : List ℕ) → Some x ≡ name_under e → 0 < length total
    gathered-there x is =
        (let whole : length (texts ns ++ x ∷ names_under rest) ≡ length total = ap length (gathered (Some x) is) in
        let parts = length-append (texts ns) (x ∷ names_under rest) in omega (arith, whole, parts))

    pub gathered-some : (n : Bor (List ℕ)) (more : List (Bor (List ℕ))) → Some n.now ≡ name_under e →
        more ≡ ns ++ n ∷ [] → texts more ++ names_under rest ≡ total
    gathered-some n more is put =
        ap (λ z. texts z ++ names_under rest) put
        ∙ ap (λ z. z ++ names_under rest) (map-append (λ (m : Bor (List ℕ)). m.now) ns (n ∷ []))
        ∙ append_assoc (texts ns) (n.now ∷ []) (names_under rest)
        ∙ gathered (Some n.now) is

  pub gathered-end : (it : List (List ℕ × AttrView A)) (ns : List (Bor (List ℕ))) (total : List (List ℕ)) → it ≡ [] →
      texts ns ++ names_under it ≡ total → texts ns ≡ total
  gathered-end it ns total none inv =
      sym (append-nil (texts ns)) ∙ sym (ap (λ z. texts ns ++ names_under z) none) ∙ inv
