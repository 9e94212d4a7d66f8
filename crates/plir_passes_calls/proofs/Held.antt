-- What is told of an operation by what it holds.
use Rattle.std.proofs.Common.{◌≡◌, ℕ, List, [], ◌∷◌, map, Option, Some, None, option_map, Bor, refl, sym, ap}
use Rattle.std.specs.Prelude.{is_some}
use Rattle.std.proofs.lemmas.Option.{none-some}
use Rattle.plir_data.specs.Dictionary.{dict_get}
use Rattle.plir_core.specs.Contents.{OpView}
use Rattle.plir_core.specs.ContextView.{attributes_in}
use Rattle.plir_builtin.specs.Symbols.{name_in}
use Rattle.plir_symbols.specs.SymbolNames.{is_private_in, names_in}
use Rattle.plir_passes_calls.specs.CallingKinds.{callee_key, private_key, listed, callees, is_marked}

pub some-map : {X Y : Type 0} (f : X → Y) (o : Option X) → is_some (option_map f o) ≡ is_some o
some-map f None = refl
some-map f (Some x) = refl

-- what references are to
abbrev pub texts : List (Bor (List ℕ)) → List (List ℕ)
texts ns = map (λ n. n.now) ns

module _ {K A : Type 0} where
  pub named-in : (o : Option (OpView K A)) (x : List ℕ) → Some x ≡ name_in (dict_get (attributes_in o) callee_key) → names_in callees o ≡ x ∷ []
  named-in None x e = absurd (none-some x (sym e))
  named-in (Some o) x e = ap listed (sym e)

  pub none-in : (o : Option (OpView K A)) → None ≡ name_in (dict_get (attributes_in o) callee_key) → names_in callees o ≡ []
  none-in None e = refl
  none-in (Some o) e = ap listed (sym e)

  pub marked-in : (o : Option (OpView K A)) → is_some (dict_get (attributes_in o) private_key) ≡ is_private_in is_marked o
  marked-in None = refl
  marked-in (Some o) = refl
