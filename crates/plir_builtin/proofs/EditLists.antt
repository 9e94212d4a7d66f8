-- Edits one after another.
use Rattle.std.proofs.Common.{Bool, List, [], ◌∷◌, ◌++◌, Result, refl, subst}
use Rattle.plir_core.specs.ContextView.{ContextView}
use Rattle.plir_builtin.specs.declared.symbol_edits.SymbolEdit.{SymbolEdit}
use Rattle.plir_builtin.specs.declared.symbol_edits.SymbolEditErr.{SymbolEditErr}
use Rattle.plir_builtin.specs.Table.{Tables}
use Rattle.plir_builtin.specs.SymbolEdits.{IsStep, AreEdited}

module _ {K A T : Type 0} (w f g : K → Bool) where
  -- one more edit
  pub edited-more : (s m t : ContextView K A T) (b c d : Tables) (es : List SymbolEdit)
      (rs : List (Result (Unit {0}) SymbolEditErr)) (e : SymbolEdit) (r : Result (Unit {0}) SymbolEditErr)
      → AreEdited w f g s b es rs m c → IsStep w f g m c e r t d → AreEdited w f g s b (es ++ e ∷ []) (rs ++ r ∷ []) t d
  edited-more s m t b c d [] [] e r h k =
      (t, d, subst (λ z. IsStep w f g z b e r t d) h.0 (subst (λ z. IsStep w f g m z e r t d) h.1 k), (refl, refl))
  edited-more s m t b c d [] (q ∷ rs) e r h k = absurd h
  edited-more s m t b c d (x ∷ es) [] e r h k = absurd h
  edited-more s m t b c d (x ∷ es) (q ∷ rs) e r h k = (h.0, h.1, h.2, edited-more h.0 m t h.1 c d es rs e r h.3 k)
