-- A type that is written is named by one handle of a table at most.
use Rattle.std.proofs.Common.{◌≡◌, ℕ, List, ◌∷◌, Some, sym, ap, ◌∙◌}
use Rattle.plir_data.specs.Types.{TypeView, integer, function, unit, IsTypeTable}
use Rattle.plir_attr_text.specs.Terms.{TypeTerm, integer_type, function_type, unit_type, TypeTerms, no_types}
use Rattle.plir_attr_text.specs.Terms.{type_before}
use Rattle.plir_attr_text.specs.Names.{Names, NamesAll}

module _ {T : Type 0} (own_handles : T → List ℕ) (types : List (TypeView T)) (table : IsTypeTable own_handles types)
  where
    mutual
      pub same_handle : (t : TypeTerm) (h k : ℕ) → Names types h t → Names types k t → h ≡ k
      same_handle (integer_type s w) h k n m = table.once (integer s w) h k n m
      same_handle (function_type as_ rs) h k n m =
          let p : n.0 ≡ m.0 = same_handles as_ n.0 m.0 n.3 m.3 in
          let q : n.1 ≡ m.1 = same_handles rs n.1 m.1 n.4 m.4 in
          table.once (function m.0 m.1) h k (n.2 ∙ ap (λ (l : List ℕ). Some (function l n.1)) p ∙
          ap (λ (l : List ℕ). Some (function m.0 l)) q) m.2
      same_handle unit_type h k n m = table.once unit h k n m

      pub same_handles : (ts : TypeTerms) (hs ks : List ℕ) → NamesAll types hs ts → NamesAll types ks ts → hs ≡ ks
      same_handles no_types hs ks n m = n ∙ sym m
      same_handles (type_before t ts) hs ks n m =
          n.4 ∙ ap (λ (h : ℕ). h ∷ n.1) (same_handle t n.0 m.0 n.2 m.2) ∙
          ap (λ (l : List ℕ). m.0 ∷ l) (same_handles ts n.1 m.1 n.3 m.3) ∙ sym m.4
