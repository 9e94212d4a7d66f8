-- The text of a type stands for it.
use Rattle.std.proofs.Common.{◌≡◌, ℕ, zero, suc, ◌<◌, false, List, [], ◌∷◌, ◌++◌, ◌^◌, inl, inr, length, map, Option}
use Rattle.std.proofs.Common.{Some, None, All, Ok, codes, refl, sym, ap, subst, ◌∙◌, arith, append_assoc}
use Rattle.std.proofs.lemmas.Option.{slice_get_cases}
use Rattle.plir_data.specs.Types.{TypeView, integer, function, unit, own, IsTypeTable, type_at}
use Rattle.plir_data.specs.TypeTree.{TypeTree, unit_tree, trees_of, tree_over, tree_of}
use Rattle.plir_data.specs.TypeText.{integer_text, text_over, type_text}
use Rattle.plir_data.specs.{LiveLaws.all_left, LiveLaws.all_right, OwnParts.Part, TextParts.parted}
use Rattle.plir_data.specs.{TextParts.parted_from, Unrolled.unrolled_if, Unrolled.unrolled_within}
use Rattle.plir_attr_text.specs.Tokens.{Token, word, sign, arrow, look, Begins}
use Rattle.plir_attr_text.specs.TypeGrammar.{enclosed, in_angles, SpellsInteger, SpellsType, SpellsTypes}
use Rattle.plir_attr_text.specs.TypeGrammar.{SpellsMoreTypes}
use Rattle.plir_attr_text.specs.Writable.{IsBuiltin, AreBuiltin, type_term, type_terms}
use Rattle.plir_attr_text.specs.laws.Printed.{look-type, type_spelled}
use Rattle.plir_attr_text.specs.laws.Runs.{Run, Shown, Tail, Shown-as, behind_id, word-shown, closed_by, nothing}
use Rattle.plir_attr_text.specs.laws.Runs.{behind_first, behind_comma}
use Rattle.plir_attr_text.specs.{Names.Names, Names.NamesAll, laws.Begun.Begins-append}
use Rattle.plir_attr_text.specs.laws.Lexing.{look-sign}

look-arrow : (rest : List ℕ) → look (45 ∷ 62 ∷ rest) ≡ Ok (arrow, rest)
unfolding look
look-arrow rest = refl

-- an integer type behind its id
pub integer_type-shown : (s : _) (w : ℕ) → w < 2 ^ 32 → Shown (SpellsInteger s w) (integer_text s w)
integer_type-shown s w lt =
    record {
      first = word (integer_text s w);
      others = [];
      spelled = type_spelled s w lt;
      begun = λ rest e. (
        rest,
        look-type s w rest (omega (arith, lt)) e,
        refl,
      );
    }

-- ---- types of functions

module _ {E F : List Token → Type 0} {first second : List ℕ} (p : Run E first) (q : Run F second) where
  in_parens : {G : List Token → Type 0} {text : List ℕ} (r : Run G text) (rest : List ℕ) →
      Begins (40 ∷ (text ++ 41 ∷ rest)) (enclosed 40 r.tokens 41) rest
  in_parens {G} {text} r rest =
      (text ++ 41 ∷ rest, look-sign 40 refl (text ++ 41 ∷ rest), closed_by 41 refl (look-sign 41 refl) r rest)

  abbrev signature_text : List ℕ
  signature_text = 60 ∷ 40 ∷ (first ++ (41 ∷ 45 ∷ 62 ∷ 40 ∷ (second ++ 41 ∷ 62 ∷ [])))

  regroup : (rest : List ℕ) → signature_text ++ rest ≡ 60 ∷ 40 ∷
      (first ++ (41 ∷ 45 ∷ 62 ∷ 40 ∷ (second ++ 41 ∷ 62 ∷ rest)))
  regroup rest = ap (λ bytes. 60 ∷ 40 ∷ bytes) (append_assoc first (41 ∷ 45 ∷ 62 ∷ 40 ∷ (second ++ 41 ∷ 62 ∷ [])) rest ∙
      ap (λ bytes. first ++ (41 ∷ 45 ∷ 62 ∷ 40 ∷ bytes)) (append_assoc second (41 ∷ 62 ∷ []) rest))

  results_begin : (rest : List ℕ) → Begins (45 ∷ 62 ∷ 40 ∷ (second ++ 41 ∷ 62 ∷ rest)) (arrow ∷
      (enclosed 40 q.tokens 41 ++ (sign 62 ∷ []))) rest
  results_begin rest = (
    40 ∷ (second ++ 41 ∷ 62 ∷ rest),
    look-arrow (40 ∷ (second ++ 41 ∷ 62 ∷ rest)),
    Begins-append (enclosed 40 q.tokens 41) (sign 62 ∷ []) (40 ∷ (second ++ 41 ∷ 62 ∷ rest)) (62 ∷
        rest) rest (in_parens q (62 ∷ rest)) (rest, look-sign 62 refl rest, refl),
  )

  pub signature-shown : Shown (λ ts. (as_ rs : List Token) × E as_ × F rs × (ts ≡ in_angles as_ rs)) signature_text
  signature-shown = record {
    first = sign 60;
    others = enclosed 40 p.tokens 41 ++ (arrow ∷ (enclosed 40 q.tokens 41 ++ (sign 62 ∷ [])));
    spelled = (p.tokens, q.tokens, p.spelled, q.spelled, refl);
    begun = λ rest e. subst (λ bytes. Begins bytes (in_angles p.tokens q.tokens) rest) (sym (regroup rest)) (
      40 ∷
          (first ++ (41 ∷ 45 ∷ 62 ∷ 40 ∷ (second ++ 41 ∷ 62 ∷ rest))),
      look-sign 60 refl (40 ∷ (first ++ (41 ∷ 45 ∷ 62 ∷ 40 ∷ (second ++ 41 ∷ 62 ∷ rest)))),
      Begins-append (enclosed 40 p.tokens 41) (arrow ∷ (enclosed 40 q.tokens 41 ++ (sign 62 ∷ []))) (40 ∷
          (first ++ (41 ∷ 45 ∷ 62 ∷ 40 ∷ (second ++ 41 ∷ 62 ∷ rest)))) (45 ∷ 62 ∷ 40 ∷ (second ++ 41 ∷ 62 ∷ rest)) rest
          (in_parens p (45 ∷ 62 ∷ 40 ∷ (second ++ 41 ∷ 62 ∷ rest))) (results_begin rest),
    );
  }

-- the tree of a handle, by at most n types above one another
abbrev tree_within : {T : Type 0} → List (TypeView T) → ℕ → ℕ → TypeTree T
tree_within types n = unrolled_within tree_over unit_tree n types

-- ---- texts of types, by their trees

module _ {T : Type 0} (own_id : T → List ℕ) (own_body : T → List Part) where
  -- a type, where the text of each that its handles name stands for the tree of that
  module _ (grown : ℕ → TypeTree T) (text : ℕ → List ℕ) (each : (h : ℕ) → IsBuiltin (grown h) →
      Shown (SpellsType (type_term (grown h))) (text h)) where
    more_types-shown : (hs : List ℕ) → AreBuiltin (trees_of (map grown hs)) →
        Tail (SpellsMoreTypes (type_terms (trees_of (map grown hs)))) (parted_from false (codes ", ") text hs)
    more_types-shown [] b = nothing
    more_types-shown (h ∷ hs) b = behind_comma (each h b.0) (more_types-shown hs b.1)

    types-shown : (hs : List ℕ) → AreBuiltin (trees_of (map grown hs)) →
        Run (SpellsTypes (type_terms (trees_of (map grown hs)))) (parted (codes ", ") text hs)
    types-shown [] b = nothing.run
    types-shown (h ∷ hs) b = behind_first (each h b.0) (more_types-shown hs b.1)

    over-shown : (t : TypeView T) → IsBuiltin (tree_over grown t) →
        Shown (SpellsType (type_term (tree_over grown t))) (text_over own_id own_body text t)
    over-shown (integer s w) b = behind_id (codes "builtin.integer") refl (integer_type-shown s w b)
    over-shown (function as_ rs) b =
        Shown-as (λ ts s. (s.1.0, s.1.1, s.1.2, s.1.3, s.2 ∙ ap (λ l. word (codes "builtin.function") ∷ l) s.1.4))
        (behind_id (codes "builtin.function") refl (signature-shown (types-shown as_ b.0) (types-shown rs b.1)))
    over-shown unit b = word-shown (codes "builtin.unit") refl
    over-shown (own t) b = absurd b

  module _ (types : List (TypeView T)) where
    abbrev text_within : ℕ → ℕ → List ℕ
    text_within n = unrolled_within (text_over own_id own_body) (codes "builtin.unit") n types

    within-shown : (n h : ℕ) → IsBuiltin (tree_within types n h) →
        Shown (SpellsType (type_term (tree_within types n h))) (text_within n h)
    unfolding unrolled_within
    within-shown zero h b = word-shown (codes "builtin.unit") refl
    within-shown (suc n) h b = by (type_at types h) b (within-shown n)
      where
        by : (o : Option (TypeView T)) → IsBuiltin (unrolled_if tree_over unit_tree (tree_within types n) o) →
            ((k : ℕ) → IsBuiltin (tree_within types n k) →
            Shown (SpellsType (type_term (tree_within types n k))) (text_within n k)) →
            Shown (SpellsType (type_term (unrolled_if tree_over unit_tree (tree_within types n) o)))
            (unrolled_if (text_over own_id own_body) (codes "builtin.unit") (text_within n) o)
        by (Some t) c each = over-shown (tree_within types n) (text_within n) each t c
        by None c each = word-shown (codes "builtin.unit") refl

    -- the text of a builtin type that a handle names
    pub type-shown : (h : ℕ) → IsBuiltin (tree_of types h) →
        Shown (SpellsType (type_term (tree_of types h))) (type_text own_id own_body types h)
    type-shown h b = within-shown (suc h) h b

-- ---- types by their handles

module _ {T : Type 0} (own_handles : T → List ℕ) (types : List (TypeView T)) (table : IsTypeTable own_handles types)
  where
    all_named : (grown : ℕ → TypeTree T) (b : ℕ) → ((k : ℕ) → k < b → IsBuiltin (grown k) →
        Names types k (type_term (grown k))) → (hs : List ℕ) → All (λ k. k < b) hs →
        AreBuiltin (trees_of (map grown hs)) → NamesAll types hs (type_terms (trees_of (map grown hs)))
    all_named grown b each [] below all = refl
    all_named grown b each (h ∷ hs) below all = (
      h,
      hs,
      each h (below 0 0 (omega arith)) all.0,
      all_named grown b each hs (λ k d p. below (suc k) d (omega (arith, p))) all.1,
      refl,
    )

    one_named : (grown : ℕ → TypeTree T) (h : ℕ) → ((k : ℕ) → k < h → IsBuiltin (grown k) →
        Names types k (type_term (grown k))) → (t : TypeView T) → type_at types h ≡ Some t →
        IsBuiltin (tree_over grown t) → Names types h (type_term (tree_over grown t))
    one_named grown h each (integer s w) is b = is
    one_named grown h each (function as_ rs) is b =
        let below = table.before (function as_ rs) h is in (
          as_,
          rs,
          is,
          all_named grown h each as_ (all_left (λ k. k < h) as_ rs below) b.0,
          all_named grown h each rs (all_right (λ k. k < h) as_ rs below) b.1,
        )
    one_named grown h each unit is b = is
    one_named grown h each (own t) is b = absurd b

    within_named : (n h : ℕ) → h < n → h < length types → IsBuiltin (tree_within types n h) →
        Names types h (type_term (tree_within types n h))
    unfolding unrolled_within
    within_named zero h lt live b = absurd (omega (arith, lt))
    within_named (suc n) h lt live b =
        by (type_at types h) refl (λ k less. within_named n k (omega (arith, lt, less)) (omega (arith, live, less))) b
      where
        by : (o : Option (TypeView T)) → type_at types h ≡ o → ((k : ℕ) → k < h → IsBuiltin (tree_within types n k) →
            Names types k (type_term (tree_within types n k))) →
            IsBuiltin (unrolled_if tree_over unit_tree (tree_within types n) o) →
            Names types h (type_term (unrolled_if tree_over unit_tree (tree_within types n) o))
        by (Some t) is each c = one_named (tree_within types n) h each t is c
        by None is each c = absurd (elim ((slice_get_cases types h).1) [
          | inl s ↦ let e : None ≡ Some s.0 = sym is ∙ s.2 in
              absurd cc
          | inr s ↦ omega (arith, live, s.0)
        ])

    -- a handle of the table names the type that it has
    pub type_named : (h : ℕ) → h < length types → IsBuiltin (tree_of types h) →
        Names types h (type_term (tree_of types h))
    type_named h live b = within_named (suc h) h (omega arith) live b
