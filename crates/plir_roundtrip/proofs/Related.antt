-- Those that bear names in two trees: at the same places they bear the same ones.
use Rattle.std.proofs.Common.{◌≡◌, ℕ, suc, Bool, true, false, List, [], ◌∷◌, ◌++◌, map, inl, inr, Option, Some, None}
use Rattle.std.proofs.Common.{refl, sym, ap, subst, ◌∙◌}
use Rattle.std.specs.Option.{option_eq}
use Rattle.std.specs.Str.{bytes_eq}
use Rattle.std.specs.Prelude.{if◌then◌else◌}
use Rattle.std.proofs.lemmas.Bool.{and_parts}
use Rattle.std.proofs.lemmas.Option.{same_Some}
use Rattle.std.proofs.lemmas.Slice.Eq.{bytes_eq-Decides}
use Rattle.plir_names.specs.Meanings.{bearers, meaning, meaning_by}
use Rattle.plir_names.specs.declared.names.Meaning.{Meaning}
use Rattle.plir_names.specs.declared.names.Meaning.TheVariants.{Only}
use Rattle.plir_store.specs.Members.{Has}
use Rattle.plir_core.specs.ContextView.{ContextView, children}
use Rattle.plir_core.specs.SameValue.{ptr-exact, same_ptr}
use Rattle.plir_core.specs.declared.ptr.Ptr.{Ptr}
use Rattle.plir_core.specs.declared.ptr.Operation.{Operation as OperationKind}
use Rattle.plir_core.specs.declared.ptr.Region.{Region as RegionKind}
use Rattle.plir_core.specs.declared.ptr.BasicBlock.{BasicBlock as BlockKind}
use Rattle.plir_core.specs.declared.ptr.IRNode.{IRNode}
use Rattle.plir_core.specs.declared.ptr.IRNode.TheVariants.{Operation, Region}
use Rattle.plir_core.specs.declared.value.Value.{Value}
use Rattle.plir_attr_text.specs.Terms.{TypeTerms, no_types, type_before}
use Rattle.plir_walk.specs.Tree.{HasOnePlaceEach, node_at}
use Rattle.plir_read_ir.specs.Mentions.{Mention, value_bears, block_bears, operand_named, successor_named, WordIn}
use Rattle.plir_read_ir.specs.Mentions.{labels_in, operands_named, same_word, successors_named, values_bear, values_in}
use Rattle.plir_roundtrip.specs.SameIrTree.{AreAtOnePlace, IsSameTarget, Pairwise}

-- ---- lists, matched one by one

pub pairs_append : {X Y : Type 0} (R : X → Y → Type 0) (xs us : List X) (ys vs : List Y) → Pairwise R xs ys
    → Pairwise R us vs → Pairwise R (xs ++ us) (ys ++ vs)
pairs_append R [] us [] vs h k = k
pairs_append R [] us (y ∷ ys) vs h k = absurd h
pairs_append R (x ∷ xs) us [] vs h k = absurd h
pairs_append R (x ∷ xs) us (y ∷ ys) vs h k = (h.0, pairs_append R xs us ys vs h.1 k)

pub values_append : (ms ns : List Mention) → values_in (ms ++ ns) ≡ values_in ms ++ values_in ns
values_append [] ns = refl
values_append (value_bears w v ∷ ms) ns = ap (λ l. (w, v) ∷ l) (values_append ms ns)
values_append (block_bears l b ∷ ms) ns = values_append ms ns
values_append (operand_named w t ∷ ms) ns = values_append ms ns
values_append (successor_named l ∷ ms) ns = values_append ms ns

pub labels_append : (ms ns : List Mention) → labels_in (ms ++ ns) ≡ labels_in ms ++ labels_in ns
labels_append [] ns = refl
labels_append (value_bears w v ∷ ms) ns = labels_append ms ns
labels_append (block_bears l b ∷ ms) ns = ap (λ z. (l, b) ∷ z) (labels_append ms ns)
labels_append (operand_named w t ∷ ms) ns = labels_append ms ns
labels_append (successor_named l ∷ ms) ns = labels_append ms ns

module _ {K A T : Type 0} (s t : ContextView K A T) (x y : IRNode) where
  -- ---- scopes at the same place

  abbrev pub SameScope : {X : Type 0} → (Ptr X → IRNode) → Option (Ptr X) → Option (Ptr X) → Type 0
  SameScope node None None = Unit {0}
  SameScope node None (Some q) = ⊥
  SameScope node (Some p) None = ⊥
  SameScope node (Some p) (Some q) = AreAtOnePlace s t x y (node p) (node q)

  -- two bear one word, in scopes at the same place
  pub record BearAlike {X V : Type 0} (node : Ptr X → IRNode) (R : V → V → Type 0) (a b : WordIn X × V) : Type 0 where
    pub scope : SameScope node a.0.0 b.0.0
    pub word : a.0.1 ≡ b.0.1
    pub bearer : R a.1 b.1

  abbrev pub LabelsAlike : List (WordIn RegionKind × Ptr BlockKind) → List (WordIn RegionKind × Ptr BlockKind) → Type 0
  LabelsAlike ms ns = Pairwise (BearAlike (λ p. Region p) (IsSameTarget s t x y)) ms ns

  -- ---- what two texts say of names, where R relates the values

  module _ (R : Value → Value → Type 0) where
    abbrev pub ValuesAlike : List (WordIn OperationKind × Value) → List (WordIn OperationKind × Value) → Type 0
    ValuesAlike ms ns = Pairwise (BearAlike (λ p. Operation p) R) ms ns

    pub record SayAlike (ms ns : List Mention) : Type 0 where
      pub values : ValuesAlike (values_in ms) (values_in ns)
      pub labels : LabelsAlike (labels_in ms) (labels_in ns)

    pub nothing_said : SayAlike [] []
    nothing_said = record { values = tt; labels = tt }

    pub say_both : (ms us ns vs : List Mention) → SayAlike ms ns → SayAlike us vs → SayAlike (ms ++ us) (ns ++ vs)
    say_both ms us ns vs h k = record {
      values =
          subst (λ l. ValuesAlike l (values_in (ns ++ vs))) (sym (values_append ms us))
          (subst (λ l. ValuesAlike (values_in ms ++ values_in us) l) (sym (values_append ns vs))
          (pairs_append (BearAlike (λ p. Operation p) R) (values_in ms) (values_in us)
          (values_in ns) (values_in vs) h.values k.values));
      labels =
          subst (λ l. LabelsAlike l (labels_in (ns ++ vs))) (sym (labels_append ms us))
          (subst (λ l. LabelsAlike (labels_in ms ++ labels_in us) l) (sym (labels_append ns vs))
          (pairs_append (BearAlike (λ p. Region p) (IsSameTarget s t x y)) (labels_in ms) (labels_in us)
          (labels_in ns) (labels_in vs) h.labels k.labels));
    }

    -- values that bear words
    pub values_said : (b c : Option (Ptr OperationKind)) → SameScope (λ p. Operation p) b c → (f g : ℕ → Value)
        → ((i : ℕ) → R (f i) (g i)) → (i : ℕ) (ws : List (List ℕ))
        → SayAlike (values_bear b f i ws) (values_bear c g i ws)
    values_said b c h f g each i [] = nothing_said
    values_said b c h f g each i (w ∷ ws) =
        let more = values_said b c h f g each (suc i) ws in
        record { values = (record { scope = h; word = refl; bearer = each i }, more.values); labels = more.labels }

    -- what is used says nothing of who bears a name
    pub operands_said : (b c : Option (Ptr OperationKind)) (ws : List (List ℕ)) (ts : TypeTerms)
        → SayAlike (operands_named b ws ts) (operands_named c ws ts)
    operands_said b c [] ts = nothing_said
    operands_said b c (w ∷ ws) no_types = nothing_said
    operands_said b c (w ∷ ws) (type_before t ts) =
        let more = operands_said b c ws ts in record { values = more.values; labels = more.labels }

    pub successors_said : (b c : Option (Ptr RegionKind)) (ws : List (List ℕ))
        → SayAlike (successors_named b ws) (successors_named c ws)
    successors_said b c [] = nothing_said
    successors_said b c (w ∷ ws) =
        let more = successors_said b c ws in record { values = more.values; labels = more.labels }

  -- ---- what a name means

  module _ {X V : Type 0} (node : Ptr X → IRNode) (R : V → V → Type 0) (once : HasOnePlaceEach (children s) x)
      (apart : (p q : Ptr X) → node p ≡ node q → p ≡ q) where
    -- what is one scope in s is one scope in t
    scope_kept : (a b : Option (Ptr X)) (c d : Option (Ptr X)) → SameScope node a b → SameScope node c d
        → option_eq same_ptr a c ≡ true → option_eq same_ptr b d ≡ true
    scope_kept None None None None h k e = refl
    scope_kept None None None (Some q) h k e = absurd k
    scope_kept None None (Some p) None h k e = absurd k
    scope_kept None None (Some p) (Some q) h k e = absurd (let f : ⊥ = cc in f)
    scope_kept None (Some q) c d h k e = absurd h
    scope_kept (Some p) None c d h k e = absurd h
    scope_kept (Some p) (Some q) None None h k e = absurd (let f : ⊥ = cc in f)
    scope_kept (Some p) (Some q) None (Some v) h k e = absurd k
    scope_kept (Some p) (Some q) (Some u) None h k e = absurd k
    scope_kept (Some p) (Some q) (Some u) (Some v) h k e =
        let same : p ≡ u = (ptr-exact p u).0 e in
        let one : h.0 ≡ k.0 = once (node p) h.0 k.0 h.1 (k.1 ∙ ap (λ z. Some (node z)) (sym same)) in
        let at : Some (node q) ≡ Some (node v) = sym h.2 ∙ ap (node_at (children t) y) one ∙ k.2 in
        (ptr-exact q v).1 (apart q v (same_Some (node q) (node v) at))

    pub word_kept : (a b c d : WordIn X) → SameScope node a.0 b.0 → a.1 ≡ b.1 → SameScope node c.0 d.0 → c.1 ≡ d.1
        → same_word a c ≡ true → same_word b d ≡ true
    word_kept a b c d h e k f same =
        let ends = and_parts (option_eq same_ptr a.0 c.0) (bytes_eq a.1 c.1) same in
        let scope : option_eq same_ptr b.0 d.0 ≡ true = scope_kept a.0 b.0 c.0 d.0 h k ends.0 in
        let is : a.1 ≡ c.1 = (bytes_eq-Decides a.1 c.1).0 ends.1 in
        let word : bytes_eq b.1 d.1 ≡ true = (bytes_eq-Decides b.1 d.1).1 (sym e ∙ is ∙ f) in
        rw (scope, word) refl

    -- who bears a name in s is at the same place as one who bears it in t
    carried : (ms ns : List (WordIn X × V)) → Pairwise (BearAlike node R) ms ns → (w u : WordIn X)
        → SameScope node w.0 u.0 → w.1 ≡ u.1 → (v : V) → Has (bearers same_word ms w) v
        → (z : V) × Has (bearers same_word ns u) z × R v z
    carried [] [] h w u sc e v has = absurd has
    carried [] (n ∷ ns) h w u sc e v has = absurd h
    carried (m ∷ ms) [] h w u sc e v has = absurd h
    carried (m ∷ ms) (n ∷ ns) h w u sc e v has =
        at (same_word m.0 w) refl (λ k. carried ms ns h.1 w u sc e v k) has
      where
        more : (b : Bool) (z : V) → Has (bearers same_word ns u) z
            → Has (if b then n.1 ∷ bearers same_word ns u else bearers same_word ns u) z
        more true z k = inr k
        more false z k = k

        first : (b : Bool) → b ≡ true
            → Has (if b then n.1 ∷ bearers same_word ns u else bearers same_word ns u) n.1
        first true k = inl refl
        first false k = absurd (let f : ⊥ = cc in f)

        others : (z : V) × Has (bearers same_word ns u) z × R v z
            → (z : V) × Has (bearers same_word (n ∷ ns) u) z × R v z
        others r = (r.0, more (same_word n.0 u) r.0 r.1, r.2)

        at : (b : Bool) → same_word m.0 w ≡ b
            → (Has (bearers same_word ms w) v → (z : V) × Has (bearers same_word ns u) z × R v z)
            → Has (if b then m.1 ∷ bearers same_word ms w else bearers same_word ms w) v
            → (z : V) × Has (bearers same_word (n ∷ ns) u) z × R v z
        at true is rest (inl same) = (
          n.1,
          first (same_word n.0 u) (word_kept m.0 n.0 w u h.0.scope h.0.word sc e is),
          subst (λ z. R z n.1) same h.0.bearer,
        )
        at true is rest (inr k) = others (rest k)
        at false is rest k = others (rest k)

    pub only_one : (vs : List V) (v : V) → meaning_by vs ≡ Only v → vs ≡ v ∷ []
    only_one [] v e = absurd (let f : ⊥ = cc in f)
    only_one (a ∷ []) v e = let same : a ≡ v = cc in ap (λ z. z ∷ []) same
    only_one (a ∷ b ∷ vs) v e = absurd (let f : ⊥ = cc in f)

    -- what alone bears a name in s is at the same place as what alone bears it in t
    pub meant_alike : (ms ns : List (WordIn X × V)) → Pairwise (BearAlike node R) ms ns → (w u : WordIn X)
        → SameScope node w.0 u.0 → w.1 ≡ u.1 → (v z : V) → meaning same_word ms w ≡ Only v
        → meaning same_word ns u ≡ Only z → R v z
    meant_alike ms ns h w u sc e v z mine yours =
        let one = only_one (bearers same_word ms w) v mine in
        let other = only_one (bearers same_word ns u) z yours in
        let c = carried ms ns h w u sc e v (subst (λ l. Has l v) (sym one) (inl refl)) in
        elim (subst (λ l. Has l c.0) other c.1) [
          | inl same ↦ subst (R v) (sym same) c.2
          | inr none ↦ absurd none
        ]

-- values that names mean, one after the other
pub all_meant : {V : Type 0} (R : V → V → Type 0) (name : V → List ℕ) (f g : List ℕ → Meaning V)
    → ((w : List ℕ) (v z : V) → f w ≡ Only v → g w ≡ Only z → R v z) → (vs zs : List V)
    → map (λ v. f (name v)) vs ≡ map (λ v. Only v) vs → map g (map name vs) ≡ map (λ v. Only v) zs → Pairwise R vs zs
all_meant R name f g each [] [] mine yours = tt
all_meant R name f g each [] (z ∷ zs) mine yours = absurd (let e : ⊥ = cc in e)
all_meant R name f g each (v ∷ vs) [] mine yours = absurd (let e : ⊥ = cc in e)
all_meant R name f g each (v ∷ vs) (z ∷ zs) mine yours =
    let first : f (name v) ≡ Only v = cc in
    let others : map (λ v. f (name v)) vs ≡ map (λ v. Only v) vs = cc in
    let second : g (name v) ≡ Only z = cc in
    let behind : map g (map name vs) ≡ map (λ v. Only v) zs = cc in
    (each (name v) v z first second, all_meant R name f g each vs zs others behind)
