-- Where a value is put in place of another one here and there, what is left to be replaced is what was.
use Rattle.std.proofs.Common.{◌≡◌, ℕ, suc, ◌<◌, List, [], ◌∷◌, length, map, get_or, Option, Some, None}
use Rattle.std.proofs.Common.{inl, inr, refl, sym, ◌∙◌, ap, subst, arith, slice_set}
use Rattle.std.specs.Prelude.{Contains, option_map}
use Rattle.std.proofs.lemmas.List.{set-get_or, get_or_default}
use Rattle.std.proofs.lemmas.List.Elements.{Contains-get_or}
use Rattle.std.proofs.Math.Seq.{map-set_same}
use Rattle.plir_store.specs.Table.{Cell, no_cell, content_at, cell_at}
use Rattle.plir_core.specs.declared.value.Value.{Value}
use Rattle.plir_core.specs.Changes.{op_edited}
use Rattle.plir_core.specs.Contents.{OpView}
use Rattle.plir_core.specs.ContextView.{ContextView, operands_in}
use Rattle.plir_core.specs.Replaced.{replaced, op_replaced, cell_replaced, with_uses_replaced}
use Rattle.plir_core.specs.ValueUses.{IsOperandAt, HasUses}
use Rattle.plir_core.proofs.Rewiring.{told, at_v, at_other, at_w}
use Rattle.plir_core.proofs.ValueUses.{HasUses-at}

-- a function that leaves each element leaves the list
map_kept : {X : Type 0} (f : X → X) (xs : List X) → ((i : ℕ) (d : X) → i < length xs → f (get_or xs i d) ≡ get_or xs i d) →
    map f xs ≡ xs
map_kept f [] e = refl
map_kept f (x ∷ xs) e =
    let first : f x ≡ x = e 0 x (omega arith) in
    ap (λ z. z ∷ map f xs) first ∙ ap (λ zs. x ∷ zs) (map_kept f xs (λ i d h. e (suc i) d (omega arith)))

module _ (v w : Value) where
  -- once is as good as twice
  twice : (x : Value) → replaced v w (replaced v w x) ≡ replaced v w x
  twice x = elim (told v w x) [
    | inl e ↦ ap (replaced v w) (at_v v w x e) ∙ at_w v w ∙ sym (at_v v w x e)
    | inr n ↦ ap (replaced v w) (at_other v w x n)
  ]

  twice_all : (xs : List Value) → map (replaced v w) (map (replaced v w) xs) ≡ map (replaced v w) xs
  twice_all [] = refl
  twice_all (x ∷ xs) = ap (λ z. z ∷ map (replaced v w) (map (replaced v w) xs)) (twice x)
      ∙ ap (λ zs. replaced v w x ∷ zs) (twice_all xs)

  -- where v is not, nothing is replaced
  absent : (xs : List Value) → (Contains xs v → ⊥) → map (replaced v w) xs ≡ xs
  absent xs n = map_kept (replaced v w) xs (λ i d h. at_other v w (get_or xs i d) (λ e. n
      (subst (Contains xs) e (Contains-get_or xs i d h))))

module _ {K A : Type 0} (v w : Value) where
  -- an operation with these operands
  abbrev op_with : OpView K A → List Value → OpView K A
  op_with o xs = record o { operands = xs }

  op_twice : (o : OpView K A) → op_replaced v w (op_replaced v w o) ≡ op_replaced v w o
  op_twice o = ap (op_with o) (twice_all v w o.operands)

  op_absent : (o : OpView K A) → (Contains o.operands v → ⊥) → op_replaced v w o ≡ o
  op_absent o n = ap (op_with o) (absent v w o.operands n)

  -- a slot with this content
  abbrev holding : Cell (OpView K A) → Option (OpView K A) → Cell (OpView K A)
  holding c o = record { version = c.version; content = o }

  cell_absent : (c : Cell (OpView K A)) (o : Option (OpView K A)) → c.content ≡ o → (Contains (operands_in o) v → ⊥) →
      cell_replaced v w c ≡ c
  cell_absent c None e n = ap (λ z. holding c (option_map (op_replaced v w) z)) e ∙ ap (holding c) (sym e)
  cell_absent c (Some o) e n = ap (λ z. holding c (option_map (op_replaced v w) z)) e
      ∙ ap (λ z. holding c (Some z)) (op_absent o n) ∙ ap (holding c) (sym e)

module _ {K A T : Type 0} (s : ContextView K A T) (v w : Value) where
  abbrev with_slots : List (Cell (OpView K A)) → ContextView K A T
  with_slots l = record s { nodes = record s.nodes { ops = record s.nodes.ops { slots = l } } }

  -- nothing is left to be replaced where nothing uses v
  pub unused_rest : (HasUses s v → ⊥) → with_uses_replaced s v w ≡ s
  unused_rest not = ap with_slots (map_kept (cell_replaced v w) s.nodes.ops.slots (λ i d h. here i d h))
    where
      here : (i : ℕ) (d : Cell (OpView K A)) → i < length s.nodes.ops.slots → cell_replaced v w
          (get_or s.nodes.ops.slots i d) ≡ get_or s.nodes.ops.slots i d
      here i d h =
          let same : get_or s.nodes.ops.slots i d ≡ cell_at s.nodes.ops i = get_or_default s.nodes.ops.slots i d no_cell h in
          subst (λ c. cell_replaced v w c ≡ c) (sym same)
          (cell_absent v w (cell_at s.nodes.ops i) (content_at s.nodes.ops i) refl (λ c. not (HasUses-at s v i c)))

  -- an operation that has not v stays
  pub absent_edit : (i : ℕ) → (IsOperandAt s v i → ⊥) → op_edited s i (op_replaced v w) (content_at s.nodes.ops i) ≡ s
  absent_edit i n = go (content_at s.nodes.ops i) refl
    where
      go : (o : Option (OpView K A)) → content_at s.nodes.ops i ≡ o → op_edited s i (op_replaced v w) o ≡ s
      go None e = refl
      go (Some u) e =
          let kept : op_replaced v w u ≡ u = op_absent v w u (λ c. n (subst (λ z. Contains (operands_in z) v) (sym e) c))
          in
          ap (λ z. with_slots (slice_set s.nodes.ops.slots i (holding v w (cell_at s.nodes.ops i) (Some z)))) kept
          ∙ ap (λ z. with_slots (slice_set s.nodes.ops.slots i (holding v w (cell_at s.nodes.ops i) z))) (sym e)
          ∙ ap with_slots (set-get_or s.nodes.ops.slots i no_cell)

  -- after an operation was edited the same is left to be replaced
  pub edited_rest : (i : ℕ) → with_uses_replaced (op_edited s i (op_replaced v w) (content_at s.nodes.ops i)) v w ≡
      with_uses_replaced s v w
  edited_rest i = go (content_at s.nodes.ops i) refl
    where
      go : (o : Option (OpView K A)) → content_at s.nodes.ops i ≡ o → with_uses_replaced
          (op_edited s i (op_replaced v w) o) v w ≡ with_uses_replaced s v w
      go None e = refl
      go (Some u) e = ap with_slots (map_set s.nodes.ops.slots i (holding v w (cell_at s.nodes.ops i)
          (Some (op_replaced v w u))) (ap (λ z. holding v w (cell_at s.nodes.ops i) (Some z)) (op_twice v w u)
          ∙ ap (λ z. holding v w (cell_at s.nodes.ops i) (option_map (op_replaced v w) z)) (sym e)))
        where
          map_set : (l : List (Cell (OpView K A))) (j : ℕ) (c : Cell (OpView K A)) → cell_replaced v w c ≡
              cell_replaced v w (get_or l j no_cell) → map (cell_replaced v w) (slice_set l j c) ≡ map (cell_replaced v w) l
          map_set l j c e = map-set_same (cell_replaced v w) l j c no_cell e
