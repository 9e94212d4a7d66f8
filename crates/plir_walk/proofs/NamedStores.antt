-- The attributes of an operation or a block, edited one time after another.
use Rattle.std.proofs.Common.{◌≡◌, ℕ, zero, suc, List, [], ◌∷◌, Option, Some, None, IsSome, slice_set, refl, sym, ap}
use Rattle.std.proofs.Common.{subst, ◌∙◌}
use Rattle.std.proofs.lemmas.List.{set-get_or}
use Rattle.plir_store.specs.Table.{Table, Cell, no_cell, content_at, version_at, with_content}
use Rattle.plir_data.specs.AttrView.{AttrView}
use Rattle.plir_core.specs.declared.ptr.Ptr.{Ptr}
use Rattle.plir_core.specs.declared.ptr.Operation.{Operation as OperationKind}
use Rattle.plir_core.specs.declared.ptr.BasicBlock.{BasicBlock as BasicBlockKind}
use Rattle.plir_core.specs.declared.ptr.IRNode.TheVariants.{Operation, BasicBlock}
use Rattle.plir_core.specs.declared.value.DefiningEntity.{DefiningEntity}
use Rattle.plir_core.specs.declared.value.DefiningEntity.TheVariants.{Op, Block}
use Rattle.plir_core.specs.Contents.{OpView, BlockView}
use Rattle.plir_core.specs.ContextView.{ContextView, IsLive, entity_node, op_at, block_at, attributes_in}
use Rattle.plir_core.specs.ContextView.{block_attributes_in}
use Rattle.plir_core.specs.Changes.{with_op_content, with_block_content, op_edited, block_edited, with_op_edit}
use Rattle.plir_core.specs.Changes.{with_block_edit}
use Rattle.plir_walk.specs.GivenNames.{attributes_at, with_attributes}
use Rattle.plir_walk.proofs.Slots.{content-here, version-kept, live-kept}

module _ {C : Type 0} (t : Table C) (i : ℕ) where
  -- of two writes the second stays
  pub content-again : (v w : C) → IsSome (content_at t i) → with_content (with_content t i v) i w ≡ with_content t i w
  content-again v w some =
      ap (λ n. record t {
        slots = slice_set (slice_set t.slots i (record {
          version = version_at t i;
          content = Some v;
        })) i (record { version = n; content = Some w });
      }) (version-kept t i v some i)
      ∙ ap (λ l. record t { slots = l }) (set-twice t.slots i _ _)
    where
      set-twice : (xs : List (Cell C)) (k : ℕ) (a b : Cell C) → slice_set (slice_set xs k a) k b ≡ slice_set xs k b
      set-twice [] k a b = refl
      set-twice (x ∷ xs) zero a b = refl
      set-twice (x ∷ xs) (suc k) a b = ap (λ l. x ∷ l) (set-twice xs k a b)

  -- to write what is there changes nothing
  pub content-same : (v : C) → content_at t i ≡ Some v → with_content t i v ≡ t
  content-same v e =
      ap (λ o. record t { slots = slice_set t.slots i (record { version = version_at t i; content = o }) }) (sym e)
      ∙ ap (λ l. record t { slots = l }) (set-get_or t.slots i no_cell)

  -- what is done to a content, if there is one
  abbrev pub edit_in : (C → C) → Option C → Table C
  edit_in f None = t
  edit_in f (Some v) = with_content t i (f v)

  abbrev pub edited : (C → C) → Table C
  edited f = edit_in f (content_at t i)

module _ {C : Type 0} (t : Table C) (i : ℕ) where
  some-of : (v : C) → content_at t i ≡ Some v → IsSome (content_at t i)
  some-of v e = subst IsSome (sym e) refl

  pub edit-then : (f g : C → C) → edited (edited t i f) i g ≡ edited t i (λ v. g (f v))
  edit-then f g = go (content_at t i) refl
    where
      go : (o : Option C) → content_at t i ≡ o → edited (edit_in t i f o) i g ≡ edit_in t i (λ v. g (f v)) o
      go None e = ap (edit_in t i g) e
      go (Some v) e = ap (edit_in (with_content t i (f v)) i g) (content-here t i (f v) (some-of v e)) ∙ content-again t
          i (f v) (g (f v)) (some-of v e)

module _ {K A T : Type 0} where
  pub op-edit-is : (s : ContextView K A T) (p : Ptr OperationKind) (f : OpView K A → OpView K A) → with_op_edit s p f ≡
      record s { nodes = record s.nodes { ops = edited s.nodes.ops p.slot f } }
  op-edit-is s p f = elim (op_at s p) as (λ o. op_edited s p.slot f o ≡ record s
      { nodes = record s.nodes { ops = edit_in s.nodes.ops p.slot f o } }) [ None ↦ refl | Some v ↦ refl ]

  pub block-edit-is : (s : ContextView K A T) (p : Ptr BasicBlockKind) (f : BlockView A → BlockView A) → with_block_edit
      s p f ≡ record s { nodes = record s.nodes { blocks = edited s.nodes.blocks p.slot f } }
  block-edit-is s p f = elim (block_at s p) as (λ o. block_edited s p.slot f o ≡ record s
      { nodes = record s.nodes { blocks = edit_in s.nodes.blocks p.slot f o } }) [ None ↦ refl | Some v ↦ refl ]

module _ {K A T : Type 0} (s : ContextView K A T) where
  abbrev Attributes : Type 0
  Attributes = List (List ℕ × AttrView A)

  -- where two edits do the same
  pub attributes-same : (e : DefiningEntity) (f g : Attributes → Attributes) → f (attributes_at s e) ≡ g
      (attributes_at s e) → with_attributes s e f ≡ with_attributes s e g
  attributes-same (Op p) f g h = elim (op_at s p) as (λ o. f (attributes_in o) ≡ g (attributes_in o) → op_edited s
      p.slot (λ v. record v { attributes = f v.attributes }) o ≡ op_edited s p.slot
      (λ v. record v { attributes = g v.attributes }) o) [
        | None ↦ λ q. refl
        | Some v ↦ λ q. ap (λ es. with_op_content s p.slot (record v { attributes = es })) q
      ] h
  attributes-same (Block p) f g h = elim (block_at s p) as (λ o. f (block_attributes_in o) ≡ g (block_attributes_in o) →
      block_edited s p.slot (λ v. record v { attributes = f v.attributes }) o ≡ block_edited s p.slot
      (λ v. record v { attributes = g v.attributes }) o) [
        | None ↦ λ q. refl
        | Some v ↦ λ q. ap (λ es. with_block_content s p.slot (record v { attributes = es })) q
      ] h

  -- where an edit does nothing
  pub attributes-id : (e : DefiningEntity) (f : Attributes → Attributes) → f (attributes_at s e) ≡ attributes_at s e →
      with_attributes s e f ≡ s
  attributes-id (Op p) f h = attributes-same (Op p) f (λ es. es) h ∙ go (op_at s p) refl
    where
      go : (o : Option (OpView K A)) → op_at s p ≡ o → op_edited s p.slot (λ v. v) o ≡ s
      go None q = refl
      go (Some v) q = ap (λ t. record s { nodes = record s.nodes { ops = t } }) (content-same s.nodes.ops p.slot v q)
  attributes-id (Block p) f h = attributes-same (Block p) f (λ es. es) h ∙ go (block_at s p) refl
    where
      go : (o : Option (BlockView A)) → block_at s p ≡ o → block_edited s p.slot (λ v. v) o ≡ s
      go None q = refl
      go (Some v) q = ap (λ t. record s { nodes = record s.nodes { blocks = t } })
          (content-same s.nodes.blocks p.slot v q)

  -- an edit leaves live what was
  pub attributes-live : (e : DefiningEntity) (f : Attributes → Attributes) → IsLive s (entity_node e) → IsLive
      (with_attributes s e f) (entity_node e)
  attributes-live (Op p) f l = go (op_at s p) refl
    where
      go : (o : Option (OpView K A)) → op_at s p ≡ o → IsLive (op_edited s p.slot
          (λ v. record v { attributes = f v.attributes }) o) (Operation p)
      go None q = l
      go (Some v) q = live-kept s.nodes.ops p.slot (record v { attributes = f v.attributes })
          (some-of s.nodes.ops p.slot v q) p.slot p.version l
  attributes-live (Block p) f l = go (block_at s p) refl
    where
      go : (o : Option (BlockView A)) → block_at s p ≡ o → IsLive (block_edited s p.slot
          (λ v. record v { attributes = f v.attributes }) o) (BasicBlock p)
      go None q = l
      go (Some v) q = live-kept s.nodes.blocks p.slot (record v { attributes = f v.attributes })
          (some-of s.nodes.blocks p.slot v q) p.slot p.version l

  -- the attributes are what the edit made of them, where there were any
  pub attributes-after : (e : DefiningEntity) (f : Attributes → Attributes) → (attributes_at s e ≡ [] → ⊥) →
      attributes_at (with_attributes s e f) e ≡ f (attributes_at s e)
  attributes-after (Op p) f some = go (op_at s p) refl some
    where
      go : (o : Option (OpView K A)) → op_at s p ≡ o → (attributes_in o ≡ [] → ⊥) → attributes_at
          (op_edited s p.slot (λ v. record v { attributes = f v.attributes }) o) (Op p) ≡ f (attributes_in o)
      go None q some = absurd (some refl)
      go (Some v) q some = ap attributes_in (content-here s.nodes.ops p.slot (record v { attributes = f v.attributes })
          (some-of s.nodes.ops p.slot v q))
  attributes-after (Block p) f some = go (block_at s p) refl some
    where
      go : (o : Option (BlockView A)) → block_at s p ≡ o → (block_attributes_in o ≡ [] → ⊥) → attributes_at
          (block_edited s p.slot (λ v. record v { attributes = f v.attributes }) o) (Block p) ≡ f
          (block_attributes_in o)
      go None q some = absurd (some refl)
      go (Some v) q some = ap block_attributes_in (content-here s.nodes.blocks p.slot
          (record v { attributes = f v.attributes }) (some-of s.nodes.blocks p.slot v q))

  -- one edit after another
  pub attributes-then : (e : DefiningEntity) (f g : Attributes → Attributes) → with_attributes (with_attributes s e f) e
      g ≡ with_attributes s e (λ es. g (f es))
  attributes-then (Op p) f g =
      let put : (Attributes → Attributes) → OpView K A → OpView K A = λ h v. record v { attributes = h v.attributes } in
      ap (λ z. with_op_edit z p (put g)) (op-edit-is s p (put f))
      ∙ op-edit-is (record s { nodes = record s.nodes { ops = edited s.nodes.ops p.slot (put f) } }) p (put g)
      ∙ ap (λ t. record s { nodes = record s.nodes { ops = t } }) (edit-then s.nodes.ops p.slot (put f) (put g))
      ∙ sym (op-edit-is s p (λ v. put g (put f v)))
  attributes-then (Block p) f g =
      let put : (Attributes → Attributes) → BlockView A → BlockView A =
      λ h v. record v { attributes = h v.attributes } in
      ap (λ z. with_block_edit z p (put g)) (block-edit-is s p (put f))
      ∙ block-edit-is (record s { nodes = record s.nodes { blocks = edited s.nodes.blocks p.slot (put f) } }) p (put g)
      ∙ ap (λ t. record s { nodes = record s.nodes { blocks = t } }) (edit-then s.nodes.blocks p.slot (put f) (put g))
      ∙ sym (block-edit-is s p (λ v. put g (put f v)))
