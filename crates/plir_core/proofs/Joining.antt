-- Two edits of what an operation holds are one, and two of what a block holds.
use Rattle.std.proofs.Common.{◌≡◌, ℕ, zero, suc, List, [], ◌∷◌, Option, Some, None, IsSome, refl, sym, ap, subst, ◌∙◌}
use Rattle.std.specs.Prelude.{slice_set}
use Rattle.plir_store.specs.Table.{Table, Cell, content_at, version_at, with_content}
use Rattle.plir_core.specs.declared.ptr.Ptr.{Ptr}
use Rattle.plir_core.specs.declared.ptr.Operation.{Operation as OperationKind}
use Rattle.plir_core.specs.declared.ptr.BasicBlock.{BasicBlock as BlockKind}
use Rattle.plir_core.specs.Contents.{OpView, BlockView}
use Rattle.plir_core.specs.ContextView.{ContextView, op_at, block_at}
use Rattle.plir_core.specs.Changes.{with_op_edit, op_edited, with_block_edit, block_edited}
use Rattle.plir_core.proofs.Holds.{here_held, version_held}

module _ {C : Type 0} (t : Table C) (i : ℕ) (v w : C) (some : IsSome (content_at t i)) where
  -- what was written is there
  written : content_at (with_content t i v) i ≡ Some v
  written = ap (λ (c : Cell C). c.content) (here_held t i v some)

  -- of two writes the second stays
  written-again : with_content (with_content t i v) i w ≡ with_content t i w
  written-again =
      ap (λ n. record t {
        slots = slice_set (slice_set t.slots i (record {
          version = version_at t i;
          content = Some v;
        })) i (record { version = n; content = Some w });
      }) (version_held t i v some i)
      ∙ ap (λ l. record t { slots = l }) (set-twice t.slots i _ _)
    where
      set-twice : (xs : List (Cell C)) (k : ℕ) (a b : Cell C) → slice_set (slice_set xs k a) k b ≡ slice_set xs k b
      set-twice [] k a b = refl
      set-twice (x ∷ xs) zero a b = refl
      set-twice (x ∷ xs) (suc k) a b = ap (λ l. x ∷ l) (set-twice xs k a b)

module _ {K A T : Type 0} (s : ContextView K A T) (p : Ptr OperationKind) where
  pub edits-join : (f g : OpView K A → OpView K A) → with_op_edit (with_op_edit s p f) p g ≡ with_op_edit s p
      (λ o. g (f o))
  edits-join f g = go (op_at s p) refl
    where
      go : (o : Option (OpView K A)) → op_at s p ≡ o → with_op_edit (op_edited s p.slot f o) p g ≡ op_edited s p.slot
          (λ v. g (f v)) o
      go None e = ap (op_edited s p.slot g) e
      go (Some v) e =
          let some : IsSome (op_at s p) = subst IsSome (sym e) refl in
          ap (op_edited (op_edited s p.slot f (Some v)) p.slot g) (written s.nodes.ops p.slot (f v) v some)
          ∙ ap (λ t. record s { nodes = record s.nodes { ops = t } }) (written-again s.nodes.ops p.slot (f v) (g (f v))
          some)

  pub edits-same : (f g : OpView K A → OpView K A) → ((o : OpView K A) → op_at s p ≡ Some o → f o ≡ g o) → with_op_edit
      s p f ≡ with_op_edit s p g
  edits-same f g alike = go (op_at s p) refl
    where
      go : (o : Option (OpView K A)) → op_at s p ≡ o → op_edited s p.slot f o ≡ op_edited s p.slot g o
      go None e = refl
      go (Some v) e = ap (λ u. op_edited s p.slot (λ _. u) (Some v)) (alike v e)

module _ {K A T : Type 0} (s : ContextView K A T) (p : Ptr BlockKind) where
  pub block-edits-join : (f g : BlockView A → BlockView A) →
      with_block_edit (with_block_edit s p f) p g ≡ with_block_edit s p (λ b. g (f b))
  block-edits-join f g = go (block_at s p) refl
    where
      go : (o : Option (BlockView A)) → block_at s p ≡ o →
          with_block_edit (block_edited s p.slot f o) p g ≡ block_edited s p.slot (λ v. g (f v)) o
      go None e = ap (block_edited s p.slot g) e
      go (Some v) e =
          let some : IsSome (block_at s p) = subst IsSome (sym e) refl in
          ap (block_edited (block_edited s p.slot f (Some v)) p.slot g) (written s.nodes.blocks p.slot (f v) v some)
          ∙ ap (λ t. record s { nodes = record s.nodes { blocks = t } })
          (written-again s.nodes.blocks p.slot (f v) (g (f v)) some)

  pub block-edits-same : (f g : BlockView A → BlockView A) → ((b : BlockView A) → block_at s p ≡ Some b → f b ≡ g b) →
      with_block_edit s p f ≡ with_block_edit s p g
  block-edits-same f g alike = go (block_at s p) refl
    where
      go : (o : Option (BlockView A)) → block_at s p ≡ o → block_edited s p.slot f o ≡ block_edited s p.slot g o
      go None e = refl
      go (Some v) e = ap (λ u. block_edited s p.slot (λ _. u) (Some v)) (alike v e)
