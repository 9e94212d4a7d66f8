-- Laws of what blocks hold, proved beside their words so that the crates above can cite them. No contract cites this
-- module.
use Rattle.std.proofs.Common.{◌≡◌, ℕ, true, true≢false, List, Option, Some, None, is_some, refl, sym}
use Rattle.std.specs.Prelude.{◌&&◌, ◌==◌}
use Rattle.plir_store.specs.Table.{version_at}
use Rattle.plir_data.specs.AttrView.{AttrView}
use Rattle.plir_core.specs.declared.ptr.Ptr.{Ptr}
use Rattle.plir_core.specs.declared.ptr.BasicBlock.{BasicBlock as BlockKind}
use Rattle.plir_core.specs.declared.ptr.IRNode.TheVariants.{BasicBlock}
use Rattle.plir_core.specs.Contents.{BlockView}
use Rattle.plir_core.specs.ContextView.{ContextView, IsLive, block_at}

-- what a block holds with these argument types and attributes, and with a label
abbrev pub labelled : {A : Type 0} → List ℕ → List (List ℕ × AttrView A) → Option (List ℕ) → Option (BlockView A)
labelled ts es l = Some (record { label = l; arg_types = ts; attributes = es })

-- a live block holds something
module _ {K A T : Type 0} where
  pub live_holds : (s : ContextView K A T) (p : Ptr BlockKind) → IsLive s (BasicBlock p)
      → (b : BlockView A) × (block_at s p ≡ Some b)
  live_holds s p l = go (block_at s p) refl l
    where
      go : (o : Option (BlockView A)) → block_at s p ≡ o → (is_some o && (version_at s.nodes.blocks p.slot == p.version))
          ≡ true → (b : BlockView A) × (block_at s p ≡ Some b)
      go None e h = absurd (true≢false (sym h))
      go (Some b) e h = (b, e)
