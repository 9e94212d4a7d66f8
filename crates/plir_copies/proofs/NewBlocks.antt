-- Blocks that are made and get their attributes one after another.
use Rattle.std.proofs.Common.{◌≡◌, ℕ, List, [], Option, Some, None, refl, sym, ap, ◌∙◌}
use Rattle.std.specs.Prelude.{option_map}
use Rattle.plir_data.specs.AttrLive.{HandlesLive}
use Rattle.plir_data.specs.AttrView.{AttrView}
use Rattle.plir_data.specs.Dictionary.{dict_put, dict_put_all}
use Rattle.plir_core.specs.declared.ptr.Ptr.{Ptr}
use Rattle.plir_core.specs.declared.ptr.BasicBlock.{BasicBlock as BlockKind}
use Rattle.plir_core.specs.declared.ptr.IRNode.TheVariants.{BasicBlock}
use Rattle.plir_core.specs.Contents.{BlockView}
use Rattle.plir_core.specs.ContextView.{ContextView, block_at, block_attributes_in}
use Rattle.plir_core.specs.ContextView.{label_in}
use Rattle.plir_core.specs.ContextView.{arguments_in}
use Rattle.plir_core.specs.WellFormed.{IsWellFormed}
use Rattle.plir_core.specs.Held.{IsBlockEdited}
use Rattle.plir_core.specs.Room.{no_node, HaveCome}
use Rattle.plir_copies.specs.BlockLaws.{labelled}
use Rattle.plir_copies.specs.Copied.{with_attributes}
use Rattle.plir_copies.specs.Staying.{keeps_same, keeps_both}

module _ {A : Type 0} where
  -- a block without attributes has none
  pub none-put : (x : Option (BlockView A)) → block_attributes_in x ≡ [] → option_map (with_attributes []) x ≡ x
  none-put None e = refl
  none-put (Some b) e = ap (λ es. let r : BlockView A = record b { attributes = es } in Some r) (sym e)

  option_map-twice : (es : List (List ℕ × AttrView A)) (k : List ℕ) (a : AttrView A) (x : Option (BlockView A))
      → option_map {T = BlockView A} (λ b. record b { attributes = dict_put b.attributes k a }) (option_map (with_attributes es) x)
      ≡ option_map (with_attributes (dict_put es k a)) x
  option_map-twice es k a None = refl
  option_map-twice es k a (Some b) = refl

module _ {K A T : Type 0} where
  pub block-same : (s : ContextView K A T) (p : Ptr BlockKind) (f : BlockView A → BlockView A)
      → option_map f (block_at s p) ≡ block_at s p → IsBlockEdited s s p f
  block-same s p f h = record {
    keeps = keeps_same s;
    held = sym h;
    blocks = λ q l n. refl;
    ops = λ o. refl;
  }

  -- one attribute more
  pub block-put : (s t u : ContextView K A T) (p : Ptr BlockKind) (es : List (List ℕ × AttrView A)) (k : List ℕ)
      (a : AttrView A) → IsBlockEdited s t p (with_attributes es)
      → IsBlockEdited t u p (λ b. record b { attributes = dict_put b.attributes k a })
      → IsBlockEdited s u p (with_attributes (dict_put es k a))
  block-put s t u p es k a d e = record {
    keeps = keeps_both s t u d.keeps e.keeps;
    held = e.held ∙ ap (option_map {T = BlockView A} (λ b. record b { attributes = dict_put b.attributes k a })) d.held
        ∙ option_map-twice es k a (block_at s p);
    blocks = λ q l n. e.blocks q (d.keeps.live (BasicBlock q) ∙ l) n ∙ d.blocks q l n;
    ops = λ o. e.ops o ∙ d.ops o;
  }

-- The block p has got the attributes that stand before `left` in a dictionary es.
pub record IsSetting {K A T : Type 0} (own : A → List ℕ) (s t : ContextView K A T) (p : Ptr BlockKind)
    (es left : List (List ℕ × AttrView A)) : Type 0 where
  pub done : List (List ℕ × AttrView A)
  pub rest : dict_put_all done left ≡ es
  pub edited : IsBlockEdited s t p (with_attributes done)
  pub live : HandlesLive own s.types left
  pub none_come : HaveCome s.nodes t.nodes no_node
  pub whole : IsWellFormed own t

module _ {A : Type 0} where
  -- a block is its label, its arguments' types and its attributes
  pub block-whole : (x : Option (BlockView A)) (b : BlockView A) → x ≡ Some b → (ts : List ℕ)
      (es : List (List ℕ × AttrView A)) → ts ≡ arguments_in x → es ≡ block_attributes_in x → labelled ts es (label_in x) ≡ x
  block-whole x b e ts es p q =
      (λ j. labelled (p j) (q j) (label_in x))
      ∙ ap (λ y. labelled (arguments_in y) (block_attributes_in y) (label_in y)) e ∙ sym e
