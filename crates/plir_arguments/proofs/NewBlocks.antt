-- Blocks that are made and get their attributes one after another.
use Rattle.std.proofs.Common.{◌≡◌, ℕ, true, false, true≢false, List, [], Option, Some, None, refl, sym, ap, subst, ◌∙◌}
use Rattle.std.proofs.Common.{is_some}
use Rattle.std.specs.Prelude.{option_map, remove, ◌&&◌, ◌==◌}
use Rattle.plir_store.specs.Table.{version_at}
use Rattle.plir_data.specs.AttrLive.{HandlesLive}
use Rattle.plir_data.specs.AttrView.{AttrView}
use Rattle.plir_data.specs.Dictionary.{dict_put, dict_put_all}
use Rattle.plir_core.specs.declared.ptr.Ptr.{Ptr}
use Rattle.plir_core.specs.declared.ptr.BasicBlock.{BasicBlock as BlockKind}
use Rattle.plir_core.specs.declared.ptr.IRNode.{IRNode}
use Rattle.plir_core.specs.declared.ptr.IRNode.TheVariants.{BasicBlock}
use Rattle.plir_core.specs.Above.{Reaches}
use Rattle.plir_core.specs.Contents.{BlockView}
use Rattle.plir_core.specs.ContextView.{ContextView, IsLive, is_live, block_at, parent_of, block_attributes_in}
use Rattle.plir_core.specs.ContextView.{label_in}
use Rattle.plir_core.specs.ContextView.{arguments_in}
use Rattle.plir_core.specs.WellFormed.{IsWellFormed}
use Rattle.plir_core.specs.Held.{IsBlockEdited}
use Rattle.plir_core.specs.Made.{IsMade}
use Rattle.plir_copies.specs.Copied.{with_attributes}
use Rattle.plir_arguments.specs.Dropped.{without_argument, without_name}

module _ {A : Type 0} where
  -- a block without attributes has none
  pub none-put : (x : Option (BlockView A)) → block_attributes_in x ≡ [] → option_map (with_attributes []) x ≡ x
  none-put None e = refl
  none-put (Some b) e = ap (λ es. let r : BlockView A = record b { attributes = es } in Some r) (sym e)

  option_map-twice : (es : List (List ℕ × AttrView A)) (k : List ℕ) (a : AttrView A) (x : Option (BlockView A))
      → option_map {T = BlockView A} (λ b. record b { attributes = dict_put b.attributes k a }) (option_map (with_attributes es) x)
      ≡ option_map (with_attributes (dict_put es k a)) x
  option_map-twice es k a None = refl
  option_map-twice es k a (Some b) = refl

module _ {K A T : Type 0} where
  pub block-same : (s : ContextView K A T) (p : Ptr BlockKind) (f : BlockView A → BlockView A)
      → option_map f (block_at s p) ≡ block_at s p → IsBlockEdited s s p f
  block-same s p f h = record {
    keeps = record {
      live = λ n. refl;
      given = λ n. refl;
      children = λ n. refl;
      parents = λ n. refl;
      types = refl;
      limit = refl;
    };
    held = sym h;
    blocks = λ q l n. refl;
    ops = λ o. refl;
  }

  -- one attribute more
  pub block-put : (s t u : ContextView K A T) (p : Ptr BlockKind) (es : List (List ℕ × AttrView A)) (k : List ℕ)
      (a : AttrView A) → IsBlockEdited s t p (with_attributes es)
      → IsBlockEdited t u p (λ b. record b { attributes = dict_put b.attributes k a })
      → IsBlockEdited s u p (with_attributes (dict_put es k a))
  block-put s t u p es k a d e = record {
    keeps = record {
      live = λ n. e.keeps.live n ∙ d.keeps.live n;
      given = λ n. e.keeps.given n ∙ d.keeps.given n;
      children = λ n. e.keeps.children n ∙ d.keeps.children n;
      parents = λ n. e.keeps.parents n ∙ d.keeps.parents n;
      types = e.keeps.types ∙ d.keeps.types;
      limit = e.keeps.limit ∙ d.keeps.limit;
    };
    held = e.held ∙ ap (option_map {T = BlockView A} (λ b. record b { attributes = dict_put b.attributes k a })) d.held
        ∙ option_map-twice es k a (block_at s p);
    blocks = λ q l n. e.blocks q (d.keeps.live (BasicBlock q) ∙ l) n ∙ d.blocks q l n;
    ops = λ o. e.ops o ∙ d.ops o;
  }

  -- what was made, with one of its new blocks edited, was made
  pub made-block : (s t u : ContextView K A T) (n : IRNode) (q : Ptr BlockKind) (f : BlockView A → BlockView A)
      → IsMade s.nodes t.nodes n → IsBlockEdited t u q f → is_live s (BasicBlock q) ≡ false → IsMade s.nodes u.nodes n
  made-block s t u n q f m e new = record {
    keeps = record {
      live = λ x l. e.keeps.live x ∙ m.keeps.live x l;
      parents = λ x l. e.keeps.parents x ∙ m.keeps.parents x l;
      ops = λ p l. e.ops p ∙ m.keeps.ops p l;
      blocks = λ b l. e.blocks b (m.keeps.live (BasicBlock b) l) (λ same. true≢false (sym l
          ∙ ap (λ z. is_live s (BasicBlock z)) same ∙ new)) ∙ m.keeps.blocks b l;
      given = λ x g. e.keeps.given x ∙ m.keeps.given x g;
      limit = e.keeps.limit ∙ m.keeps.limit;
    };
    children = λ x l. e.keeps.children x ∙ m.children x l;
    new = m.new;
    root = e.keeps.live n ∙ m.root;
    top = e.keeps.parents n ∙ m.top;
    below = λ x l o. subst (λ up. Reaches up x n) parents (m.below x (sym (e.keeps.live x) ∙ l) o);
    fresh = λ x l o. m.fresh x (sym (e.keeps.live x) ∙ l) o;
    apart = λ x l r. m.apart x l (subst (λ up. Reaches up x n) (sym parents) r);
  }
    where
      parents : parent_of t ≡ parent_of u
      parents = λ i x. sym (e.keeps.parents x) i

-- The block p has got the attributes that stand before `left` in a dictionary es.
pub record IsSetting {K A T : Type 0} (own : A → List ℕ) (s t : ContextView K A T) (p : Ptr BlockKind)
    (es left : List (List ℕ × AttrView A)) : Type 0 where
  pub done : List (List ℕ × AttrView A)
  pub rest : dict_put_all done left ≡ es
  pub edited : IsBlockEdited s t p (with_attributes done)
  pub live : HandlesLive own s.types left
  pub whole : IsWellFormed own t

module _ {K A T : Type 0} where
  -- what a live block holds
  pub live-holds : (s : ContextView K A T) (p : Ptr BlockKind) → IsLive s (BasicBlock p)
      → (b : BlockView A) × (block_at s p ≡ Some b)
  live-holds s p l = go (block_at s p) refl l
    where
      go : (o : Option (BlockView A)) → block_at s p ≡ o → (is_some o && (version_at s.nodes.blocks p.slot == p.version))
          ≡ true → (b : BlockView A) × (block_at s p ≡ Some b)
      go None e h = absurd (true≢false (sym h))
      go (Some b) e h = (b, e)

module _ {A : Type 0} where
  -- what a block holds with a label
  abbrev pub labelled : List ℕ → List (List ℕ × AttrView A) → Option (List ℕ) → Option (BlockView A)
  labelled ts es l = (let b : BlockView A = record { label = l; arg_types = ts; attributes = es } in Some b)

  -- a block that holds what another one does, but for its argument at a place
  pub held-without : (i : ℕ) (x : Option (BlockView A)) (v : BlockView A) → x ≡ Some v → (ts : List ℕ)
      (es : List (List ℕ × AttrView A)) → ts ≡ remove (arguments_in x) i → es ≡ without_name (block_attributes_in x) i
      → labelled ts es (label_in x) ≡ option_map (without_argument i) x
  held-without i x v e ts es p q =
      (λ j. labelled (p j) (q j) (label_in x))
      ∙ ap (λ y. labelled (remove (arguments_in y) i) (without_name (block_attributes_in y) i) (label_in y)) e
      ∙ sym (ap (option_map (without_argument i)) e)
