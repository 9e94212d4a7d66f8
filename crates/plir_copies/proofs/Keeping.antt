-- What stays where nodes are made, edited, or erased again.
use Rattle.std.proofs.Common.{◌≡◌, ℕ, true, false, true≢false, ◌&&◌, nat_lt, length, Option, Some, None}
use Rattle.std.proofs.Common.{inl, inr, refl, sym, ap, subst, ◌∙◌, option_map}
use Rattle.std.specs.Cmp.{first_so, second_so}
use Rattle.std.proofs.lemmas.Bool.{and_from}
use Rattle.plir_core.specs.declared.ptr.Ptr.{Ptr}
use Rattle.plir_core.specs.declared.ptr.Operation.{Operation as OperationKind}
use Rattle.plir_core.specs.declared.ptr.BasicBlock.{BasicBlock as BlockKind}
use Rattle.plir_core.specs.declared.ptr.IRNode.{IRNode}
use Rattle.plir_core.specs.declared.ptr.IRNode.TheVariants.{Operation, BasicBlock}
use Rattle.plir_core.specs.declared.value.Value.{Value}
use Rattle.plir_core.specs.declared.value.DefiningEntity.{DefiningEntity}
use Rattle.plir_core.specs.declared.value.DefiningEntity.TheVariants.{Op, Block}
use Rattle.plir_core.specs.Above.{Reaches}
use Rattle.plir_core.specs.Changes.{SameLive}
use Rattle.plir_core.specs.Contents.{OpView, BlockView}
use Rattle.plir_core.specs.ContextView.{ContextView, IsLive, IsValueLive, is_live, op_at, block_at, parent_of}
use Rattle.plir_core.specs.ContextView.{entity_node, types_from, results_in, arguments_in, result_types_of}
use Rattle.plir_core.specs.ContextView.{arg_types_of}
use Rattle.plir_core.specs.Held.{IsOpEdited, IsBlockEdited, KeepsNodes}
use Rattle.plir_core.specs.Made.{KeepsLive, IsMade}
use Rattle.plir_copies.specs.Images.{Images, AreImagesLive}
use Rattle.plir_copies.specs.Staying.{keeps_same, keeps_both}
use Rattle.plir_copies.specs.Telling.{ptr_told}

option_map-both : {X Y Z : Type 0} (f : X → Y) (g : Y → Z) (o : Option X) → option_map g (option_map f o)
    ≡ option_map (λ x. g (f x)) o
option_map-both f g None = refl
option_map-both f g (Some x) = refl

module _ {O B : Type 0} where
  pub keeps-same : (s : _) → KeepsLive {O = O} {B = B} s s
  keeps-same s = record {
    live = λ m l. l;
    parents = λ m l. refl;
    ops = λ p l. refl;
    blocks = λ p l. refl;
    given = λ m l. l;
    limit = refl;
  }

module _ {K A T : Type 0} (s t : ContextView K A T) where
  -- From s to t values stay live where what they come from stays live, with types as many.
  pub value-kept : ((n : IRNode) → IsLive s n → IsLive t n)
      → ((p : Ptr OperationKind) → IsLive s (Operation p) → result_types_of t p ≡ result_types_of s p)
      → ((b : Ptr BlockKind) → IsLive s (BasicBlock b) → arg_types_of t b ≡ arg_types_of s b)
      → (v : Value) → IsValueLive s v → IsValueLive t v
  value-kept live results arguments v l = go v.entity v.index l
    where
      go : (e : DefiningEntity) (i : ℕ) → (is_live s (entity_node e) && nat_lt i (length (types_from s e))) ≡ true
          → (is_live t (entity_node e) && nat_lt i (length (types_from t e))) ≡ true
      go (Op p) i h =
          let a = first_so (is_live s (Operation p)) (nat_lt i (length (result_types_of s p))) h in
          and_from (is_live t (Operation p)) (nat_lt i (length (result_types_of t p))) (live (Operation p) a)
          (subst (λ ts. nat_lt i (length ts) ≡ true) (sym (results p a))
          (second_so (is_live s (Operation p)) (nat_lt i (length (result_types_of s p))) h))
      go (Block p) i h =
          let a = first_so (is_live s (BasicBlock p)) (nat_lt i (length (arg_types_of s p))) h in
          and_from (is_live t (BasicBlock p)) (nat_lt i (length (arg_types_of t p))) (live (BasicBlock p) a)
          (subst (λ ts. nat_lt i (length ts) ≡ true) (sym (arguments p a))
          (second_so (is_live s (BasicBlock p)) (nat_lt i (length (arg_types_of s p))) h))

  pub images-kept : (m : Images) → ((n : IRNode) → IsLive s n → IsLive t n)
      → ((v : Value) → IsValueLive s v → IsValueLive t v) → AreImagesLive s m → AreImagesLive t m
  images-kept m live values h = record {
    values = λ v w e. values w (h.values v w e);
    blocks = λ b c e. live (BasicBlock c) (h.blocks b c e);
  }

  -- what was live stays so
  pub value-keeps : KeepsLive s.nodes t.nodes → (v : Value) → IsValueLive s v → IsValueLive t v
  value-keeps k = value-kept k.live (λ p l. ap results_in (k.ops p l)) (λ b l. ap arguments_in (k.blocks b l))

  pub images-keep : (m : Images) → KeepsLive s.nodes t.nodes → AreImagesLive s m → AreImagesLive t m
  images-keep m k = images-kept m k.live (value-keeps k)

  -- nothing live has changed
  pub images-same : (m : Images) → SameLive s t → AreImagesLive s m → AreImagesLive t m
  images-same m e = images-kept m (λ n l. e.nodes.live n ∙ l) (value-kept (λ n l. e.nodes.live n ∙ l)
      (λ p l. ap results_in (e.nodes.ops p l)) (λ b l. ap arguments_in (e.nodes.blocks b l)))

  -- an operation was edited, but not its results
  module _ (p : Ptr OperationKind) (f : OpView K A → OpView K A) (e : IsOpEdited s t p f)
      (keeps : (o : OpView K A) → (f o).result_types ≡ o.result_types) where
    mapped : (o : Option (OpView K A)) → results_in (option_map f o) ≡ results_in o
    mapped None = refl
    mapped (Some o) = keeps o

    pub value-edited : (v : Value) → IsValueLive s v → IsValueLive t v
    value-edited = value-kept (λ n l. e.keeps.live n ∙ l) (λ q l. elim (ptr_told q p) [
      | inl same ↦ ap (result_types_of t) same ∙ (ap results_in e.held ∙ mapped (op_at s p)) ∙ ap (result_types_of s) (sym same)
      | inr other ↦ ap results_in (e.ops q l other)
    ]) (λ b l. ap arguments_in (e.blocks b))

    pub images-edited : (m : Images) → AreImagesLive s m → AreImagesLive t m
    images-edited m = images-kept m (λ n l. e.keeps.live n ∙ l) value-edited

module _ {K A T : Type 0} where
  -- an edit that changes nothing, one after another, and one that makes the same
  pub edited-same : (s : ContextView K A T) (p : Ptr OperationKind) (f : OpView K A → OpView K A)
      → option_map f (op_at s p) ≡ op_at s p → IsOpEdited s s p f
  edited-same s p f h = record {
    keeps = keeps_same s;
    held = sym h;
    ops = λ q l n. refl;
    blocks = λ b. refl;
  }

  pub edited-both : (s t u : ContextView K A T) (p : Ptr OperationKind) (f g : OpView K A → OpView K A)
      → IsOpEdited s t p f → IsOpEdited t u p g → IsOpEdited s u p (λ o. g (f o))
  edited-both s t u p f g d e = record {
    keeps = keeps_both s t u d.keeps e.keeps;
    held = e.held ∙ ap (option_map g) d.held ∙ option_map-both f g (op_at s p);
    ops = λ q l n. e.ops q (d.keeps.live (Operation q) ∙ l) n ∙ d.ops q l n;
    blocks = λ b. e.blocks b ∙ d.blocks b;
  }

  pub edited-as : (s t : ContextView K A T) (p : Ptr OperationKind) (f g : OpView K A → OpView K A)
      → IsOpEdited s t p f → option_map f (op_at s p) ≡ option_map g (op_at s p) → IsOpEdited s t p g
  edited-as s t p f g e h = record { keeps = e.keeps; held = e.held ∙ h; ops = e.ops; blocks = e.blocks }

  -- what was made, with all nodes kept and all that was live before as it was, was made
  pub made-kept : (s t u : ContextView K A T) (n : IRNode) → IsMade s.nodes t.nodes n → KeepsNodes t u
      → ((p : Ptr OperationKind) → IsLive s (Operation p) → op_at u p ≡ op_at t p)
      → ((b : Ptr BlockKind) → IsLive s (BasicBlock b) → block_at u b ≡ block_at t b) → IsMade s.nodes u.nodes n
  made-kept s t u n m e ops blocks = record {
    keeps = record {
      live = λ x l. e.live x ∙ m.keeps.live x l;
      parents = λ x l. e.parents x ∙ m.keeps.parents x l;
      ops = λ p l. ops p l ∙ m.keeps.ops p l;
      blocks = λ b l. blocks b l ∙ m.keeps.blocks b l;
      given = λ x g. e.given x ∙ m.keeps.given x g;
      limit = e.limit ∙ m.keeps.limit;
    };
    children = λ x l. e.children x ∙ m.children x l;
    new = m.new;
    root = e.live n ∙ m.root;
    top = e.parents n ∙ m.top;
    below = λ x l o. subst (λ up. Reaches up x n) parents (m.below x (sym (e.live x) ∙ l) o);
    fresh = λ x l o. m.fresh x (sym (e.live x) ∙ l) o;
    apart = λ x l r. m.apart x l (subst (λ up. Reaches up x n) (sym parents) r);
  }
    where
      parents : parent_of t ≡ parent_of u
      parents = λ i x. sym (e.parents x) i

  -- so is it with one of its new operations, or of its new blocks, edited
  pub made-edited : (s t u : ContextView K A T) (n : IRNode) (q : Ptr OperationKind) (f : OpView K A → OpView K A)
      → IsMade s.nodes t.nodes n → IsOpEdited t u q f → is_live s (Operation q) ≡ false → IsMade s.nodes u.nodes n
  made-edited s t u n q f m e new =
      made-kept s t u n m e.keeps (λ p l. e.ops p (m.keeps.live (Operation p) l) (λ same.
      true≢false (sym l ∙ ap (λ z. is_live s (Operation z)) same ∙ new))) (λ b l. e.blocks b)

  pub made-block : (s t u : ContextView K A T) (n : IRNode) (q : Ptr BlockKind) (f : BlockView A → BlockView A)
      → IsMade s.nodes t.nodes n → IsBlockEdited t u q f → is_live s (BasicBlock q) ≡ false → IsMade s.nodes u.nodes n
  made-block s t u n q f m e new =
      made-kept s t u n m e.keeps (λ p l. e.ops p) (λ b l. e.blocks b (m.keeps.live (BasicBlock b) l) (λ same.
      true≢false (sym l ∙ ap (λ z. is_live s (BasicBlock z)) same ∙ new)))
