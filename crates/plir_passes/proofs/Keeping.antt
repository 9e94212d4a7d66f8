-- What is kept of untouched nodes, by one change after another.
use Rattle.std.proofs.Common.{◌≡◌, ℕ, zero, suc, Bool, true, Option, Some, None, refl, sym, ap, subst, ◌∙◌}
use Rattle.std.proofs.lemmas.Option.{same_Some}
use Rattle.plir_data.specs.declared.op_set.OpKind.{OpKind}
use Rattle.plir_store.specs.FilterLaws.{not-both}
use Rattle.plir_core.specs.declared.ptr.Ptr.{Ptr}
use Rattle.plir_core.specs.declared.ptr.Operation.{Operation as OperationKind}
use Rattle.plir_core.specs.declared.ptr.BasicBlock.{BasicBlock as BasicBlockKind}
use Rattle.plir_core.specs.declared.ptr.IRNode.{IRNode}
use Rattle.plir_core.specs.declared.ptr.IRNode.TheVariants.{Operation, Region, BasicBlock}
use Rattle.plir_core.specs.Above.{climb, Reaches}
use Rattle.plir_core.specs.Contents.{OpView}
use Rattle.plir_core.specs.Forest.{look, IsForest}
use Rattle.plir_core.specs.ContextView.{ContextView, IsLive, parent_of, kind_in, op_at, entity_node}
use Rattle.plir_core.specs.ButOperands.{but_operands}
use Rattle.plir_walk.specs.NodeLaws.{climb-nothing}
use Rattle.plir_passes.specs.Legal.{is_illegal, is_kind, IsUntouched}
use Rattle.plir_passes.specs.Kept.{Keeps}
use Rattle.plir_passes.specs.Rewritten.{IsConverted, IsRewriting}

kind-but : {K A : Type 0} (o : Option (OpView K A)) → kind_in (but_operands o) ≡ kind_in o
kind-but None = refl
kind-but (Some o) = refl

module _ {K A T : Type 0} where
  -- nothing done
  pub keeps-none : (s : ContextView K A T) (P : IRNode → Type 0) → Keeps s s P
  keeps-none s P = record {
    live = λ n l a. l;
    parents = λ n l a. refl;
    children = λ picks only n l a. refl;
    ops = λ p l a. refl;
    num_operands = λ p l a. refl;
    operands = λ p i v l a e m b. e;
    blocks = λ b l a. refl;
    types = λ h x e. e;
    limit = refl;
  }

  -- fewer nodes stand apart
  pub keeps-fewer : (s t : ContextView K A T) (P Q : IRNode → Type 0) → ((n : IRNode) → Q n → P n) → Keeps s t P
      → Keeps s t Q
  keeps-fewer s t P Q less f = record {
    live = λ n l a. f.live n l (less n a);
    parents = λ n l a. f.parents n l (less n a);
    children = λ picks only n l a.
        f.children picks (λ m k. (let o = only m k in (o.0, less m o.1))) n l (less n a);
    ops = λ p l a. f.ops p l (less (Operation p) a);
    num_operands = λ p l a. f.num_operands p l (less (Operation p) a);
    operands = λ p i v l a e m b. f.operands p i v l (less (Operation p) a) e m (less (entity_node v.entity) b);
    blocks = λ b l a. f.blocks b l (less (BasicBlock b) a);
    types = f.types;
    limit = f.limit;
  }

module _ {K A T : Type 0} (illegal : OpKind K → Bool) where
  -- what stands right above an untouched node is untouched
  untouched-up : (s : ContextView K A T) (n a : IRNode) → parent_of s n ≡ Some a → IsUntouched illegal s n
      → IsUntouched illegal s a
  untouched-up s n a e u x r = u x (suc r.0, ap (climb (parent_of s) r.0) e ∙ r.1)

  -- the way up from an untouched node is the one that it was
  way-kept : (s t : ContextView K A T) → IsForest (look s) → Keeps s t (IsUntouched illegal s) → (k : ℕ) (n a : IRNode)
      → IsLive s n → IsUntouched illegal s n
      → climb (parent_of t) k (Some n) ≡ Some a
      → (climb (parent_of s) k (Some n) ≡ Some a) × IsLive s a × IsUntouched illegal s a
  way-kept s t w f zero n a l u e =
      (e, subst (IsLive s) (same_Some n a e) l, subst (IsUntouched illegal s) (same_Some n a e) u)
  way-kept s t w f (suc k) n a l u e = up (λ b m v g. way-kept s t w f k b a m v g) (parent_of s n) refl
    where
      up : ((b : IRNode) → IsLive s b → IsUntouched illegal s b → climb (parent_of t) k (Some b) ≡ Some a
          → (climb (parent_of s) k (Some b) ≡ Some a) × IsLive s a × IsUntouched illegal s a)
          → (o : Option IRNode) → parent_of s n ≡ o
          → (climb (parent_of s) k (parent_of s n) ≡ Some a) × IsLive s a × IsUntouched illegal s a
      up rest None q =
          absurd (climb-nothing (parent_of t) k a (ap (climb (parent_of t) k) (sym (f.parents n l u ∙ q)) ∙ e))
      up rest (Some b) q =
          let r =
          rest b (w.parent_live b n q) (untouched-up s n b q u)
          (ap (climb (parent_of t) k) (sym (f.parents n l u ∙ q)) ∙ e) in
          (ap (climb (parent_of s) k) q ∙ r.0, r.1, r.2)

  -- a node that stood apart has the kind that it had
  pub legal-kept : (s t : ContextView K A T) (P : IRNode → Type 0) → Keeps s t P → (n : IRNode) → IsLive s n → P n
      → is_illegal illegal t n ≡ is_illegal illegal s n
  legal-kept s t P f (Operation p) l u =
      ap (is_kind illegal) (sym (kind-but (op_at t p)) ∙ ap kind_in (f.ops p l u) ∙ kind-but (op_at s p))
  legal-kept s t P f (Region p) l u = refl
  legal-kept s t P f (BasicBlock p) l u = refl

  pub untouched-then : (s t : ContextView K A T) → IsForest (look s) → Keeps s t (IsUntouched illegal s) → (n : IRNode)
      → IsLive s n → IsUntouched illegal s n → IsUntouched illegal t n
  untouched-then s t w f n l u a r =
      let k = way-kept s t w f r.0 n a l u r.1 in
      legal-kept s t (IsUntouched illegal s) f a k.1 k.2 ∙ u a (r.0, k.0)

  keeps-then : (s t u : ContextView K A T) → IsForest (look s) → Keeps s t (IsUntouched illegal s)
      → Keeps t u (IsUntouched illegal t) → Keeps s u (IsUntouched illegal s)
  keeps-then s t u w f g =
      let still = untouched-then s t w f in
      record {
        live = λ n l a. g.live n (f.live n l a) (still n l a);
        parents = λ n l a. g.parents n (f.live n l a) (still n l a) ∙ f.parents n l a;
        children = λ picks only n l a.
            g.children picks (λ m k. (let o = only m k in (f.live m o.0 o.1, still m o.0 o.1))) n (f.live n l a)
            (still n l a)
            ∙ f.children picks only n l a;
        ops = λ p l a. g.ops p (f.live (Operation p) l a) (still (Operation p) l a) ∙ f.ops p l a;
        num_operands =
            λ p l a. g.num_operands p (f.live (Operation p) l a) (still (Operation p) l a) ∙ f.num_operands p l a;
        operands =
            λ p i v l a e m b. g.operands p i v (f.live (Operation p) l a) (still (Operation p) l a)
            (f.operands p i v l a e m b) (f.live (entity_node v.entity) m b) (still (entity_node v.entity) m b);
        blocks = λ b l a. g.blocks b (f.live (BasicBlock b) l a) (still (BasicBlock b) l a) ∙ f.blocks b l a;
        types = λ h x e. g.types h x (f.types h x e);
        limit = g.limit ∙ f.limit;
      }

  pub converted-none : (s : ContextView K A T) → IsConverted illegal s s
  converted-none s = record {
    kept = keeps-none s (IsUntouched illegal s);
    legal = λ n a g h i. (h, i);
    given = λ n g. g;
  }

  pub converted-then : (s t u : ContextView K A T) → IsForest (look s) → IsConverted illegal s t
      → IsConverted illegal t u → IsConverted illegal s u
  converted-then s t u w f g = record {
    kept = keeps-then s t u w f.kept g.kept;
    legal = λ n a d h i. (let r = g.legal n a (f.given n d) h i in f.legal n a d r.0 r.1);
    given = λ n d. g.given n (f.given n d);
  }

  -- one illegal operation is being replaced
  pub converted-one : (s t : ContextView K A T) (b : Ptr BasicBlockKind) (op : Ptr OperationKind)
      → is_illegal illegal s (Operation op) ≡ true → IsRewriting illegal s t b op → IsConverted illegal s t
  converted-one s t b op i f = record {
    kept =
        keeps-fewer s t (λ n. Reaches (parent_of s) n (Operation op) → ⊥) (IsUntouched illegal s)
        (λ n u r. not-both (is_illegal illegal s (Operation op)) i (u (Operation op) r)) f.kept;
    legal = f.legal;
    given = f.lawful.given;
  }
