-- Laws of what is made and put before a mark, for the proofs of passes.
use Rattle.std.proofs.Common.{◌≡◌, ℕ, Bool, true, false, ◌&&◌, List, [], ◌∷◌, ◌++◌, length, Option, Some, None}
use Rattle.std.proofs.Common.{refl, sym, ap, subst, ◌∙◌, slice_get}
use Rattle.std.specs.Prelude.{nat_lt}
use Rattle.plir_store.specs.Members.{Has}
use Rattle.plir_store.specs.MemberLaws.{Has-split}
use Rattle.plir_store.specs.FilterLaws.{not-both}
use Rattle.plir_store.specs.Table.{content_at, is_live_at}
use Rattle.plir_core.specs.declared.ptr.Ptr.{Ptr}
use Rattle.plir_core.specs.declared.ptr.Operation.{Operation as OperationKind}
use Rattle.plir_core.specs.declared.ptr.IRNode.{IRNode}
use Rattle.plir_core.specs.declared.ptr.IRNode.TheVariants.{Operation, Region, BasicBlock}
use Rattle.plir_core.specs.declared.value.Value.{Value}
use Rattle.plir_core.specs.declared.value.DefiningEntity.{DefiningEntity}
use Rattle.plir_core.specs.declared.value.DefiningEntity.TheVariants.{Op, Block}
use Rattle.plir_core.specs.Made.{KeepsLive, IsMade}
use Rattle.plir_core.specs.Nodes.{Nodes, is_given_out, is_node_live, was_given_out}
use Rattle.plir_core.specs.Placed.{MovesOnly, IsPlaced, IsPlacedBefore}
use Rattle.plir_core.specs.Forest.{look, IsForest}
use Rattle.plir_core.specs.ContextView.{ContextView, IsLive, IsValueLive, is_live, children, parent_of, entity_node}
use Rattle.plir_core.specs.ContextView.{arguments_in, results_in, type_of_value, types_from}
use Rattle.plir_walk.specs.Additions.{IsNewBefore}

-- where nodes are moved, the same are live and given out
pub moved-live : {O B : Type 0} (s t : Nodes O B) (x : IRNode) → MovesOnly s t x → (m : IRNode)
    → is_node_live t m ≡ is_node_live s m
moved-live s t x e (Operation p) = ap (λ z. is_live_at z p.slot p.version) e.ops
moved-live s t x e (Region p) = ap (λ z. is_live_at z p.slot p.version) e.regions
moved-live s t x e (BasicBlock p) = ap (λ z. is_live_at z p.slot p.version) e.blocks

pub moved-given : {O B : Type 0} (s t : Nodes O B) (x : IRNode) → MovesOnly s t x → (m : IRNode)
    → was_given_out t m ≡ was_given_out s m
moved-given s t x e (Operation p) = ap (λ z. is_given_out z p) e.ops
moved-given s t x e (Region p) = ap (λ z. is_given_out z p) e.regions
moved-given s t x e (BasicBlock p) = ap (λ z. is_given_out z p) e.blocks

-- what keeps what is live composes
pub keeps-none : {O B : Type 0} (s : Nodes O B) → KeepsLive s s
keeps-none s = record {
  live = λ m l. l;
  parents = λ m l. refl;
  ops = λ p l. refl;
  blocks = λ p l. refl;
  given = λ m g. g;
  limit = refl;
}

pub keeps-both : {O B : Type 0} (s t u : Nodes O B) → KeepsLive s t → KeepsLive t u → KeepsLive s u
keeps-both s t u f g = record {
  live = λ m l. g.live m (f.live m l);
  parents = λ m l. g.parents m (f.live m l) ∙ f.parents m l;
  ops = λ p l. g.ops p (f.live (Operation p) l) ∙ f.ops p l;
  blocks = λ p l. g.blocks p (f.live (BasicBlock p) l) ∙ f.blocks p l;
  given = λ m h. g.given m (f.given m h);
  limit = g.limit ∙ f.limit;
}

-- of two tests that hold together each holds
both-left : (b c : Bool) → (b && c) ≡ true → b ≡ true
both-left true c e = refl
both-left false c e = e

both-of : (b c b' c' : Bool) → (b ≡ true → b' ≡ true) → c' ≡ c → (b && c) ≡ true → (b' && c') ≡ true
both-of true c b' c' f g e = ap (λ z. z && c') (f refl) ∙ g ∙ e
both-of false c b' c' f g e = absurd (not-both false e refl)

module _ {K A T : Type 0} where
  -- a value whose owner is live and gives the types that it gave
  pub value-stays : (s t : ContextView K A T) (v : Value)
      → (IsLive s (entity_node v.entity) → IsLive t (entity_node v.entity))
      → (IsLive s (entity_node v.entity) → types_from t v.entity ≡ types_from s v.entity)
      → IsValueLive s v → IsValueLive t v
  value-stays s t v live types l =
      let owner : IsLive s (entity_node v.entity) = both-left _ (nat_lt v.index (length (types_from s v.entity))) l in
      both-of _ (nat_lt v.index (length (types_from s v.entity))) _
      (nat_lt v.index (length (types_from t v.entity))) live
      (ap (λ z. nat_lt v.index (length z)) (types owner)) l

  pub value-type-stays : (s t : ContextView K A T) (v : Value)
      → (IsLive s (entity_node v.entity) → types_from t v.entity ≡ types_from s v.entity)
      → IsValueLive s v → type_of_value t v ≡ type_of_value s v
  value-type-stays s t v types l =
      ap (λ z. slice_get z v.index)
      (types (both-left _ (nat_lt v.index (length (types_from s v.entity))) l))

  kept-types : (s t : ContextView K A T) → KeepsLive s.nodes t.nodes → (e : DefiningEntity) → IsLive s (entity_node e)
      → types_from t e ≡ types_from s e
  kept-types s t f (Op p) l = ap results_in (f.ops p l)
  kept-types s t f (Block p) l = ap arguments_in (f.blocks p l)

  pub kept-value : (s t : ContextView K A T) (v : Value) → KeepsLive s.nodes t.nodes → IsValueLive s v
      → IsValueLive t v
  kept-value s t v f l = value-stays s t v (f.live (entity_node v.entity)) (kept-types s t f v.entity) l

  pub kept-value-type : (s t : ContextView K A T) (v : Value) → KeepsLive s.nodes t.nodes → IsValueLive s v
      → type_of_value t v ≡ type_of_value s v
  kept-value-type s t v f l = value-type-stays s t v (kept-types s t f v.entity) l

  module _ (s t u : ContextView K A T) (x mark over : IRNode) (w : IsForest (look s))
      (here : parent_of s mark ≡ Some over) (made : IsMade s.nodes t.nodes x)
      (placed : IsPlacedBefore t.nodes u.nodes x mark) where
    over-live : IsLive s over
    over-live = w.parent_live over mark here

    cut : (front : List IRNode) × (back : List IRNode) × (children s over ≡ front ++ mark ∷ back)
    cut = Has-split (children s over) mark (w.parent_child over mark here)

    now : (xs ys : List IRNode) → children s over ≡ xs ++ mark ∷ ys
        → IsPlaced t.nodes u.nodes x over (xs ++ x ∷ mark ∷ ys)
    now xs ys e = placed over xs ys (made.children over over-live ∙ e)

    at : IsPlaced t.nodes u.nodes x over (cut.0 ++ x ∷ mark ∷ cut.1)
    at = now cut.0 cut.1 cut.2

    same-live : (n : IRNode) → is_live u n ≡ is_live t n
    same-live = moved-live t.nodes u.nodes x at.moved

    older : (n : IRNode) → IsLive s n → n ≡ x → ⊥
    older n l e = not-both (is_live s x) (subst (IsLive s) e l) made.new

    live-mark : IsLive s mark
    live-mark = w.child_live over mark (w.parent_child over mark here)

    keeps : KeepsLive s.nodes u.nodes
    keeps = record {
      live = λ n l. same-live n ∙ made.keeps.live n l;
      parents = λ n l. at.moved.parents n (older n l) ∙ made.keeps.parents n l;
      ops = λ p l. ap (λ z. content_at z p.slot) at.moved.ops ∙ made.keeps.ops p l;
      blocks = λ p l. ap (λ z. content_at z p.slot) at.moved.blocks ∙ made.keeps.blocks p l;
      given = λ n g. moved-given t.nodes u.nodes x at.moved n ∙ made.keeps.given n g;
      limit = at.moved.limit ∙ made.keeps.limit;
    }

    -- a tree that was made and then put before a mark
    pub new-before : IsNewBefore s t u x mark over
    new-before = record {
      keeps = keeps;
      mark_live = keeps.live mark live-mark;
      mark_here = keeps.parents mark live-mark ∙ here;
      older = older;
      root = same-live x ∙ made.root;
      here = at.parent;
      held = λ p. ap (λ z. content_at z p.slot) at.moved.ops;
      place = λ xs ys e. (now xs ys e).children_over;
      children = λ n l ne. at.children n ne ∙ made.children n l;
      placed = (cut.0 ++ x ∷ mark ∷ cut.1, at);
      fresh = λ n l d. made.fresh n (sym (same-live n) ∙ l) d;
    }
