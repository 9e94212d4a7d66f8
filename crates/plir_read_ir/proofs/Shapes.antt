-- Operations that come to use others.
use Rattle.std.proofs.Common.{◌≡◌, ◌⊎◌, ℕ, Bool, true, false, nat_lt, List, length, Option, Some, None, inl, inr, refl}
use Rattle.std.proofs.Common.{suc, sym, ap, subst, option_map, ◌∙◌}
use Rattle.plir_core.specs.Changes.{with_op_edit, op_edited}
use Rattle.plir_core.specs.Contents.{OpView}
use Rattle.plir_core.specs.ContextView.{ContextView, IsLive, IsValueLive, is_live, children, op_at, types_from}
use Rattle.plir_core.specs.ContextView.{entity_node, results_in, successors_in, arguments_in, result_types_of}
use Rattle.plir_core.specs.ContextView.{successors_of}
use Rattle.plir_core.specs.Held.{IsOpEdited, KeepsNodes}
use Rattle.plir_core.specs.Made.{IsMade}
use Rattle.plir_core.specs.declared.ptr.Ptr.{Ptr}
use Rattle.plir_core.specs.declared.ptr.Operation.{Operation as OperationKind}
use Rattle.plir_core.specs.declared.ptr.IRNode.{IRNode}
use Rattle.plir_core.specs.declared.ptr.IRNode.TheVariants.{Operation, BasicBlock}
use Rattle.plir_core.specs.declared.value.Value.{Value}
use Rattle.plir_core.specs.declared.value.DefiningEntity.{DefiningEntity}
use Rattle.plir_core.specs.declared.value.DefiningEntity.TheVariants.{Op, Block}
use Rattle.plir_attr_text.specs.Names.{Grows}
use Rattle.plir_read.specs.Keeping.{KeepsOlder}
use Rattle.plir_read.specs.Slots.{AreNext, IsMadeInOrder, NodeSlots, kind_slots, node_slots, pre_order, tree_in_order}
use Rattle.plir_read.specs.laws.OpMade.{climb_same}
use Rattle.plir_read.specs.laws.TypesNamed.{named_still}
use Rattle.plir_read_ir.specs.Progress.{IsReading}
use Rattle.plir_read.specs.laws.SlotLaws.{kind_slots-with_content}
use Rattle.plir_read.specs.laws.TreesInOrder.{pre_order-same}
use Rattle.plir_read_ir.specs.Linking.{IsLinked, IsLinkedAt, KeepsShape}
use Rattle.plir_read_ir.specs.Noting.{AreReady, IsPending, IsPlaceOf, same_label, same_name}
use Rattle.plir_read_ir.specs.declared.notes.Notes.{Notes}
use Rattle.plir_read_ir.specs.declared.notes.PendingUse.{PendingUse}
use Rattle.plir_read_ir.proofs.Noted.{all_and, all_as, bear_as, both_true}

live_or_not : (b : Bool) → b ≡ true → b ≡ false → ⊥
live_or_not b p q = let z = sym p ∙ q in cc

same_op : (p q : Ptr OperationKind) → Operation q ≡ Operation p → q ≡ p
same_op p q e = cc

module _ {K A : Type 0} where
  same_results : (f : OpView K A → OpView K A) → ((o : OpView K A) → (f o).result_types ≡ o.result_types) →
      (o : Option (OpView K A)) → results_in (option_map f o) ≡ results_in o
  same_results f e None = refl
  same_results f e (Some v) = e v

  as_many_successors : (f : OpView K A → OpView K A) →
      ((o : OpView K A) → length (f o).successors ≡ length o.successors) → (o : Option (OpView K A)) →
      length (successors_in (option_map f o)) ≡ length (successors_in o)
  as_many_successors f e None = refl
  as_many_successors f e (Some v) = e v

module _ {K A T : Type 0} where
  KeepsNodes-itself : (s : ContextView K A T) → KeepsNodes s s
  KeepsNodes-itself s = record {
    live = λ n. refl;
    given = λ n. refl;
    children = λ n. refl;
    parents = λ n. refl;
    types = refl;
    limit =
        refl;
  }

  KeepsNodes-on : (s t u : ContextView K A T) → KeepsNodes s t → KeepsNodes t u → KeepsNodes s u
  KeepsNodes-on s t u p q = record {
    live = λ n. q.live n ∙ p.live n;
    given = λ n. q.given n ∙ p.given n;
    children = λ n. q.children n ∙ p.children n;
    parents = λ n. q.parents n ∙ p.parents n;
    types = q.types ∙ p.types;
    limit = q.limit ∙ p.limit;
  }

  pub KeepsShape-itself : (s : ContextView K A T) → KeepsShape s s
  KeepsShape-itself s = record {
    nodes = KeepsNodes-itself s;
    slots = refl;
    results = λ p h. refl;
    successors = λ p h. refl;
    blocks = λ b. refl;
  }

  pub KeepsShape-on : (s t u : ContextView K A T) → KeepsShape s t → KeepsShape t u → KeepsShape s u
  KeepsShape-on s t u p q = record {
    nodes = KeepsNodes-on s t u p.nodes q.nodes;
    slots = q.slots ∙ p.slots;
    results = λ o h. q.results o (p.nodes.live (Operation o) ∙ h) ∙ p.results o h;
    successors = λ o h. q.successors o (p.nodes.live (Operation o) ∙ h) ∙ p.successors o h;
    blocks = λ b. q.blocks b ∙ p.blocks b;
  }

  pub IsLinkedAt-itself : (s : ContextView K A T) (p : Ptr OperationKind) → IsLinkedAt s s p
  IsLinkedAt-itself s p = record { shape = KeepsShape-itself s; ops = λ q h n. refl }

  pub IsLinked-itself : (first s : ContextView K A T) → IsLinked first s s
  IsLinked-itself first s = record { shape = KeepsShape-itself s; ops = λ q h n. refl }

  -- one use more, of an operation that was not there before
  pub IsLinked-on : (first s t u : ContextView K A T) (p : Ptr OperationKind) → IsLinked first s t → IsLinkedAt t u p →
      is_live first (Operation p) ≡ false → IsLinked first s u
  IsLinked-on first s t u p l a new = record {
    shape = KeepsShape-on s t u l.shape a.shape;
    ops = λ q h n. a.ops q (l.shape.nodes.live (Operation q) ∙ n)
        (λ e. live_or_not (is_live first (Operation q)) h (ap (λ z. is_live first (Operation z)) e ∙ new)) ∙
        l.ops q h n;
  }

  -- ---- one edit

  edited_slots : (s : ContextView K A T) (i : ℕ) (f : OpView K A → OpView K A) (o : Option (OpView K A)) →
      node_slots (op_edited s i f o).nodes ≡ node_slots s.nodes
  edited_slots s i f None = refl
  edited_slots s i f (Some v) =
      ap (λ k. let z : NodeSlots =
      record { ops = k; regions = kind_slots s.nodes.regions; blocks = kind_slots s.nodes.blocks } in z)
      (kind_slots-with_content s.nodes.ops i (f v))

  -- an edit of one operation that leaves its results and the number of its successors
  pub edited_shape : (s t : ContextView K A T) (p : Ptr OperationKind) (f : OpView K A → OpView K A) →
      ((a b : IRNode) → (a ≡ b) ⊎ (a ≡ b → ⊥)) → t ≡ with_op_edit s p f → IsOpEdited s t p f →
      ((o : OpView K A) → (f o).result_types ≡ o.result_types) →
      ((o : OpView K A) → length (f o).successors ≡ length o.successors) → IsLinkedAt s t p
  edited_shape s t p f told e i rs ss = record {
    shape = record {
      nodes = i.keeps;
      slots = ap (λ z. node_slots z.nodes) e ∙ edited_slots s p.slot f (op_at s p);
      results = λ q h. elim (told (Operation q) (Operation p)) [
        | inl x ↦ ap (λ z. result_types_of t z) (same_op p q x) ∙ ap results_in i.held ∙
            same_results f rs (op_at s p) ∙ sym (ap (λ z. result_types_of s z) (same_op p q x))
        | inr x ↦ ap results_in (i.ops q h (λ y. x (ap (λ z. Operation z) y)))
      ];
      successors = λ q h. elim (told (Operation q) (Operation p)) [
        | inl x ↦ ap (λ z. length (successors_of t z)) (same_op p q x) ∙ ap (λ o. length (successors_in o)) i.held ∙
            as_many_successors f ss (op_at s p) ∙ sym (ap (λ z. length (successors_of s z)) (same_op p q x))
        | inr x ↦ ap (λ o. length (successors_in o)) (i.ops q h (λ y. x (ap (λ z. Operation z) y)))
      ];
      blocks = i.blocks;
    };
    ops = λ q h n. i.ops q h n;
  }

-- ---- what is noted goes on standing

module _ {K A T : Type 0} (s t : ContextView K A T) (k : KeepsShape s t) where
  pub types_shaped : (e : DefiningEntity) → IsLive s (entity_node e) → types_from t e ≡ types_from s e
  types_shaped (Op p) h = k.results p h
  types_shaped (Block p) h = ap arguments_in (k.blocks p)

  -- what is live was live
  pub value_back : (v : Value) → IsValueLive t v → IsValueLive s v
  value_back v h =
      let p = all_and (is_live t (entity_node v.entity)) (nat_lt v.index (length (types_from t v.entity))) h in
      let live = sym (k.nodes.live (entity_node v.entity)) ∙ p.0 in
      both_true (is_live s (entity_node v.entity)) (nat_lt v.index (length (types_from s v.entity))) live
      (subst (λ (l : List ℕ). nat_lt v.index (length l) ≡ true) (types_shaped v.entity live) p.1)

  value_shaped : (v : Value) → IsValueLive s v → IsValueLive t v
  value_shaped v h =
      let p = all_and (is_live s (entity_node v.entity)) (nat_lt v.index (length (types_from s v.entity))) h in
      both_true (is_live t (entity_node v.entity)) (nat_lt v.index (length (types_from t v.entity)))
      (k.nodes.live (entity_node v.entity) ∙ p.0)
      (subst (λ (l : List ℕ). nat_lt v.index (length l) ≡ true) (sym (types_shaped v.entity p.0)) p.1)

  pending_shaped : (u : PendingUse) → IsPending s u → IsPending t u
  pending_shaped u h = record {
    live = k.nodes.live (Operation u.op) ∙ h.live;
    place = subst (λ n. IsPlaceOf n u.wanted) (sym (k.successors u.op h.live)) h.place;
  }

  pub ready_shaped : (notes : Notes) → AreReady s notes → AreReady t notes
  ready_shaped notes r = record {
    values = bear_as same_name (IsValueLive s) (IsValueLive t) notes.values value_shaped r.values;
    labels = bear_as same_label (λ b. IsLive s (BasicBlock b)) (λ b. IsLive t (BasicBlock b)) notes.labels
        (λ b h. k.nodes.live (BasicBlock b) ∙ h) r.labels;
    uses = all_as (IsPending s) (IsPending t) notes.uses.items pending_shaped r.uses;
  }

-- ---- a tree that was made and then linked was made

module _ {K A T : Type 0} (first s t : ContextView K A T) (l : IsLinked first s t) where
  pub linked_made : (n : IRNode) → IsMade first.nodes s.nodes n → IsMade first.nodes t.nodes n
  linked_made n m =
      let k = l.shape.nodes in
      record {
        keeps = record {
          live = λ x h. k.live x ∙ m.keeps.live x h;
          parents = λ x h. k.parents x ∙ m.keeps.parents x h;
          ops = λ q h. l.ops q h (m.keeps.live (Operation q) h) ∙ m.keeps.ops q h;
          blocks = λ q h. l.shape.blocks q ∙ m.keeps.blocks q h;
          given = λ x h. k.given x ∙ m.keeps.given x h;
          limit = k.limit ∙ m.keeps.limit;
        };
        children = λ x h. k.children x ∙ m.children x h;
        new = m.new;
        root = k.live n ∙ m.root;
        top = k.parents n ∙ m.top;
        below = λ x h g. (let r = m.below x (sym (k.live x) ∙ h) g in
            (r.0, climb_same s t k.parents r.0 (Some x) ∙ r.1));
        fresh = λ x h g. m.fresh x (sym (k.live x) ∙ h) g;
        apart = λ x h r. m.apart x h (r.0, sym (climb_same s t k.parents r.0 (Some x)) ∙ r.1);
      }

  tree_linked : (n : IRNode) → tree_in_order t.nodes n ≡ tree_in_order s.nodes n
  tree_linked n =
      pre_order-same (children s) (children t) (λ m. Unit {0}) (λ m p. l.shape.nodes.children m) (λ a x p h. tt)
      (suc t.nodes.limit) n tt ∙ ap (λ i. pre_order (children s) (suc i) n) l.shape.nodes.limit

  pub linked_in_order : (n : IRNode) → IsMadeInOrder first.nodes s.nodes n → IsMadeInOrder first.nodes t.nodes n
  linked_in_order n h =
      subst (λ ns. AreNext (node_slots first.nodes) ns (node_slots t.nodes)) (sym (tree_linked n))
      (subst (λ z. AreNext (node_slots first.nodes) (tree_in_order s.nodes n) z) (sym l.shape.slots) h)

  pub linked_kept : KeepsOlder first s → KeepsOlder first t
  linked_kept h =
      let k = l.shape.nodes in
      record {
        keeps = record {
          live = λ x p. k.live x ∙ h.keeps.live x p;
          parents = λ x p. k.parents x ∙ h.keeps.parents x p;
          ops = λ q p. l.ops q p (h.keeps.live (Operation q) p) ∙ h.keeps.ops q p;
          blocks = λ q p. l.shape.blocks q ∙ h.keeps.blocks q p;
          given = λ x p. k.given x ∙ h.keeps.given x p;
          limit = k.limit ∙ h.keeps.limit;
        };
        children = λ x p q. k.children x ∙ h.children x p q;
        types = subst (Grows first.types) (sym k.types) h.types;
      }

  pub linked_reading : (bytes : List ℕ) → IsReading bytes None first s → IsReading bytes None first t
  linked_reading bytes r = record {
    kept = linked_kept r.kept;
    named = named_still bytes first.types s.types t.types l.shape.nodes.types r.named;
  }
