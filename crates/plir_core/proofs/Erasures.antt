-- The loop that erases a tree: it stands at a node that is reached from the root by first children.
use Rattle.std.proofs.Common.{◌≡◌, ℕ, zero, suc, ◌+◌, ◌-◌, ◌*◌, ◌<◌, true, List, [], ◌∷◌, Some, None, refl, sym, ◌∙◌}
use Rattle.std.proofs.Common.{ap, subst, arith}
use Rattle.std.proofs.lemmas.Option.{same_Some, none-some}
use Rattle.plir_store.specs.Lists.{Lists, without_child}
use Rattle.plir_store.specs.Table.{Table, without_slot}
use Rattle.plir_core.specs.declared.ptr.Ptr.{Ptr}
use Rattle.plir_core.specs.declared.ptr.Operation.{Operation as OperationKind}
use Rattle.plir_core.specs.declared.ptr.Region.{Region as RegionKind}
use Rattle.plir_core.specs.declared.ptr.BasicBlock.{BasicBlock as BlockKind}
use Rattle.plir_core.specs.declared.ptr.IRNode.{IRNode}
use Rattle.plir_core.specs.declared.ptr.IRNode.TheVariants.{Operation, Region, BasicBlock}
use Rattle.plir_core.specs.Above.{climb}
use Rattle.plir_store.specs.Members.{head}
use Rattle.plir_core.specs.Nodes.{Nodes, is_node_live, node_children, node_parent, num_nodes}
use Rattle.plir_core.specs.Stored.{seat_of, up, IsStored}
use Rattle.plir_core.specs.Erase.{without_node, without_nodes, erased}
use Rattle.plir_core.proofs.Facts.{child-parent, child-live}
use Rattle.plir_core.proofs.Depths.{depth-child, depth-le_nodes, depth-frame, depth-seats}
use Rattle.plir_core.proofs.Trees.{climb_step, climb_last}
use Rattle.plir_core.proofs.FreedNode.{freed-count, freed-most, freed-up, freed-stored}
use Rattle.plir_core.proofs.Erased.{first_child, head-Has, tree-leaf, root_live, less_stored, way-parent, way-over}
use Rattle.plir_core.proofs.Erased.{erased-first}
use Rattle.plir_core.specs.Measures.{depth_from, most_steps, depth_of}

no_head : (ks : List IRNode) → head ks ≡ None → ks ≡ []
no_head [] e = refl
no_head (k ∷ ks) e = absurd (none-some k (sym e))

module _ {O B : Type 0} where
  -- the tree under n was to be erased in `old`, and what is left of it in `now` is to be erased still
  pub record IsErasing (old now : Nodes O B) (n at : IRNode) : Type 0 where
    pub stored : IsStored now
    pub live : is_node_live now n ≡ true
    pub here : is_node_live now at ≡ true
    pub steps : ℕ
    pub way : climb (first_child now) steps (Some n) ≡ Some at
    pub same : erased now n ≡ erased old n

  pub IsErasing-start : (s : Nodes O B) (n : IRNode) → IsStored s → is_node_live s n ≡ true → IsErasing s s n n
  IsErasing-start s n w live = record { stored = w; live = live; here = live; steps = 0; way = refl; same = refl }

  -- on to the first child
  pub IsErasing-down : (old now : Nodes O B) (n at child : IRNode) → IsErasing old now n at → head
      (node_children now at) ≡ Some child → IsErasing old now n child
  IsErasing-down old now n at child e h = record {
    stored = e.stored;
    live = e.live;
    here = child-live now e.stored at child (head-Has (node_children now at) child h);
    steps = suc e.steps;
    way = climb_step (first_child now) e.steps (Some n) at e.way ∙ h;
    same = e.same;
  }

  pub no_children : (s : Nodes O B) (n : IRNode) → head (node_children s n) ≡ None → node_children s n ≡ []
  no_children s n e = no_head (node_children s n) e

  -- a node without children is freed, and on to its parent
  up_in : (old now : Nodes O B) (n at p : IRNode) (k : ℕ) → IsErasing old now n at → climb (first_child now) k (Some n)
      ≡ Some at → node_children now at ≡ [] → (at ≡ n → ⊥) → node_parent now at ≡ Some p → IsErasing old
      (without_node now at) n p
  up_in old now n at p zero e way none ne over = absurd (ne (sym (same_Some n at way)))
  up_in old now n at p (suc k) e way none ne over =
      let w' = less_stored now e.stored n at k e.live way none in
      record {
        stored = w';
        live = root_live now e.stored n at k e.live way none;
        here = way-over now e.stored n at k e.live way none p over;
        steps = k;
        way = way-parent now e.stored n at k e.live way none p over;
        same = sym (erased-first now e.stored n at k e.live way none) ∙ e.same;
      }

  pub IsErasing-up : (old now : Nodes O B) (n at p : IRNode) → IsErasing old now n at → head (node_children now at) ≡
      None → (at ≡ n → ⊥) → node_parent now at ≡ Some p → IsErasing old (without_node now at) n p
  IsErasing-up old now n at p e none ne over = up_in old now n at p e.steps e e.way (no_children now at none) ne over

  -- below the root a node has a parent
  pub IsErasing-over : (old now : Nodes O B) (n at : IRNode) → IsErasing old now n at → (at ≡ n → ⊥) → node_parent now
      at ≡ None → ⊥
  IsErasing-over old now n at e ne none = elim (e.steps) as (λ k. climb (first_child now) k (Some n) ≡ Some at → ⊥) [
    | zero ↦ λ way. ne (sym (same_Some n at way))
    | suc k ↦ λ way.
        let r = climb_last (first_child now) k (Some n) at way in
        none-some r.0 (sym none ∙ child-parent now e.stored r.0 at (head-Has (node_children now r.0) at r.1.1))
  ] e.way

  -- the root is freed last
  pub IsErasing-end : (old now : Nodes O B) (n at : IRNode) → IsErasing old now n at → head (node_children now at) ≡
      None → at ≡ n → without_node now at ≡ erased old n
  IsErasing-end old now n at e none q =
      ap (without_node now) q
      ∙ ap (without_nodes now) (sym (tree-leaf now n (subst (λ z. node_children now z ≡ []) q
      (no_children now at none))))
      ∙ e.same

  -- how much is left to do: each node is freed once, and gone down to once before
  abbrev pub work_left : Nodes O B → IRNode → ℕ
  work_left s n = 2 * num_nodes s + 2 - depth_of s n

  pub work-down : (old now : Nodes O B) (n at child : IRNode) → IsErasing old now n at → head (node_children now at) ≡
      Some child → work_left now child < work_left now at
  work-down old now n at child e h =
      let d = depth-child now e.stored at child (child-parent now e.stored at child
      (head-Has (node_children now at) child h)) in
      let b = depth-le_nodes now e.stored child in
      omega arith

  -- the depth of the parent is as it was
  depth-stays : (s : Nodes O B) (w : IsStored s) (n p : IRNode) → is_node_live s n ≡ true → node_parent s n ≡ Some p →
      depth_of (without_node s n) p ≡ depth_of s p
  depth-stays s w n p live over =
      ap (λ k. depth_from (up (without_node s n)) k (Some (seat_of p))) (freed-most s n)
      ∙ depth-frame (up s) (up (without_node s n)) (seat_of n)
      (λ x ne. freed-up s w n x live ne) (most_steps s) (Some (seat_of p)) (λ j e.
      let d = depth-seats s w j (seat_of p) (seat_of n) e in
      let f = depth-child s w p n over in
      let x : ⊥ = omega arith in
      x)

  pub work-up : (old now : Nodes O B) (n at p : IRNode) → IsErasing old now n at → head (node_children now at) ≡ None →
      (at ≡ n → ⊥) → node_parent now at ≡ Some p → work_left (without_node now at) p < work_left now at
  work-up old now n at p e none ne over =
      let c = freed-count now at e.here in
      let f = depth-child now e.stored p at over in
      let b = depth-le_nodes now e.stored at in
      let d = depth-stays now e.stored at p e.here over in
      omega arith

-- A node is freed by its two parts: s is made of the fields, and t is the value.
module _ {O B : Type 0} (s t : Nodes O B) (view : s ≡ t) (w : IsStored s) (n : IRNode) (live : is_node_live t n ≡ true)
    (none : node_children t n ≡ []) where
  left_after : (m : IRNode) → n ≡ m → IsStored (without_node s m)
  left_after m e =
      freed-stored s m
      (subst (λ z. is_node_live s z ≡ true) e (subst (λ z. is_node_live z n ≡ true) (sym view) live))
      (subst (λ z. node_children s z ≡ []) e (subst (λ z. node_children z n ≡ []) (sym view) none))
      w

  pub op_freed : (p : Ptr OperationKind) (x : Table O) (l : Lists) → n ≡ Operation p → x ≡ without_slot s.ops p.slot → l
      ≡ without_child s.ops_in_block p.slot → IsStored (record s { ops = x; ops_in_block = l })
  op_freed p x l e f g = rw (f, g) (left_after (Operation p) e)

  pub region_freed : (p : Ptr RegionKind) (x : Table RegionKind) (l : Lists) → n ≡ Region p → x ≡ without_slot s.regions
      p.slot → l ≡ without_child s.regions_in_op p.slot → IsStored (record s { regions = x; regions_in_op = l })
  region_freed p x l e f g = rw (f, g) (left_after (Region p) e)

  pub block_freed : (p : Ptr BlockKind) (x : Table B) (l : Lists) → n ≡ BasicBlock p → x ≡ without_slot s.blocks p.slot
      → l ≡ without_child s.blocks_in_region p.slot → IsStored (record s { blocks = x; blocks_in_region = l })
  block_freed p x l e f g = rw (f, g) (left_after (BasicBlock p) e)
