-- What is left holds what is live, if nothing outside the tree used it.
use Rattle.std.proofs.Common.{◌≡◌, ℕ, true, List, length, Some, sym, ◌∙◌, ap, subst, nat_lt, slice_index_or}
use Rattle.std.specs.Prelude.{All}
use Rattle.std.proofs.lemmas.Bool.{and_parts, and_from}
use Rattle.plir_store.specs.Table.{content_at}
use Rattle.plir_core.specs.declared.ptr.Ptr.{Ptr}
use Rattle.plir_core.specs.declared.ptr.Operation.{Operation as OperationKind}
use Rattle.plir_core.specs.declared.ptr.BasicBlock.{BasicBlock as BlockKind}
use Rattle.plir_core.specs.declared.ptr.IRNode.{IRNode}
use Rattle.plir_core.specs.declared.ptr.IRNode.TheVariants.{Operation, BasicBlock}
use Rattle.plir_core.specs.declared.value.Value.{Value}
use Rattle.plir_core.specs.declared.value.DefiningEntity.{DefiningEntity}
use Rattle.plir_core.specs.declared.value.DefiningEntity.TheVariants.{Op, Block}
use Rattle.plir_core.specs.Nodes.{Nodes, ptr_at, is_node_live}
use Rattle.plir_core.specs.Contents.{OpView, BlockView}
use Rattle.plir_core.specs.ContextView.{ContextView, IsLive, IsValueLive, IsAncestor, is_live, entity_node, types_from}
use Rattle.plir_core.specs.ContextView.{operands_in, successors_in, results_in, arguments_in}
use Rattle.plir_core.specs.WellFormed.{IsWellFormed, OpHoldsLive, BlockHoldsLive}
use Rattle.plir_core.specs.Erase.{IsErased}
use Rattle.plir_core.specs.Unused.{IsUnusedOutside}
use Rattle.plir_core.proofs.Facts.{live_at}
use Rattle.plir_core.proofs.Listing.{some_is}

module _ {K A T : Type 0} (own : A → List ℕ) (s : ContextView K A T) (t : Nodes (OpView K A) (BlockView A)) (n : IRNode)
    (w : IsWellFormed own s) (u : IsUnusedOutside s n) (e : IsErased s.nodes t n) where
  abbrev after : ContextView K A T
  after = record s { nodes = t }

  -- what is still live was not in the tree, and was live before
  outside : (m : IRNode) → is_node_live t m ≡ true → IsAncestor s n m → ⊥
  outside m live r = let g = e.gone m r in let x : ⊥ = cc in x

  before : (m : IRNode) → is_node_live t m ≡ true → IsLive s m
  before m live = sym (e.live m (outside m live)) ∙ live

  -- the types of the values of what is still live
  same_types : (d : DefiningEntity) → is_node_live t (entity_node d) ≡ true → types_from after d ≡ types_from s d
  same_types (Op p) live = ap results_in (e.ops p live)
  same_types (Block p) live = ap arguments_in (e.blocks p live)

  -- a live value that is not of the tree is still live
  value_stays : (v : Value) → IsValueLive s v → (IsAncestor s n (entity_node v.entity) → ⊥) → IsValueLive after v
  value_stays v live away =
      let parts = and_parts (is_live s (entity_node v.entity)) (nat_lt v.index (length (types_from s v.entity))) live in
      let here : is_node_live t (entity_node v.entity) ≡ true = e.live (entity_node v.entity) away ∙ parts.0 in
      and_from (is_live after (entity_node v.entity)) (nat_lt v.index (length (types_from after v.entity))) here
      (ap (λ xs. nat_lt v.index (length xs)) (same_types v.entity here) ∙ parts.1)

  op_holds : (o : ℕ) (v : OpView K A) → content_at t.ops o ≡ Some v → OpHoldsLive own after v
  op_holds o v c =
      let p : Ptr OperationKind = ptr_at t.ops o in
      let live : is_node_live t (Operation p) ≡ true = live_at t.ops o (some_is (content_at t.ops o) v c) in
      let held : content_at s.nodes.ops o ≡ Some v = sym (e.ops p live) ∙ c in
      let h = w.holds.ops o v held in
      let none = u p (before (Operation p) live) (outside (Operation p) live) in
      let uses : All (λ x. IsAncestor s n (entity_node x.entity) → ⊥) v.operands = subst
      (λ xs. All (λ x. IsAncestor s n (entity_node x.entity) → ⊥) xs) (ap operands_in held) none.operands in
      let leads : All (λ b. IsAncestor s n (BasicBlock b) → ⊥) v.successors = subst
      (λ xs. All (λ b. IsAncestor s n (BasicBlock b) → ⊥) xs) (ap successors_in held) none.successors in
      record {
        operands = λ k d i. value_stays (slice_index_or v.operands k d) (h.operands k d i) (uses k d i);
        successors = λ k d i. e.live (BasicBlock (slice_index_or v.successors k d)) (leads k d i) ∙ h.successors k d i;
        result_types = h.result_types;
        attributes = h.attributes;
      }

  block_holds : (b : ℕ) (v : BlockView A) → content_at t.blocks b ≡ Some v → BlockHoldsLive own after v
  block_holds b v c =
      let p : Ptr BlockKind = ptr_at t.blocks b in
      let live : is_node_live t (BasicBlock p) ≡ true = live_at t.blocks b (some_is (content_at t.blocks b) v c) in
      let h = w.holds.blocks b v (sym (e.blocks p live) ∙ c) in
      record { arg_types = h.arg_types; attributes = h.attributes }

  pub IsWellFormed-erased : IsWellFormed own after
  IsWellFormed-erased = record { stored = e.stored; holds = record { ops = op_holds; blocks = block_holds } }
