-- What a map holds behind the copy of a tree.
use Rattle.std.proofs.Common.{◌≡◌, ◌∙◌, true, nat_lt, List, length}
use Rattle.std.proofs.Common.{Some, refl, sym, ap, subst}
use Rattle.std.specs.Option.{option_or}
use Rattle.std.specs.Cmp.{first_so, second_so}
use Rattle.std.proofs.lemmas.Bool.{and_from}
use Rattle.plir_core.specs.declared.ptr.Ptr.{Ptr}
use Rattle.plir_core.specs.declared.ptr.BasicBlock.{BasicBlock as BlockKind}
use Rattle.plir_core.specs.declared.ptr.IRNode.{IRNode}
use Rattle.plir_core.specs.declared.ptr.IRNode.TheVariants.{BasicBlock}
use Rattle.plir_core.specs.declared.value.Value.{Value}
use Rattle.plir_core.specs.declared.value.DefiningEntity.{DefiningEntity}
use Rattle.plir_core.specs.declared.value.DefiningEntity.TheVariants.{Op, Block}
use Rattle.plir_core.specs.ContextView.{ContextView, IsLive, IsValueLive, IsAncestor, is_live, entity_node, types_from}
use Rattle.plir_core.specs.ContextView.{results_in, arguments_in}
use Rattle.plir_copies.specs.declared.trees.Twin.{Twin}
use Rattle.plir_copies.specs.Images.{Images, no_images, over}
use Rattle.plir_copies.specs.Trees.{node_copy, value_copy, entity_copy, HoldsCopies}
use Rattle.plir_copies.specs.Twins.{AreOfOneKind, with_twins}
use Rattle.plir_copies.proofs.Mapped.{other-values, other-blocks, put-values, put-blocks}
use Rattle.plir_copies.proofs.Whole.{IsWholeCopy, copies_in, listed, kinds, has-become}

module _ {K A T : Type 0} (s t : ContextView K A T) (root copy : IRNode) (ws : List Twin)
    (h : IsWholeCopy s t root copy ws) where
  same-types : (e : DefiningEntity) → IsLive s (entity_node e) → types_from t e ≡ types_from s e
  same-types (Op p) l = ap results_in (h.made.keeps.ops p l)
  same-types (Block p) l = ap arguments_in (h.made.keeps.blocks p l)

  entity-become : (e : DefiningEntity) → node_copy (copies_in ws) (entity_node e) ≡ entity_node (entity_copy (copies_in ws) e)
  entity-become (Op p) = refl
  entity-become (Block p) = refl

  -- what the list puts in place of a value of the tree
  of-tree : (v : Value) → IsAncestor s root (entity_node v.entity) → IsValueLive s v
      → (with_twins t no_images ws).value v ≡ Some (value_copy (copies_in ws) v)
  of-tree v r l =
      let w = listed s t root copy ws h (entity_node v.entity) r in
      let become = has-become s t root copy ws h w.0 w.1.0 in
      let copy_is : w.0.copy ≡ entity_node (entity_copy (copies_in ws) v.entity) =
      sym become ∙ ap (node_copy (copies_in ws)) w.1.1 ∙ entity-become v.entity in
      let live = first_so (is_live s (entity_node v.entity)) (nat_lt v.index (length (types_from s v.entity))) l in
      let there = second_so (is_live s (entity_node v.entity)) (nat_lt v.index (length (types_from s v.entity))) l in
      let kind : AreOfOneKind (entity_node v.entity) (entity_node (entity_copy (copies_in ws) v.entity)) =
      subst (λ x. AreOfOneKind x (entity_node (entity_copy (copies_in ws) v.entity))) w.1.1
      (subst (AreOfOneKind w.0.node) copy_is (kinds s t root copy ws h w.0 w.1.0)) in
      put-values t ws h.nodes no_images v.entity (entity_copy (copies_in ws) v.entity) v.index w.0 w.1.0 w.1.1 copy_is kind
      (subst (λ ts. nat_lt v.index (length ts) ≡ true) (sym (same-types v.entity live)) there)

  block-of-tree : (b : Ptr BlockKind) → IsAncestor s root (BasicBlock b)
      → (with_twins t no_images ws).block b ≡ Some ((copies_in ws).block b)
  block-of-tree b r =
      let w = listed s t root copy ws h (BasicBlock b) r in
      let become = has-become s t root copy ws h w.0 w.1.0 in
      put-blocks t ws h.nodes no_images b ((copies_in ws).block b) w.0 w.1.0 w.1.1
      (sym become ∙ ap (node_copy (copies_in ws)) w.1.1)

  pub holds-copies : (m n : Images) → n ≡ over (with_twins t no_images ws) m → HoldsCopies s root (copies_in ws) m n
  holds-copies m n e = record {
    values = λ v r l. ap (λ z. z.value v) e ∙ ap (λ o. option_or o (m.value v)) (of-tree v r l);
    blocks = λ b r. ap (λ z. z.block b) e ∙ ap (λ o. option_or o (m.block b)) (block-of-tree b r);
    other_values = λ v n. ap (λ z. z.value v) e ∙ ap (λ o. option_or o (m.value v)) (other-values t ws no_images v
        (λ w k same l. n (subst (IsAncestor s root) (sym same) (h.below w k))
        (let live : is_live s (entity_node v.entity) ≡ true = ap (is_live s) same ∙ (h.each w k).live in
        and_from (is_live s (entity_node v.entity)) (nat_lt v.index (length (types_from s v.entity))) live
        (subst (λ ts. nat_lt v.index (length ts) ≡ true) (same-types v.entity live) l))));
    other_blocks = λ b n. ap (λ z. z.block b) e ∙ ap (λ o. option_or o (m.block b)) (other-blocks t ws no_images b
        (λ w k same. n (subst (IsAncestor s root) (sym same) (h.below w k))));
    call = ap (λ z. z.call) e;
  }
