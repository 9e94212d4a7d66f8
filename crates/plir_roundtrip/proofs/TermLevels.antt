-- How many levels an operation has as it is written, by those of its regions, their blocks and their operations.
use Rattle.std.proofs.Common.{◌≡◌, ◌↔◌, ℕ, zero, suc, max, ◌+◌, ◌-◌, ◌<◌, ◌≤◌, Bool, false, List, [], ◌∷◌, map}
use Rattle.std.proofs.Common.{inl, inr, IsTrue, refl, ap, ◌∙◌, arith}
use Rattle.plir_data.specs.declared.op_set.OpSet as op_set
use Rattle.plir_core.specs.declared.ptr.Ptr.{Ptr}
use Rattle.plir_core.specs.declared.ptr.Operation.{Operation as OperationKind}
use Rattle.plir_core.specs.declared.ptr.Region.{Region as RegionKind}
use Rattle.plir_core.specs.declared.ptr.BasicBlock.{BasicBlock as BlockKind}
use Rattle.plir_core.specs.declared.ptr.IRNode.{IRNode}
use Rattle.plir_core.specs.declared.ptr.IRNode.TheVariants.{Operation, Region, BasicBlock}
use Rattle.plir_core.specs.declared.value.Value.{Value}
use Rattle.plir_store.specs.Members.{Has}
use Rattle.plir_core.specs.Standing.{IsStanding}
use Rattle.plir_core.specs.ContextView.{ContextView, children, kind_of, limit, type_of_value}
use Rattle.plir_core.specs.Measures.{depth}
use Rattle.plir_attr_text.specs.Terms.{type_levels}
use Rattle.plir_print.specs.OpText.{room}
use Rattle.plir_print.specs.ValueNames.{arguments_of}
use Rattle.plir_read.specs.OpTerms.{arguments_levels}
use Rattle.plir_read_ir.specs.IrTerms.{IrOp, front_levels, ir_op, op_levels, regions_of}
use Rattle.plir_roundtrip.specs.Written.{argument_term, block_head_term, some_type_term}
use Rattle.plir_roundtrip.specs.IrWritten.{block_written, front_of, ir_term_at, ir_term_of, region_written}
use Rattle.plir_roundtrip.specs.WrittenLevels.{nested_block, nested_blocks, nested_ops, nested_regions, node_term}
use Rattle.plir_roundtrip.specs.WrittenLevels.{value_levels}
use Rattle.plir_roundtrip.proofs.Children.{HasRoom, some_room, lower_room, child_room}

-- what each thing of a list becomes is the same by two functions that agree on them
pub map_same : {X Y : Type 0} (f g : X → Y) (xs : List X) → ((x : X) → Has xs x → f x ≡ g x) → map f xs ≡ map g xs
map_same f g [] h = refl
map_same f g (x ∷ xs) h =
    ap (λ y. y ∷ map f xs) (h x (inl refl)) ∙ ap (λ ys. g x ∷ ys) (map_same f g xs (λ y k. h y (inr k)))

module _ {D K A T E : Type 0} (o : op_set.Ghosts D K A T E) (s : ContextView K A T) (st : IsStanding s) where
  -- with two writers that agree on the operations in it a block, a region and an operation are written the same
  block_same : (f g : IRNode → IrOp K) (x : IRNode) → ((y : IRNode) → Has (children s x) y → f y ≡ g y)
      → block_written s f x ≡ block_written s g x
  block_same f g (BasicBlock b) h =
      ap (λ (ts : List (IrOp K)). (block_head_term s b, ts)) (map_same f g (children s (BasicBlock b)) h)
  block_same f g (Operation p) h = refl
  block_same f g (Region r) h = refl

  regions_same : (f g : IRNode → IrOp K) (p : Ptr OperationKind)
      → ((a x y : IRNode) → Has (children s (Operation p)) a → Has (children s a) x → Has (children s x) y → f y ≡ g y)
      → map (region_written s f) (children s (Operation p)) ≡ map (region_written s g) (children s (Operation p))
  regions_same f g p h =
      map_same (region_written s f) (region_written s g) (children s (Operation p)) (λ a among.
      map_same (block_written s f) (block_written s g) (children s a) (λ x within.
      block_same f g x (λ y inside. h a x y among within inside)))

  below_room : (p : Ptr OperationKind) (a x y : IRNode) (k : ℕ) → Has (children s (Operation p)) a
      → Has (children s a) x → Has (children s x) y → HasRoom s (Operation p) (suc k) → HasRoom s y k
  below_room p a x y k in_op in_region in_block space =
      lower_room s st x y k in_block (lower_room s st a x k in_region (child_room s st (Operation p) a k in_op space))

  -- where there is room for all levels, a node is written the same whatever the room
  same_at : (k j : ℕ) (x : IRNode) → HasRoom s x k → HasRoom s x j → ir_term_at o s k x ≡ ir_term_at o s j x
  same_at zero j x space enough = absurd (some_room s st x space)
  same_at (suc k) zero x space enough = absurd (some_room s st x enough)
  same_at (suc k) (suc j) (Operation p) space enough =
      ap (λ rs. ir_op (front_of o s (kind_of s p) p) (regions_of rs))
      (regions_same (ir_term_at o s k) (ir_term_at o s j) p (λ a x y in_op in_region in_block.
      same_at k j y (below_room p a x y k in_op in_region in_block space)
      (below_room p a x y j in_op in_region in_block enough)))
  same_at (suc k) (suc j) (Region r) space enough = refl
  same_at (suc k) (suc j) (BasicBlock b) space enough = refl

  all_room : (y : IRNode) → HasRoom s y (room s y)
  all_room y = let d = st.measured.deepest y in omega (arith, d)

  -- An operation as it is written, by what stands below it.
  one_level : (p : Ptr OperationKind) → ir_term_of o s p ≡
      ir_op (front_of o s (kind_of s p) p) (regions_of (map (region_written s (node_term o s)) (children s (Operation p))))
  one_level p =
      let d = st.measured.deepest (Operation p) in
      let j = limit s + 1 - depth s (Operation p) in
      let is : room s (Operation p) ≡ suc j = omega (arith, d) in
      let enough : HasRoom s (Operation p) (suc j) = omega (arith, d) in
      ap (λ k. ir_term_at o s k (Operation p)) is
      ∙ ap (λ rs. ir_op (front_of o s (kind_of s p) p) (regions_of rs))
      (regions_same (ir_term_at o s j) (node_term o s) p (λ a x y in_op in_region in_block.
      same_at j (room s y) y (below_room p a x y j in_op in_region in_block enough) (all_room y)))

  pub levels_are : (p : Ptr OperationKind) → op_levels (ir_term_of o s p) ≡
      suc (max (front_levels (front_of o s (kind_of s p) p)) (nested_regions o s (children s (Operation p))))
  levels_are p = ap op_levels (one_level p)

  -- ---- the first of some regions, of some blocks, and of some operations

  pub first_region : (r : Ptr RegionKind) (xs rest : List IRNode) → xs ≡ Region r ∷ rest
      → nested_regions o s xs ≡ max (nested_blocks o s (children s (Region r))) (nested_regions o s rest)
  first_region r xs rest e = ap (nested_regions o s) e

  arguments_same : (vs : List Value) → arguments_levels (map (argument_term s) vs) ≡ value_levels s vs
  arguments_same [] = refl
  arguments_same (v ∷ vs) = ap (max (type_levels (some_type_term s.types (type_of_value s v)))) (arguments_same vs)

  pub first_block : (b : Ptr BlockKind) (xs rest : List IRNode) → xs ≡ BasicBlock b ∷ rest
      → nested_blocks o s xs ≡ max (nested_block o s b) (nested_blocks o s rest)
  first_block b xs rest e =
      let inside = nested_ops o s (children s (BasicBlock b)) in
      let h : nested_blocks o s xs ≡ max (arguments_levels (map (argument_term s) (arguments_of s b)))
      (max inside (nested_blocks o s rest)) = ap (nested_blocks o s) e in
      h ∙ ap (λ n. max n (max inside (nested_blocks o s rest))) (arguments_same (arguments_of s b))
      ∙ three (value_levels s (arguments_of s b)) inside (nested_blocks o s rest)
    where
      three : (a b c : ℕ) → max a (max b c) ≡ max (max a b) c
      three a b c = omega arith

  pub first_op : (p : Ptr OperationKind) (xs rest : List IRNode) → xs ≡ Operation p ∷ rest
      → nested_ops o s xs ≡ max (op_levels (ir_term_of o s p)) (nested_ops o s rest)
  first_op p xs rest e = ap (nested_ops o s) e

-- ---- an operation, by its parts

-- an operation is a level itself
pub some_level : {K : Type 0} (x : IrOp K) → op_levels x ≤ 0 → ⊥
some_level (ir_op f rs) e = omega (arith, e)

-- of two parts the second is asked where the first is low
module _ (m a b left : ℕ) (r : Bool) (is : m ≡ suc (max a b)) where
  pub then_second : a < left → (IsTrue r ↔ (b < left)) → IsTrue r ↔ (m ≤ left)
  then_second low asked = (λ t. let h = asked.0 t in omega (arith, is, low, h), λ h. asked.1 (omega (arith, is, h)))

  pub else_first : r ≡ false → (IsTrue r ↔ (a < left)) → IsTrue r ↔ (m ≤ left)
  else_first e asked = (λ t. absurd (let f : ⊥ = cc in f), λ h. asked.1 (omega (arith, is, h)))
