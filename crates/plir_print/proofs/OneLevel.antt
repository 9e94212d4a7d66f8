-- The text of a node, by those of its children.
use Rattle.std.proofs.Common.{◌≡◌, ℕ, suc, ◌+◌, ◌-◌, Bool, true, false, List, [], ◌∷◌, ◌++◌, codes, inl, inr, refl, sym}
use Rattle.std.proofs.Common.{ap, ◌∙◌, arith}
use Rattle.std.specs.List.{flat_map}
use Rattle.plir_data.specs.declared.op_set.OpSet as op_set
use Rattle.plir_core.specs.declared.ptr.Ptr.{Ptr}
use Rattle.plir_core.specs.declared.ptr.Operation.{Operation as OperationKind}
use Rattle.plir_core.specs.declared.ptr.Region.{Region as RegionKind}
use Rattle.plir_core.specs.declared.ptr.BasicBlock.{BasicBlock as BasicBlockKind}
use Rattle.plir_core.specs.declared.ptr.IRNode.{IRNode}
use Rattle.plir_core.specs.declared.ptr.IRNode.TheVariants.{Operation, Region, BasicBlock}
use Rattle.plir_store.specs.Members.{Has}
use Rattle.plir_core.specs.Standing.{IsStanding}
use Rattle.plir_core.specs.ContextView.{ContextView, children, limit}
use Rattle.plir_core.specs.Measures.{depth}
use Rattle.plir_data.specs.TextParts.{before, parted_from}
use Rattle.plir_print.specs.OpText.{line, op_front, block_front, room, text_at, text_of, regions_text, blocks_text}
use Rattle.plir_print.specs.OpText.{ops_text}

flat_same : {X : Type 0} (f g : X → List ℕ) (xs : List X) → ((x : X) → Has xs x → f x ≡ g x)
    → flat_map f xs ≡ flat_map g xs
flat_same f g [] h = refl
flat_same f g (x ∷ xs) h =
    ap (λ z. z ++ flat_map f xs) (h x (inl refl)) ∙ ap (λ z. g x ++ z) (flat_same f g xs (λ y k. h y (inr k)))

parted_same : {X : Type 0} (b : Bool) (between : List ℕ) (f g : X → List ℕ) (xs : List X)
    → ((x : X) → Has xs x → f x ≡ g x) → parted_from b between f xs ≡ parted_from b between g xs
parted_same b between f g [] h = refl
parted_same b between f g (x ∷ xs) h =
    ap (λ z. before b between ++ (z ++ parted_from false between f xs)) (h x (inl refl))
    ∙ ap (λ z. before b between ++ (g x ++ z)) (parted_same false between f g xs (λ y k. h y (inr k)))

module _ {D K A T E : Type 0} (o : op_set.Ghosts D K A T E) (s : ContextView K A T) (st : IsStanding s) where
  room_is : (x : IRNode) → room s x ≡ suc (limit s + 1 - depth s x)
  room_is x = let d = st.measured.deepest x in omega arith

  child_room : (a x : IRNode) → Has (children s a) x → room s x ≡ limit s + 1 - depth s a
  child_room a x h = let d = st.measured.deeper a x (st.forest.child_parent a x h) in omega arith

  child_text : (n : ℕ) (a x : IRNode) → Has (children s a) x
      → text_at o s (limit s + 1 - depth s a) n x ≡ text_of o s n x
  child_text n a x h = ap (λ k. text_at o s k n x) (sym (child_room a x h))

  pub op-level : (n : ℕ) (p : Ptr OperationKind)
      → text_of o s n (Operation p) ≡ op_front o s n p ++ regions_text o s n (children s (Operation p))
  op-level n p =
      ap (λ k. text_at o s k n (Operation p)) (room_is (Operation p))
      ∙ ap (λ z. op_front o s n p ++ z)
      (flat_same _ _ (children s (Operation p)) (λ x h. child_text n (Operation p) x h))

  pub region-level : (n : ℕ) (r : Ptr RegionKind) → text_of o s n (Region r) ≡
      line n ++ (codes "{" ++ (blocks_text o s n (children s (Region r)) ++ (line n ++ codes "}")))
  region-level n r =
      ap (λ k. text_at o s k n (Region r)) (room_is (Region r))
      ∙ ap (λ z. line n ++ (codes "{" ++ (z ++ (line n ++ codes "}"))))
      (flat_same _ _ (children s (Region r)) (λ x h. ap (λ z. line (n + 2) ++ z) (child_text (n + 2) (Region r) x h)))

  pub block-level : (n : ℕ) (b : Ptr BasicBlockKind)
      → text_of o s n (BasicBlock b) ≡ block_front o s b ++ ops_text o s n (children s (BasicBlock b))
  block-level n b =
      ap (λ k. text_at o s k n (BasicBlock b)) (room_is (BasicBlock b))
      ∙ ap (λ z. block_front o s b ++ z) (parted_same true _ _ _ (children s (BasicBlock b))
      (λ x h. ap (λ z. line (n + 2) ++ z) (child_text (n + 2) (BasicBlock b) x h)))
