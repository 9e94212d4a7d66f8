-- Operands and successors that are changed where they stand, one after another, and operations likewise.
use Rattle.std.proofs.Common.{◌≡◌, ◌+◌, ◌∙◌, ℕ, zero, suc, List, [], ◌∷◌, ◌++◌, length}
use Rattle.std.proofs.Common.{Option, Some, None, inl, inr, refl, sym, ap, subst, option_map}
use Rattle.std.specs.Prelude.{slice_get, slice_set}
use Rattle.std.proofs.lemmas.Option.{none-some}
use Rattle.plir_store.specs.Members.{Has}
use Rattle.plir_store.specs.MemberLaws.{Has-append_left, Has-append_right, Has-append_cases}
use Rattle.plir_core.specs.declared.ptr.Ptr.{Ptr}
use Rattle.plir_core.specs.declared.ptr.Operation.{Operation as OperationKind}
use Rattle.plir_core.specs.declared.ptr.BasicBlock.{BasicBlock as BlockKind}
use Rattle.plir_core.specs.declared.ptr.IRNode.{IRNode}
use Rattle.plir_core.specs.declared.ptr.IRNode.TheVariants.{Operation}
use Rattle.plir_core.specs.Contents.{OpView}
use Rattle.plir_core.specs.ContextView.{ContextView, IsLive, op_at, operands_in, successors_in}
use Rattle.plir_core.specs.declared.value.Value.{Value}
use Rattle.plir_core.specs.Held.{IsOpEdited}
use Rattle.plir_core.specs.Room.{no_node, HaveCome}
use Rattle.plir_core.specs.RoomLaws.{come_itself, come_still}
use Rattle.plir_copies.specs.Images.{Images, value_in, block_in, blocks_in}
use Rattle.plir_copies.specs.Copied.{located_in, op_under, with_operands_in, with_successors_in}
use Rattle.plir_copies.specs.Staying.{keeps_same, keeps_both}
use Rattle.plir_copies.specs.Twins.{AreChanged}
use Rattle.plir_copies.proofs.Edits.{front, front-next, front-all, half_set}

module _ {X : Type 0} (f : X → X) where
  -- what stands behind the first i is as it was
  pub front-at : (xs : List X) (i : ℕ) (x : X) → slice_get (front f xs i xs) i ≡ Some x → slice_get xs i ≡ Some x
  front-at [] zero x e = e
  front-at [] (suc i) x e = absurd (none-some x e)
  front-at (y ∷ xs) zero x e = e
  front-at (y ∷ xs) (suc i) x e = front-at xs i x e

module _ {K A : Type 0} (m : Images) (xs : List (Ptr BlockKind)) where
  -- what an operation holds whose first i successors are the images of those of xs
  abbrev pub half_put : ℕ → OpView K A → OpView K A
  half_put i o = record o { successors = front (block_in m) xs i o.successors }

  pub put-none : (x : Option (OpView K A)) → option_map (half_put 0) x ≡ x
  put-none None = refl
  put-none (Some o) = refl

  pub put-next : (i : ℕ) (b : Ptr BlockKind) → slice_get xs i ≡ Some b → (x : Option (OpView K A))
      → successors_in x ≡ xs
      → option_map (λ o. record (half_put i o) { successors = slice_set (half_put i o).successors i (block_in m b) }) x
      ≡ option_map (half_put (i + 1)) x
  put-next i b at None e = refl
  put-next i b at (Some o) e =
      ap (λ zs. let r : OpView K A = record o { successors = zs } in Some r)
      (subst (λ zs. slice_set (front (block_in m) xs i zs) i (block_in m b) ≡ front (block_in m) xs (i + 1) zs) (sym e)
      (front-next (block_in m) xs i b at))

  pub put-all : (n : ℕ) → n ≡ length xs → (x : Option (OpView K A)) → successors_in x ≡ xs
      → option_map (half_put n) x ≡ option_map (with_successors_in m) x
  put-all n is None e = refl
  put-all n is (Some o) e =
      ap (λ zs. let r : OpView K A = record o { successors = zs } in Some r)
      (subst (λ zs. front (block_in m) xs n zs ≡ blocks_in m zs) (sym e)
      (ap (λ k. front (block_in m) xs k xs) is ∙ front-all (block_in m) xs))

  pub put-list : (i : ℕ) (x : Option (OpView K A)) → successors_in x ≡ xs
      → successors_in (option_map (half_put i) x) ≡ front (block_in m) xs i xs
  put-list i None e = subst (λ ys. [] ≡ front (block_in m) ys i ys) e (nothing i)
    where
      nothing : (i : ℕ) → [] ≡ front (block_in m) [] i []
      nothing zero = refl
      nothing (suc i) = refl
  put-list i (Some o) e = ap (front (block_in m) xs i) e

module _ {K A : Type 0} (m : Images) (xs : List Value) where
  pub half-list : (i : ℕ) (x : Option (OpView K A)) → operands_in x ≡ xs
      → operands_in (option_map (half_set m xs i) x) ≡ front (value_in m) xs i xs
  half-list i None e = subst (λ ys. [] ≡ front (value_in m) ys i ys) e (nothing i)
    where
      nothing : (i : ℕ) → [] ≡ front (value_in m) [] i []
      nothing zero = refl
      nothing (suc i) = refl
  half-list i (Some o) e = ap (front (value_in m) xs i) e

module _ {K A : Type 0} (m : Images) where
  -- the location after successors, and those after operands
  pub whole-change : (x : Option (OpView K A))
      → option_map (located_in m) (option_map (with_successors_in m) (option_map (with_operands_in m) x))
      ≡ option_map (op_under m) x
  whole-change None = refl
  whole-change (Some o) = refl

module _ {K A T : Type 0} (m : Images) where
  pub changed-none : (s : ContextView K A T) → AreChanged s s m []
  changed-none s = record {
    keeps = keeps_same s;
    none_come = come_itself s.nodes;
    ops = λ p h. absurd h;
    others = λ p l n. refl;
    blocks = λ b. refl;
  }

  -- an operation
  pub changed-op : (s t u v : ContextView K A T) (q : Ptr OperationKind) → IsOpEdited s t q (with_operands_in m)
      → IsOpEdited t u q (with_successors_in m) → IsOpEdited u v q (located_in m) → HaveCome s.nodes v.nodes no_node
      → AreChanged s v m (Operation q ∷ [])
  changed-op s t u v q d e f come = record {
    keeps = keeps_both s u v (keeps_both s t u d.keeps e.keeps) f.keeps;
    none_come = come;
    ops = λ p h. elim h [
      | inl x ↦ (let is : q ≡ p = cc in subst (λ z. op_at v z ≡ option_map (op_under m) (op_at s z)) is
          (f.held ∙ ap (option_map (located_in m)) (e.held ∙ ap (option_map (with_successors_in m)) d.held)
          ∙ whole-change m (op_at s q)))
      | inr z ↦ absurd z
    ];
    others = λ p l n.
        let differs : p ≡ q → ⊥ = λ x. n (inl (ap Operation (sym x))) in
        let kept = d.keeps.live (Operation p) ∙ l in
        f.ops p (e.keeps.live (Operation p) ∙ kept) differs ∙ e.ops p kept differs ∙ d.ops p l differs;
    blocks = λ b. f.blocks b ∙ e.blocks b ∙ d.blocks b;
  }

  -- one node after others
  pub changed-both : (s t u : ContextView K A T) (ns : List IRNode) (n : IRNode) → AreChanged s t m ns
      → AreChanged t u m (n ∷ []) → ((x : IRNode) → Has ns x → IsLive s x) → IsLive s n → (Has ns n → ⊥)
      → AreChanged s u m (ns ++ n ∷ [])
  changed-both s t u ns n d e all live fresh = record {
    keeps = keeps_both s t u d.keeps e.keeps;
    none_come = come_still s.nodes t.nodes u.nodes no_node d.none_come e.none_come;
    ops = λ p k. elim (Has-append_cases ns (n ∷ []) (Operation p) k) [
      | inl a ↦ e.others p (d.keeps.live (Operation p) ∙ all (Operation p) a) (λ h. elim h [
        | inl x ↦ fresh (subst (Has ns) (sym x) a)
        | inr z ↦ z
      ]) ∙ d.ops p a
      | inr b ↦ elim b [
        | inl x ↦ e.ops p (inl x) ∙ ap (option_map (op_under m)) (d.others p (subst (IsLive s) x live)
            (λ a. fresh (subst (Has ns) (sym x) a)))
        | inr z ↦ absurd z
      ]
    ];
    others = λ p l k.
        e.others p (d.keeps.live (Operation p) ∙ l) (λ h. k (Has-append_right ns (n ∷ []) (Operation p) h))
        ∙ d.others p l (λ a. k (Has-append_left ns (n ∷ []) (Operation p) a));
    blocks = λ b. e.blocks b ∙ d.blocks b;
  }
