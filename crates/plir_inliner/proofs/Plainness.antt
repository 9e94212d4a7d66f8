-- Plain bodies, and what their copies cost.
use Rattle.std.proofs.Common.{◌≡◌, ℕ, ◌<◌, arith, Bool, true, List, [], ◌∷◌, ◌++◌, Option, Some, None, length}
use Rattle.std.proofs.Common.{refl, sym, ap, subst, ◌∙◌}
use Rattle.std.specs.Prelude.{reverse}
use Rattle.std.proofs.lemmas.List.{reverse-append, reverse-reverse}
use Rattle.std.proofs.lemmas.Option.{none-some, same_Some}
use Rattle.plir_store.specs.Members.{Has, head}
use Rattle.plir_store.specs.MemberLaws.{Has-mid}
use Rattle.plir_core.specs.declared.ptr.Ptr.{Ptr}
use Rattle.plir_core.specs.declared.ptr.Operation.{Operation as OperationKind}
use Rattle.plir_core.specs.declared.ptr.BasicBlock.{BasicBlock as BlockKind}
use Rattle.plir_core.specs.declared.ptr.IRNode.TheVariants.{Operation, BasicBlock}
use Rattle.plir_core.specs.Contents.{OpView}
use Rattle.plir_core.specs.Forest.{look, IsForest}
use Rattle.plir_core.specs.ContextView.{ContextView, IsLive, children}
use Rattle.plir_walk.specs.NodeLaws.{same-op}
use Rattle.plir_walk.specs.TreeLaws.{reached-under, under-live, under-reached}
use Rattle.plir_flow.specs.Branches.{Range as Places}
use Rattle.plir_flow_sets.specs.Calls.{CallView}
use Rattle.plir_inliner.specs.Listed.{AreListed, IsCost}
use Rattle.plir_inliner.specs.Plain.{IsPlain, MayStand, ReturnsAll}

module _ {X : Type 0} where
  -- the last element stands first in the reversed list
  pub back : (xs : List X) (x : X) → head (reverse (xs ++ x ∷ [])) ≡ Some x
  back xs x = ap head (reverse-append xs (x ∷ []))

  -- what stands first in the reversed list is the last element
  pub from-back : (xs : List X) (x : X) → head (reverse xs) ≡ Some x → (front : List X) × (xs ≡ front ++ x ∷ [])
  from-back xs x e = go (reverse xs) refl e
    where
      go : (zs : List X) → reverse xs ≡ zs → head zs ≡ Some x → (front : List X) × (xs ≡ front ++ x ∷ [])
      go [] r h = absurd (none-some x h)
      go (z ∷ zs) r h = (
        reverse zs,
        sym (reverse-reverse xs) ∙ ap reverse r ∙ reverse-append (z ∷ []) zs
            ∙ ap (λ y. reverse zs ++ y ∷ []) (same_Some z x h),
      )

  -- a list that has something is not empty
  pub has-length : (xs : List X) (x : X) → Has xs x → 0 < length xs
  has-length [] x h = absurd h
  has-length (y ∷ xs) x h = omega arith

module _ {K A T : Type 0} (own : K → Bool) (calls : OpView K A → Option CallView)
    (returned : OpView K A → Option Places) (s : ContextView K A T) (b : Ptr BlockKind) where
  pub plain-back : (h : IsPlain own calls returned s b) →
      head (reverse (children s (BasicBlock b))) ≡ Some (Operation h.last)
  plain-back h = ap (λ xs. head (reverse xs)) h.ends ∙ back h.front (Operation h.last)

  -- the last operation is the one that is found
  pub plain-last : (h : IsPlain own calls returned s b) (last : Ptr OperationKind) →
      head (reverse (children s (BasicBlock b))) ≡ Some (Operation last) → h.last ≡ last
  plain-last h last at = same-op h.last last (same_Some (Operation h.last) (Operation last) (sym (plain-back h) ∙ at))

  pub plain-some : head (reverse (children s (BasicBlock b))) ≡ None → IsPlain own calls returned s b → ⊥
  plain-some at h = none-some (Operation h.last) (sym at ∙ plain-back h)

  module _ (w : IsForest (look s)) where
    -- a plain body has an operation
    pub plain-costs : IsPlain own calls returned s b → (n : ℕ) → IsCost s b n → 0 < n
    plain-costs h n c =
        let here : Has (children s (BasicBlock b)) (Operation h.last) =
        subst (λ xs. Has xs (Operation h.last)) (sym h.ends) (Has-mid h.front [] (Operation h.last)) in
        let under = reached-under (look s) w 1 (Operation h.last) (BasicBlock b)
        (w.child_parent (BasicBlock b) (Operation h.last) here) in
        subst (λ z. 0 < z) (sym c.number) (has-length c.ops h.last (c.listed.all h.last under refl))

    module _ (ops : List (Ptr OperationKind)) (listed : AreListed s (λ p. true) (BasicBlock b) ops) where
      pub listed-live : IsLive s (BasicBlock b) → (p : Ptr OperationKind) → Has ops p → IsLive s (Operation p)
      listed-live live p h = under-live (look s) w (BasicBlock b) (Operation p) live (listed.only p h).0

      -- what is told once all operations below the block have been looked at
      pub plain-told : (last : Ptr OperationKind) → head (reverse (children s (BasicBlock b))) ≡ Some (Operation last) →
          ReturnsAll own calls returned s last →
          ((p : Ptr OperationKind) → Has ops p → MayStand own calls returned s last p) → (n : ℕ) → n ≡ length ops →
          IsPlain own calls returned s b × IsCost s b n
      plain-told last at all each n number =
          let ends = from-back (children s (BasicBlock b)) (Operation last) at in (
            record {
              front = ends.0;
              last = last;
              ends = ends.1;
              returns_all = all;
              stand = λ p below. each p (listed.all p
                  (reached-under (look s) w below.0 (Operation p) (BasicBlock b) below.1)
                  refl);
            },
            record { ops = ops; listed = listed; number = number },
          )

      -- and each of them may stand in a plain block
      pub plain-each : (h : IsPlain own calls returned s b) (last : Ptr OperationKind) → h.last ≡ last →
          (p : Ptr OperationKind) → Has ops p → MayStand own calls returned s last p
      plain-each h last same p has =
          subst (λ z. MayStand own calls returned s z p) same
          (h.stand p (under-reached (look s) w (Operation p) (BasicBlock b) (listed.only p has).0))
