-- A loop over the operations of a block: `at` is the first one of those that are left.
use Rattle.std.proofs.Common.{◌≡◌, ◌<◌, suc, arith, List, ◌∷◌, ◌++◌, length, Option, Some, None, option_map, inl, refl}
use Rattle.std.proofs.Common.{sym, ap, subst, ◌∙◌}
use Rattle.plir_store.specs.Members.{Has, Distinct, head}
use Rattle.plir_store.specs.MemberLaws.{Distinct-cross, Has-mid}
use Rattle.plir_core.specs.declared.ptr.Ptr.{Ptr}
use Rattle.plir_core.specs.declared.ptr.Operation.{Operation as OperationKind}
use Rattle.plir_core.specs.declared.ptr.BasicBlock.{BasicBlock as BasicBlockKind}
use Rattle.plir_core.specs.declared.ptr.IRNode.{IRNode}
use Rattle.plir_core.specs.declared.ptr.IRNode.TheVariants.{Operation, BasicBlock}
use Rattle.plir_core.specs.Forest.{look, IsForest}
use Rattle.plir_core.specs.ContextView.{ContextView, IsLive, children, parent_of}
use Rattle.plir_walk.specs.NodeLaws.{left_from, left-cut, headed}

-- Fewer are left behind the operation, also where something has come in front of what is left.
pub left-falls : (ns ns' front passed ys : List IRNode) (op : Ptr OperationKind) (at next : Option (Ptr OperationKind))
    → at ≡ Some op → ns ≡ front ++ Operation op ∷ ys → Distinct ns → ns' ≡ passed ++ ys → Distinct ns'
    → option_map Operation next ≡ head ys → left_from ns' next < left_from ns at
left-falls ns ns' front passed ys op at next is cut once cut' once' here = go next here
  where
    before-it : left_from ns at ≡ suc (length ys)
    before-it = ap (left_from ns) is ∙ ap (λ z. left_from z (Some op)) cut ∙ left-cut front ys op (subst Distinct cut once)

    go : (o : Option (Ptr OperationKind)) → option_map Operation o ≡ head ys → left_from ns' o < left_from ns at
    go None e = omega (arith, before-it)
    go (Some q) e =
        let y = headed ys q e in
        let c = cut' ∙ ap (λ z. passed ++ z) y.1 in
        let after = ap (λ z. left_from z (Some q)) c ∙ left-cut passed y.0 q (subst Distinct c once') in
        omega (arith, before-it, after, ap length y.1)

module _ {K A T : Type 0} (s : ContextView K A T) (forest : IsForest (look s)) (b : Ptr BasicBlockKind)
    (front back : List IRNode) (at : Option (Ptr OperationKind)) (split : children s (BasicBlock b) ≡ front ++ back)
    (here : option_map Operation at ≡ head back) (op : Ptr OperationKind) (is : at ≡ Some op) where
  pub along-rest : (ys : List IRNode) × (back ≡ Operation op ∷ ys)
  along-rest = headed back op (ap (option_map Operation) (sym is) ∙ here)

  pub along-cut : children s (BasicBlock b) ≡ front ++ Operation op ∷ along-rest.0
  along-cut = split ∙ ap (λ z. front ++ z) along-rest.1

  has : Has (children s (BasicBlock b)) (Operation op)
  has = subst (λ z. Has z (Operation op)) (sym along-cut) (Has-mid front along-rest.0 (Operation op))

  pub along-live : IsLive s (Operation op)
  along-live = forest.child_live (BasicBlock b) (Operation op) has

  pub along-parent : parent_of s (Operation op) ≡ Some (BasicBlock b)
  along-parent = forest.child_parent (BasicBlock b) (Operation op) has

  -- the operation was not passed
  pub along-fresh : Has front (Operation op) → ⊥
  along-fresh h =
      Distinct-cross front (Operation op ∷ along-rest.0) (subst Distinct along-cut (forest.once (BasicBlock b)))
      (Operation op) h (inl refl)
