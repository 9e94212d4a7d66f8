-- A loop over the operations of a block, from the first to the last.
use Rattle.std.proofs.Common.{◌≡◌, suc, ◌<◌, arith, Bool, true, false, cond, List, [], ◌∷◌, ◌++◌, append_assoc}
use Rattle.std.proofs.Common.{append-nil, length, Option, Some, None, refl, sym, ap, subst, ◌∙◌}
use Rattle.std.specs.Prelude.{option_map}
use Rattle.std.specs.Ordering.{eq_by_cmp}
use Rattle.std.proofs.lemmas.Option.{same_Some, none-some}
use Rattle.plir_core.specs.declared.ptr.Ptr.{Ptr}
use Rattle.plir_core.specs.declared.ptr.Operation.{Operation as OperationKind}
use Rattle.plir_core.specs.declared.ptr.BasicBlock.{BasicBlock as BlockKind}
use Rattle.plir_core.specs.declared.ptr.IRNode.{IRNode}
use Rattle.plir_core.specs.declared.ptr.IRNode.TheVariants.{Operation, Region, BasicBlock}
use Rattle.plir_store.specs.Members.{Has, Distinct, head}
use Rattle.plir_core.specs.Standing.{IsStanding}
use Rattle.plir_core.specs.ContextView.{ContextView, children, is_live, op_at, first_child, next_sibling}
use Rattle.plir_store.specs.MemberLaws.{Has-mid}
use Rattle.plir_builtin.specs.Maps.{ptr_cmp}
use Rattle.plir_builtin.specs.Symbols.{Symbols, symbols_among, symbols_of}
use Rattle.plir_builtin.specs.Left.{left_in}
use Rattle.plir_builtin.proofs.MapViews.{ptr_same, ptr_reflects}
use Rattle.plir_builtin.proofs.SymbolLists.{symbols-append}

-- how many there are from an operation on, where it stands
left-at : (xs : List IRNode) (p : Ptr OperationKind) (ys : List IRNode) → Distinct (xs ++ Operation p ∷ ys)
    → left_in (xs ++ Operation p ∷ ys) (Some p) ≡ suc (length ys)
left-at [] p ys d = ap (λ b. cond b (suc (length ys)) (left_in ys (Some p))) (ptr_reflects p p refl)
left-at (Operation q ∷ xs) p ys d = at (left-at xs p ys d.1) (eq_by_cmp ptr_cmp q p) refl
  where
    at : left_in (xs ++ Operation p ∷ ys) (Some p) ≡ suc (length ys) → (b : Bool) → eq_by_cmp ptr_cmp q p ≡ b
        → cond (eq_by_cmp ptr_cmp q p) (suc (length (xs ++ Operation p ∷ ys)))
        (left_in (xs ++ Operation p ∷ ys) (Some p)) ≡ suc (length ys)
    at rest true e =
        absurd (d.0
        (subst (λ z. Has (xs ++ Operation p ∷ ys) (Operation z)) (sym (ptr_same q p e)) (Has-mid xs ys (Operation p))))
    at rest false e =
        ap (λ b. cond b (suc (length (xs ++ Operation p ∷ ys))) (left_in (xs ++ Operation p ∷ ys) (Some p))) e ∙ rest
left-at (Region q ∷ xs) p ys d = left-at xs p ys d.1
left-at (BasicBlock q ∷ xs) p ys d = left-at xs p ys d.1

cut_head : (ys : List IRNode) (n : IRNode) → head ys ≡ Some n → (zs : List IRNode) × (ys ≡ n ∷ zs)
cut_head [] n e = absurd (none-some n e)
cut_head (y ∷ ys) n e = (ys, ap (λ z. z ∷ ys) (same_Some y n e))

module _ {K A T : Type 0} (own : K → Bool) (s : ContextView K A T) (b : Ptr BlockKind) where
  abbrev block : IRNode
  block = BasicBlock b

  -- the nodes `before` have been passed, and `at` comes next
  pub record IsPassing (before : List IRNode) (at : Option (Ptr OperationKind)) : Type 0 where
    pub behind : List IRNode
    pub cut : children s block ≡ before ++ behind
    pub here : option_map Operation at ≡ head behind

  pub passing-start : (at : Option (Ptr OperationKind)) → option_map Operation at ≡ first_child s block
      → first_child s block ≡ head (children s block) → IsPassing [] at
  passing-start at e f = record { behind = children s block; cut = refl; here = e ∙ f }

  pub passing-end : (before : List IRNode) (at : Option (Ptr OperationKind)) → IsPassing before at → at ≡ None
      → children s block ≡ before
  passing-end before at r none =
      r.cut ∙ ap (λ z. before ++ z) (nothing r.behind (sym r.here ∙ ap (option_map Operation) none)) ∙ append-nil before
    where
      nothing : (ys : List IRNode) → head ys ≡ None → ys ≡ []
      nothing [] e = refl
      nothing (y ∷ ys) e = absurd (none-some y (sym e))

  module _ (w : IsStanding s) (before : List IRNode) (at : Option (Ptr OperationKind)) (r : IsPassing before at)
      (p : Ptr OperationKind) (is : at ≡ Some p) where
    zs_at : (zs : List IRNode) × (r.behind ≡ Operation p ∷ zs)
    zs_at = cut_head r.behind (Operation p) (sym r.here ∙ ap (option_map Operation) is)

    whole_at : children s block ≡ before ++ Operation p ∷ zs_at.0
    whole_at = r.cut ∙ ap (λ z. before ++ z) zs_at.1

    pub passing-has : Has (children s block) (Operation p)
    passing-has = subst (λ z. Has z (Operation p)) (sym whole_at) (Has-mid before zs_at.0 (Operation p))

    pub passing-live : is_live s (Operation p) ≡ true
    passing-live = w.forest.child_live block (Operation p) passing-has

    pub symbols-cut : (rest : Symbols) × (symbols_among own (op_at s) (children s block) ≡
        (symbols_among own (op_at s) before ++ symbols_of own s p) ++ rest)
    symbols-cut = (
      symbols_among own (op_at s) zs_at.0,
      ap (symbols_among own (op_at s)) (whole_at ∙ sym (append_assoc before (Operation p ∷ []) zs_at.0))
          ∙ symbols-append own (op_at s) (before ++ Operation p ∷ []) zs_at.0
          ∙ ap (λ z. z ++ symbols_among own (op_at s) zs_at.0) (symbols-append own (op_at s) before (Operation p ∷ [])),
    )

    module _ (next : Option (Ptr OperationKind)) (e : option_map Operation next ≡ next_sibling s (Operation p))
        (law : (over : IRNode) (xs ys : List IRNode) → children s over ≡ xs ++ Operation p ∷ ys
        → next_sibling s (Operation p) ≡ head ys) where
      next_is : option_map Operation next ≡ head zs_at.0
      next_is = e ∙ law block before zs_at.0 whole_at

      pub passing-more : IsPassing (before ++ Operation p ∷ []) next
      passing-more =
          record {
            behind = zs_at.0;
            cut = whole_at ∙ sym (append_assoc before (Operation p ∷ []) zs_at.0);
            here = next_is;
          }

      now_left : left_in (children s block) at ≡ suc (length zs_at.0)
      now_left =
          ap (left_in (children s block)) is ∙ ap (λ z. left_in z (Some p)) whole_at
          ∙ left-at before p zs_at.0 (subst Distinct whole_at (w.forest.once block))

      none_left : (xs : List IRNode) → left_in xs None ≡ 0
      none_left [] = refl
      none_left (x ∷ xs) = refl

      next_left : (zs : List IRNode) (o : Option (Ptr OperationKind))
          → children s block ≡ (before ++ Operation p ∷ []) ++ zs → option_map Operation o ≡ head zs
          → left_in (children s block) o ≡ length zs
      next_left [] None c h = none_left (children s block)
      next_left [] (Some q) c h = absurd (none-some (Operation q) (sym h))
      next_left (z ∷ zs) None c h = absurd (none-some z h)
      next_left (z ∷ zs) (Some q) c h =
          let same : z ≡ Operation q = sym (same_Some (Operation q) z h) in
          let d : children s block ≡ (before ++ Operation p ∷ []) ++ Operation q ∷ zs =
          c ∙ ap (λ y. (before ++ Operation p ∷ []) ++ y ∷ zs) same in
          ap (λ ks. left_in ks (Some q)) d
          ∙ left-at (before ++ Operation p ∷ []) q zs (subst Distinct d (w.forest.once block))

      pub passing-falls : left_in (children s block) next < left_in (children s block) at
      passing-falls =
          let a = now_left in
          let b = next_left zs_at.0 next (whole_at ∙ sym (append_assoc before (Operation p ∷ []) zs_at.0)) next_is in
          omega (arith, a, b)
