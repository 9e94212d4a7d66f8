-- The loop that seeks the nearest table.
use Rattle.std.proofs.Common.{◌≡◌, ℕ, zero, suc, ◌+◌, ◌<◌, arith, Bool, true, false, Option, Some, None, inl, inr, refl}
use Rattle.std.proofs.Common.{sym, ap, subst, ◌∙◌}
use Rattle.std.specs.Prelude.{option_map}
use Rattle.std.proofs.lemmas.Bool.{cases_lt}
use Rattle.std.proofs.lemmas.Option.{same_Some, none-some}
use Rattle.plir_core.specs.declared.ptr.Ptr.{Ptr}
use Rattle.plir_core.specs.declared.ptr.Operation.{Operation as OperationKind}
use Rattle.plir_core.specs.declared.ptr.IRNode.{IRNode}
use Rattle.plir_core.specs.declared.ptr.IRNode.TheVariants.{Operation, Region, BasicBlock}
use Rattle.plir_core.specs.Above.{climb}
use Rattle.plir_core.specs.ContextView.{ContextView, parent_of, is_live, op_above, op_at, kind_in}
use Rattle.plir_core.specs.Standing.{IsStanding}
use Rattle.plir_core.specs.Measures.{depth}
use Rattle.plir_builtin.specs.Symbols.{is_table_kind}
use Rattle.plir_builtin.specs.Nearest.{as_op, op_over, IsNearest, levels_up}

as_op-map : (r : Option (Ptr OperationKind)) → as_op (option_map Operation r) ≡ r
as_op-map None = refl
as_op-map (Some p) = refl

as_op-is : (o : Option IRNode) (q : Ptr OperationKind) → as_op o ≡ Some q → o ≡ Some (Operation q)
as_op-is None q e = absurd (none-some q e)
as_op-is (Some (Operation p)) q e = ap (λ z. Some (Operation z)) (same_Some p q e)
as_op-is (Some (Region p)) q e = absurd (none-some q e)
as_op-is (Some (BasicBlock p)) q e = absurd (none-some q e)

module _ {N : Type 0} (up : N → Option N) where
  nothing : (k : ℕ) → climb up k None ≡ None
  nothing zero = refl
  nothing (suc k) = refl

  pub one-more : (k : ℕ) (o : Option N) (p : N) → climb up k o ≡ Some p → climb up (suc k) o ≡ up p
  one-more zero o p e = ap (climb up 1) e
  one-more (suc k) None p e = absurd (none-some p e)
  one-more (suc k) (Some n) p e = one-more k (up n) p e

  not-past : (j k : ℕ) (o : Option N) (u : N) → climb up j o ≡ Some u → climb up k o ≡ None → j < k
  not-past zero zero o u e f = absurd (none-some u (sym f ∙ e))
  not-past zero (suc k) o u e f = omega arith
  not-past (suc j) k None u e f = absurd (none-some u e)
  not-past (suc j) zero (Some n) u e f = absurd (none-some n (sym f))
  not-past (suc j) (suc k) (Some n) u e f = let i = not-past j k (up n) u e f in omega (arith, i)

module _ {K A T : Type 0} (own : K → Bool) (s : ContextView K A T) (n : Ptr OperationKind) where
  -- `at` is come by from n, with no table on the way
  pub record IsSeeking (at : Option (Ptr OperationKind)) : Type 0 where
    pub steps : ℕ
    pub come : climb (op_over s) steps (Some n) ≡ at
    pub none : (j : ℕ) (u : Ptr OperationKind) → j < steps → climb (op_over s) j (Some n) ≡ Some u
        → is_table_kind own (kind_in (op_at s u)) ≡ false
    pub live : (p : Ptr OperationKind) → at ≡ Some p → is_live s (Operation p) ≡ true

  pub seeking-start : is_live s (Operation n) ≡ true → IsSeeking (Some n)
  seeking-start live = record {
    steps = 0;
    come = refl;
    none = λ j u h e. absurd (omega arith);
    live = λ p e. subst (λ z. is_live s (Operation z) ≡ true) (same_Some n p e) live;
  }

  pub seeking-found : (at : Option (Ptr OperationKind)) → IsSeeking at → (p : Ptr OperationKind) → at ≡ Some p
      → is_table_kind own (kind_in (op_at s p)) ≡ true → IsNearest own s n (Some p)
  seeking-found at r p e t = (r.steps, r.come ∙ e, t, r.none)

  pub seeking-end : (at : Option (Ptr OperationKind)) → IsSeeking at → at ≡ None → IsNearest own s n None
  seeking-end at r e = λ j u c. r.none j u (not-past (op_over s) j r.steps (Some n) u c (r.come ∙ e)) c

  module _ (w : IsStanding s) where
    climb-live : (k : ℕ) (m q : IRNode) → climb (parent_of s) (suc k) (Some m) ≡ Some q → is_live s q ≡ true
    climb-live zero m q e = w.forest.parent_live q m e
    climb-live (suc k) m q e = at (λ a h. climb-live k a q h) (parent_of s m) e
      where
        at : ((a : IRNode) → climb (parent_of s) (suc k) (Some a) ≡ Some q → is_live s q ≡ true) → (o : Option IRNode)
            → climb (parent_of s) (suc k) o ≡ Some q → is_live s q ≡ true
        at rest None h = absurd (none-some q h)
        at rest (Some a) h = rest a h

    climb-depth : (k : ℕ) (m q : IRNode) → climb (parent_of s) k (Some m) ≡ Some q → depth s q + k ≡ depth s m
    climb-depth zero m q e = let h = ap (depth s) (same_Some m q e) in omega (arith, h)
    climb-depth (suc k) m q e = at (λ a h. climb-depth k a q h) (parent_of s m) refl e
      where
        at : ((a : IRNode) → climb (parent_of s) k (Some a) ≡ Some q → depth s q + k ≡ depth s a) → (o : Option IRNode)
            → parent_of s m ≡ o → climb (parent_of s) k o ≡ Some q → depth s q + suc k ≡ depth s m
        at rest None f h = absurd (none-some q (sym (nothing (parent_of s) k) ∙ h))
        at rest (Some a) f h = let i = rest a h in let d = w.measured.deeper a m f in omega (arith, i, d)

    module _ (at : Option (Ptr OperationKind)) (r : IsSeeking at) (p : Ptr OperationKind) (is : at ≡ Some p)
        (next : Option (Ptr OperationKind)) (e : option_map Operation next ≡ op_above s (Operation p)) where
      next_is : next ≡ op_over s p
      next_is = sym (as_op-map next) ∙ ap as_op e

      above_is : (q : Ptr OperationKind) → next ≡ Some q
          → climb (parent_of s) 3 (Some (Operation p)) ≡ Some (Operation q)
      above_is q h = as_op-is (op_above s (Operation p)) q (sym next_is ∙ h)

      pub seeking-more : is_table_kind own (kind_in (op_at s p)) ≡ false → IsSeeking next
      seeking-more plain = record {
        steps = suc r.steps;
        come = one-more (op_over s) r.steps (Some n) p (r.come ∙ is) ∙ sym next_is;
        none = λ j u h c. elim (cases_lt j r.steps) [
          | inl less ↦ r.none j u less c
          | inr past ↦ let same : r.steps ≡ j = omega arith in
              let here : p ≡ u =
              same_Some p u (sym is ∙ sym r.come ∙ ap (λ z. climb (op_over s) z (Some n)) same ∙ c) in
              subst (λ z. is_table_kind own (kind_in (op_at s z)) ≡ false) here plain
        ];
        live = λ q h. climb-live 2 (Operation p) (Operation q) (above_is q h);
      }

      pub seeking-falls : levels_up (depth s) next < levels_up (depth s) at
      seeking-falls = subst (λ z. levels_up (depth s) next < levels_up (depth s) z) (sym is) (falls next refl)
        where
          falls : (o : Option (Ptr OperationKind)) → next ≡ o → levels_up (depth s) next < levels_up (depth s) (Some p)
          falls None h = subst (λ z. levels_up (depth s) z < levels_up (depth s) (Some p)) (sym h) (omega arith)
          falls (Some q) h =
              let d = climb-depth 3 (Operation p) (Operation q) (above_is q h) in
              subst (λ z. levels_up (depth s) z < levels_up (depth s) (Some p)) (sym h) (omega (arith, d))
