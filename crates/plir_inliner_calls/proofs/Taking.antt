-- An operand is taken out of an operation that forwards its operands to its first successor.
use Rattle.std.proofs.Common.{◌≡◌, ℕ, ◌+◌, ◌-◌, refl, sym, ap, ◌∙◌, arith, Bool, true, false, true≢false, List, []}
use Rattle.std.proofs.Common.{length, take, Option, Some, None, option_map, is_some}
use Rattle.std.specs.Prelude.{◌≢◌, ◌&&◌, ◌==◌, nat_eq, remove, slice_range, cond}
use Rattle.std.specs.Cmp.{second_so}
use Rattle.std.proofs.lemmas.Option.{same_Some}
use Rattle.std.proofs.Math.Seq.{take-length}
use Rattle.plir_core.specs.declared.ptr.Ptr.{Ptr}
use Rattle.plir_core.specs.declared.ptr.Operation.{Operation as OperationKind}
use Rattle.plir_store.specs.Table.{version_at}
use Rattle.plir_core.specs.declared.ptr.IRNode.TheVariants.{Operation}
use Rattle.plir_core.specs.Contents.{OpView}
use Rattle.plir_core.specs.ContextView.{ContextView, IsLive, op_at}
use Rattle.plir_core.specs.Held.{IsOpEdited}
use Rattle.plir_flow.specs.Branches.{Range as Places}
use Rattle.plir_arguments.specs.Removed.{ForwardsLess, IsOpChanged, is_told, test_held, values_at}
use Rattle.plir_inliner_calls.specs.EndKinds.{all_to_first, loses, removes_of}
use Rattle.plir_inliner_calls.specs.declared.arguments.kinds.EndKind.{EndKind}

not-first : (i j : ℕ) → nat_eq i 0 ≡ true → j ≢ i → nat_eq j 0 ≡ false
not-first i j first off = grind arith

-- the range from the first element to behind the last one
whole-range : {X : Type 0} (xs : List X) → slice_range xs 0 (length xs) ≡ xs
whole-range xs = (let all : length xs - 0 ≡ length xs = omega arith in ap (λ k. take k xs) all ∙ take-length xs)

module _ {K A : Type 0} where
  -- what an operation holds without an operand
  abbrev pub without_operand : ℕ → OpView K A → OpView K A
  without_operand n o = record o { operands = remove o.operands n }

  -- where the first successor is meant, its operands are all that there are
  all-of : (o : OpView K A) (i : ℕ) → nat_eq i 0 ≡ true → values_at o (all_to_first o i) ≡ o.operands
  all-of o i e = ap (λ b. values_at o (cond b (Some (0, length o.operands)) None)) e ∙ whole-range o.operands

  -- and another successor gets none
  none-of : (o : OpView K A) (j : ℕ) → nat_eq j 0 ≡ false → values_at o (all_to_first o j) ≡ []
  none-of o j e = ap (λ b. values_at o (cond b (Some (0, length o.operands)) None)) e

  pub less : (i n : ℕ) → nat_eq i 0 ≡ true → (o : OpView K A)
      → ForwardsLess [] (λ j held. all_to_first held j) i n o (without_operand n o)
  less i n first o = record {
    kind = refl;
    result_types = refl;
    successors = refl;
    location = refl;
    attributes = λ k off. refl;
    operands = λ r is.
        let same : (0, length o.operands) ≡ r =
        same_Some _ _ (sym (ap (λ b. cond b (Some (0, length o.operands)) None) first) ∙ is) in
        let zero : n ≡ 0 + n = omega arith in
        ap (remove o.operands) zero ∙ ap (λ (q : Places). remove o.operands (q.0 + n)) same;
    here = all-of (without_operand n o) i first ∙ ap (λ vs. remove vs n) (sym (all-of o i first));
    others = λ j below off.
        let e = not-first i j first off in none-of (without_operand n o) j e ∙ sym (none-of o j e);
  }

module _ {K A T : Type 0} where
  -- what is edited has changed
  pub edited-changed : (s t : ContextView K A T) (p : Ptr OperationKind) (f : OpView K A → OpView K A)
      (R : OpView K A → OpView K A → Type 0) → IsOpEdited s t p f → ((o : OpView K A) → R o (f o)) → IsOpChanged s t p R
  edited-changed s t p f R e step = record {
    keeps = e.keeps;
    held = λ o is. (f o, e.held ∙ ap (option_map f) is, step o);
    ops = e.ops;
    blocks = e.blocks;
  }

  module _ (s : ContextView K A T) (p : Ptr OperationKind) (live : IsLive s (Operation p)) where
    -- a live operation holds something
    there : (o : OpView K A) × (op_at s p ≡ Some o)
    there = go (op_at s p) refl live
      where
        go : (x : Option (OpView K A)) → op_at s p ≡ x →
            (is_some x && (version_at s.nodes.ops p.slot == p.version)) ≡ true → (o : OpView K A) × (op_at s p ≡ Some o)
        go None e l = absurd (true≢false (sym l))
        go (Some o) e l = (o, e)

    -- a test that looks at nothing tells what it tells
    pub told-test : (b : Bool) → b ≡ is_told (λ _. b) s p
    told-test b = sym (ap (test_held (λ _. b)) there.1)

-- what may be taken out goes to the first successor
pub removed-first : (kind : EndKind) (i : ℕ) → removes_of kind i ≡ true → nat_eq i 0 ≡ true
removed-first kind i h = second_so (loses kind) (nat_eq i 0) h
