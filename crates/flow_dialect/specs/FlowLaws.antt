-- Laws: the op set tells of these operations what their interfaces say. No contract cites this module.
use Rattle.std.proofs.Common.{◌≡◌, ℕ, ◌+◌, ◌<◌, Bool, true, false, ◌&&◌, ◌==◌, cond, List, [], length, Option, Some}
use Rattle.std.proofs.Common.{None}
use Rattle.std.proofs.Common.{refl, sym, ap, subst, true≢false, ◌∙◌}
use Rattle.std.proofs.lemmas.Bool.Decides.{Decides-eqb}
use Rattle.std.proofs.lemmas.Option.{same_Some}
use Rattle.std.specs.Prelude.{sum, IsSome, unwrap_or, option_map, option_and_then}
use Rattle.plir_data.specs.Dictionary.{dict_get}
use Rattle.plir_data.specs.declared.op_set.OpKind.TheVariants.{Own}
use Rattle.plir_core.specs.declared.ptr.Ptr.{Ptr}
use Rattle.plir_core.specs.declared.ptr.Operation.{Operation as OperationKind}
use Rattle.plir_core.specs.Contents.{OpView}
use Rattle.plir_core.specs.ContextView.{ContextView, attributes_in, kind_in, op_at, operands_in, successors_in}
use Rattle.plir_flow.specs.declared.calls.CallOpCallable.TheVariants.{Direct}
use Rattle.plir_flow.specs.Segments.{segment_places, sizes_in, sizes_key}
use Rattle.plir_flow_sets.specs.Branches.{IsToldBranch}
use Rattle.plir_flow_sets.specs.Calls.{CallView, IsToldCall}
use Rattle.plir_flow_sets.specs.Told.{at_own_kind, by_own_kind, told_at_kind, told_by_kind, told_of}
use Rattle.flow_dialect.specs.declared.kinds.FlowKind.{FlowKind}
use Rattle.flow_dialect.specs.declared.kinds.FlowKind.TheVariants.{Call, CondBranch, Scope}
use Rattle.flow_dialect.specs.FlowBranches.{IsCondBranch, IsLaidOut, are_sizes, forwards_by, forwards_of}
use Rattle.flow_dialect.specs.FlowBranches.{segment_in}
use Rattle.flow_dialect.specs.FlowCalls.{IsNamedCall, all_places, call_of, callee_in, named_arguments, named_call}
use Rattle.flow_dialect.specs.FlowCalls.{named_callee}
use Rattle.flow_dialect.specs.Scopes.{IsScope, edges_of, edges_or_none, scope_edges}

-- what is there is itself
some_or : {X : Type 0} (x : Option X) (d : X) → IsSome x → x ≡ Some (unwrap_or x d)
some_or (Some x) d h = refl
some_or None d h = absurd (true≢false (sym h))

module _ {A : Type 0} where
  call_told_by : (held : Option (OpView FlowKind A)) → kind_in held ≡ Some (Own Call) →
      IsSome (callee_in (attributes_in held)) →
      option_and_then (by_own_kind call_of) held ≡ Some (record {
        callee = Direct (unwrap_or (callee_in (attributes_in held)) []);
        arguments = all_places (operands_in held);
      })
  call_told_by None kind named = absurd (true≢false (sym named))
  call_told_by (Some o) kind named =
      ap (at_own_kind call_of o) (same_Some o.kind (Own Call) kind)
      ∙ ap (option_map (named_call o.operands)) (some_or (callee_in o.attributes) [] named)

  -- A call of a name is told.
  pub named_call_told : {T : Type 0} (s : ContextView FlowKind A T) (op : Ptr OperationKind) → IsNamedCall s op →
      IsToldCall (by_own_kind call_of) s op (named_callee s op) (named_arguments s op)
  named_call_told s op call = call_told_by (op_at s op) call.kind call.named

both_true : (b c : Bool) → b ≡ true → c ≡ true → (b && c) ≡ true
both_true true c e f = f
both_true false c e f = absurd (true≢false (sym e))

first_true : (b c : Bool) → (b && c) ≡ true → b ≡ true
first_true true c e = refl
first_true false c e = e

second_true : (b c : Bool) → (b && c) ≡ true → c ≡ true
second_true true c e = e
second_true false c e = absurd (true≢false (sym e))

module _ {K A : Type 0} where
  -- the sizes under the key, by what is held
  abbrev sizes_held : Option (OpView K A) → Option (List ℕ)
  sizes_held held = option_and_then sizes_in (dict_get (attributes_in held) sizes_key)

  module _ (o : OpView K A) where
    -- the test of sizes is exact
    are_right : (ns : List ℕ) → length ns ≡ 3 → sum ns ≡ length o.operands → length o.successors ≡ 2 →
        are_sizes o ns ≡ true
    are_right ns three total two = both_true (length ns == 3) _ ((Decides-eqb (length ns) 3).1 three)
        (both_true (sum ns == length o.operands) _ ((Decides-eqb (sum ns) (length o.operands)).1 total)
        ((Decides-eqb (length o.successors) 2).1 two))

    forwards_right : (sizes : Option (List ℕ)) (i : ℕ) → IsSome sizes → length (unwrap_or sizes []) ≡ 3 →
        sum (unwrap_or sizes []) ≡ length o.operands → length o.successors ≡ 2 →
        forwards_by o i sizes ≡ Some (segment_in (unwrap_or sizes []) (i + 1))
    forwards_right None i there three total two = absurd (true≢false (sym there))
    forwards_right (Some ns) i there three total two =
        ap (λ b. cond b (Some (segment_in ns (i + 1))) None) (are_right ns three total two)

    -- sizes that are not those of three segments, or not beside two successors, forward nothing
    forwards_wrong : (sizes : Option (List ℕ)) (i : ℕ) → (IsSome sizes → length (unwrap_or sizes []) ≡ 3 →
        sum (unwrap_or sizes []) ≡ length o.operands → length o.successors ≡ 2 → ⊥) → forwards_by o i sizes ≡ None
    forwards_wrong None i wrong = refl
    forwards_wrong (Some ns) i wrong = by (are_sizes o ns) refl
      where
        by : (b : Bool) → are_sizes o ns ≡ b → cond b (Some (segment_in ns (i + 1))) None ≡ None
        by false e = refl
        by true e =
            let rest = second_true (length ns == 3) _ e in
            absurd (wrong refl ((Decides-eqb (length ns) 3).0 (first_true (length ns == 3) _ e))
            ((Decides-eqb (sum ns) (length o.operands)).0 (first_true (sum ns == length o.operands) _ rest))
            ((Decides-eqb (length o.successors) 2).0 (second_true (sum ns == length o.operands) _ rest)))

  held_right : (held : Option (OpView K A)) (i : ℕ) → IsSome (sizes_held held) →
      length (unwrap_or (sizes_held held) []) ≡ 3 →
      sum (unwrap_or (sizes_held held) []) ≡ length (operands_in held) → length (successors_in held) ≡ 2 →
      option_and_then (λ o. forwards_of o CondBranch i) held ≡
      Some (segment_in (unwrap_or (sizes_held held) []) (i + 1))
  held_right None i there three total two = absurd (true≢false (sym there))
  held_right (Some o) i there three total two = forwards_right o (sizes_held (Some o)) i there three total two

  held_wrong : (held : Option (OpView K A)) (i : ℕ) → (IsSome (sizes_held held) →
      length (unwrap_or (sizes_held held) []) ≡ 3 →
      sum (unwrap_or (sizes_held held) []) ≡ length (operands_in held) → length (successors_in held) ≡ 2 → ⊥) →
      option_and_then (λ o. forwards_of o CondBranch i) held ≡ None
  held_wrong None i wrong = refl
  held_wrong (Some o) i wrong = forwards_wrong o (sizes_held (Some o)) i wrong

  module _ {T : Type 0} (s : ContextView K A T) (op : Ptr OperationKind) (i : ℕ) where
    -- An operation that is laid out as a branch forwards what stands in its segments; another one nothing.
    pub laid_out_told : IsLaidOut s op →
        told_of (λ o. forwards_of o CondBranch i) s op ≡ Some (segment_places s op (i + 1))
    laid_out_told h = held_right (op_at s op) i h.segments.segmented.present h.segments.count h.segments.segmented.total
        h.successors

    pub not_laid_out_told : (IsLaidOut s op → ⊥) → told_of (λ o. forwards_of o CondBranch i) s op ≡ None
    not_laid_out_told wrong = held_wrong (op_at s op) i (λ there three total two. wrong (record {
      segments = record { segmented = record { present = there; total = total }; count = three };
      successors = two;
    }))

module _ {A T : Type 0} (s : ContextView FlowKind A T) (op : Ptr OperationKind) where
  own_kind : (i : ℕ) (held : Option (OpView FlowKind A)) → kind_in held ≡ Some (Own CondBranch) →
      option_and_then (by_own_kind (λ k o. forwards_of o k i)) held ≡
      option_and_then (λ o. forwards_of o CondBranch i) held
  own_kind i None kind = refl
  own_kind i (Some o) kind =
      ap (at_own_kind (λ k h. forwards_of h k i) o) (same_Some o.kind (Own CondBranch) kind)

  -- A conditional branch is told.
  pub cond_branch_told : IsCondBranch s op →
      IsToldBranch (λ i. by_own_kind (λ k o. forwards_of o k i)) s op (λ i. segment_places s op (i + 1))
  cond_branch_told h i below = own_kind i (op_at s op) h.kind ∙ laid_out_told s op i h.laid_out

  -- The edges of a scope are told.
  pub scope_told : IsScope s op → told_by_kind edges_of s op ≡ Some (edges_or_none s op)
  scope_told h = ap (told_at_kind edges_of s op) h.kind ∙ some_or (scope_edges s op) [] h.parts
