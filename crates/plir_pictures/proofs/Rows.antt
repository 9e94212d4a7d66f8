-- The loop over the operations of a block, and operations whose text is shown.
use Rattle.std.proofs.Common.{◌≡◌, ℕ, zero, suc, ◌+◌, ◌<◌, Bool, true, not, is_some, ◌&&◌, List, [], ◌∷◌, ◌++◌, length}
use Rattle.std.proofs.Common.{Option, Some, None, inl, inr, refl, sym, ap, subst, ◌∙◌, arith, append_assoc}
use Rattle.std.specs.Prelude.{slice_get, option_and_then}
use Rattle.std.specs.List.{flat_map}
use Rattle.std.proofs.lemmas.Option.{same_Some, none-some}
use Rattle.plir_core.specs.declared.ptr.Ptr.{Ptr}
use Rattle.plir_core.specs.declared.ptr.Operation.{Operation as OperationKind}
use Rattle.plir_core.specs.declared.ptr.IRNode.{IRNode}
use Rattle.plir_core.specs.declared.ptr.IRNode.TheVariants.{Operation}
use Rattle.plir_core.specs.Standing.{IsStanding}
use Rattle.plir_core.specs.ContextView.{ContextView, IsLive, children}
use Rattle.plir_data.specs.TextLaws.{onward, done}
use Rattle.plir_store.specs.Members.{Has, Distinct, head}
use Rattle.plir_store.specs.MemberLaws.{Has-mid}
use Rattle.plir_walk.specs.NodeLaws.{same-op}
use Rattle.plir_walk.specs.Tree.{Place, node_at}
use Rattle.plir_print.specs.HeaderAttrs.{HasHeader, IsPrintable, has_header}
use Rattle.plir_pictures.specs.Boxes.{shows_text}
use Rattle.plir_pictures.specs.Steps.{behind_in}
use Rattle.plir_pictures.proofs.Stepping.{no-head, some-head}
use Rattle.plir_pictures.proofs.StepsLeft.{behind-cut}

-- an operation without regions whose header is there can be printed
pub leaf-printable : {K A T : Type 0} (s : ContextView K A T) (p : Ptr OperationKind)
    → head (children s (Operation p)) ≡ None → HasHeader s p → IsPrintable s (Operation p)
leaf-printable s p none has q under = by under.0 under.1
  where
    by : (place : Place) → node_at (children s) (Operation p) place ≡ Some (Operation q) → HasHeader s q
    by [] e = subst (HasHeader s) (same-op p q (same_Some (Operation p) (Operation q) e)) has
    by (i ∷ rest) e =
        absurd (none-some (Operation q) (
        ap (λ z. option_and_then (λ c. node_at (children s) c rest) (slice_get z i))
        (sym (no-head (children s (Operation p)) none))
        ∙ e
        ))

-- an operation whose row shows its text can be printed
pub shown-printable : {K A T : Type 0} (s : ContextView K A T) (p : Ptr OperationKind) → shows_text s p ≡ true
    → IsPrintable s (Operation p)
shown-printable s p shows =
    let both = by (head (children s (Operation p))) (has_header s p) shows in leaf-printable s p both.0 both.1
  where
    by : (first : Option IRNode) (b : Bool) → (not (is_some first) && b) ≡ true → (first ≡ None) × (b ≡ true)
    by None b e = (refl, e)
    by (Some x) b e = absurd (let z : ⊥ = cc e in z)

module _ {K A T : Type 0} (f : IRNode → List ℕ) (s : ContextView K A T) (over : IRNode) where
  -- what is put of the children of a node before `at`, and of the others, makes the whole
  pub record IsPassing (old out : List ℕ) (at : Option IRNode) : Type 0 where
    pub passed : List IRNode
    pub back : List IRNode
    pub cut : children s over ≡ passed ++ back
    pub here : at ≡ head back
    pub put : out ++ flat_map f back ≡ old ++ flat_map f (children s over)

  -- how many there are from `at` on
  abbrev pub nodes_left : Option IRNode → ℕ
  nodes_left None = 0
  nodes_left (Some x) = suc (length (behind_in (children s over) x))

module _ {K A T : Type 0} {f : IRNode → List ℕ} {s : ContextView K A T} {over : IRNode} where
  pub passing-start : (old : List ℕ) (at : Option IRNode) → at ≡ head (children s over) → IsPassing f s over old old at
  passing-start old at first = record {
    passed = [];
    back = children s over;
    cut = refl;
    here = first;
    put = refl;
  }

  module _ {old out : List ℕ} {at : Option IRNode} (h : IsPassing f s over old out at) where
    pub passing-end : at ≡ None → out ≡ old ++ flat_map f (children s over)
    passing-end none =
        done out (flat_map f h.back) (old ++ flat_map f (children s over))
        (ap (flat_map f) (no-head h.back (sym h.here ∙ none))) h.put

    module _ (x : IRNode) (is : at ≡ Some x) where
      pub rest : (ys : List IRNode) × (h.back ≡ x ∷ ys)
      rest = some-head h.back x (sym h.here ∙ is)

      pub passing-cut : children s over ≡ h.passed ++ x ∷ rest.0
      passing-cut = h.cut ∙ ap (λ z. h.passed ++ z) rest.1

      pub passing-live : IsStanding s → IsLive s x
      passing-live st = st.forest.child_live over x (subst (λ z. Has z x) (sym passing-cut) (Has-mid h.passed rest.0 x))

      pub passing-more : (out' : List ℕ) (next : Option IRNode) → next ≡ head rest.0 → out' ≡ out ++ f x
          → IsPassing f s over old out' next
      passing-more out' next after p = record {
        passed = h.passed ++ x ∷ [];
        back = rest.0;
        cut = passing-cut ∙ sym (append_assoc h.passed (x ∷ []) rest.0);
        here = after;
        put = onward out (f x) (flat_map f rest.0) (flat_map f h.back) (old ++ flat_map f (children s over)) out' p
            (ap (flat_map f) rest.1) h.put;
      }

      pub passing-falls : IsStanding s → (next : Option IRNode) → next ≡ head rest.0
          → nodes_left f s over next < nodes_left f s over at
      passing-falls st next after = go next after
        where
          before : nodes_left f s over at ≡ suc (length rest.0)
          before =
              ap (nodes_left f s over) is
              ∙ ap (λ z. suc (length z)) (ap (λ z. behind_in z x) passing-cut
              ∙ behind-cut h.passed rest.0 x (subst Distinct passing-cut (st.forest.once over)))

          go : (o : Option IRNode) → o ≡ head rest.0 → nodes_left f s over o < nodes_left f s over at
          go None e = omega (arith, before)
          go (Some y) e =
              let ys = some-head rest.0 y (sym e) in
              let k = passing-cut ∙ ap (λ z. h.passed ++ x ∷ z) ys.1
              ∙ sym (append_assoc h.passed (x ∷ []) (y ∷ ys.0)) in
              let now =
              ap length (ap (λ z. behind_in z y) k
              ∙ behind-cut (h.passed ++ x ∷ []) ys.0 y (subst Distinct k (st.forest.once over))) in
              omega (arith, before, now, ap length ys.1)
