-- Steps one after another, and what they come to.
use Rattle.std.proofs.Common.{◌≡◌, ℕ, ◌+◌, ◌-◌, ◌≤◌, arith, Bool, true, false, List, [], ◌∷◌, ◌++◌, Option}
use Rattle.std.proofs.Common.{Result, Ok, Err, length, refl, subst}
use Rattle.std.specs.Prelude.{OnOk}
use Rattle.plir_core.specs.declared.ptr.Ptr.{Ptr}
use Rattle.plir_core.specs.declared.ptr.Operation.{Operation as OperationKind}
use Rattle.plir_core.specs.Contents.{OpView}
use Rattle.plir_core.specs.ContextView.{ContextView}
use Rattle.plir_core.specs.Changes.{SameLive}
use Rattle.plir_flow.specs.Branches.{Range as Places}
use Rattle.plir_flow_sets.specs.Calls.{CallView}
use Rattle.plir_inline.specs.Inlined.{IsInlined}
use Rattle.plir_inliner.specs.declared.candidates.Step.{Step}
use Rattle.plir_inliner.specs.declared.errors.InlineErr.{InlineErr}
use Rattle.plir_inliner.specs.declared.tally.Inlining.{Inlining}
use Rattle.plir_inliner.specs.declared.tally.Tally.{Tally}
use Rattle.plir_builtin.specs.Table.{Tables}
use Rattle.plir_inliner.specs.Known.{AreSure, SureStill}
use Rattle.plir_inliner.specs.Steps.{AreSteps, IsCutShort, IsInlining, IsOverBudget, IsPart, IsReady, IsStepRefusal}
use Rattle.plir_inliner.specs.Steps.{NoneLeft, costs}

sum-append : (xs ys : List Step) → costs (xs ++ ys) ≡ costs xs + costs ys
sum-append [] ys = omega arith
sum-append (x ∷ xs) ys = let i = sum-append xs ys in omega (arith, i)

length-append : (xs ys : List Step) → length (xs ++ ys) ≡ length xs + length ys
length-append [] ys = omega arith
length-append (x ∷ xs) ys = let i = length-append xs ys in omega (arith, i)

-- tables that were sure before a step that went well are so behind it
pub sure-after : {K A T E : Type 0} {X : Type 0} (own own_table : K → Bool) (s t : ContextView K A T) (c : Tables)
    (r : Result X E) → OnOk r (SureStill own own_table s t) → AreSure own own_table s c →
    OnOk r (AreSure own own_table t c)
sure-after own own_table s t c (Ok x) h sure = h c sure
sure-after own own_table s t c (Err e) h sure = tt

module _ {K A T : Type 0} (own own_table : K → Bool) (calls : OpView K A → Option CallView)
    (returned : OpView K A → Option Places) (root : Ptr OperationKind) where
  steps-on : (s t u : ContextView K A T) (xs ys : List Step) → AreSteps own own_table calls returned root s xs t →
      AreSteps own own_table calls returned root t ys u → AreSteps own own_table calls returned root s (xs ++ ys) u
  steps-on s t u [] ys e h = subst (λ z. AreSteps own own_table calls returned root z ys u) e h
  steps-on s t u (x ∷ xs) ys h k = (h.0, h.1, h.2, steps-on h.0 t u xs ys h.3 k)

  -- what all parts come to
  pub whole-part : (s t : ContextView K A T) (budget : ℕ) (m n : Tally) (done : Inlining) → m.calls ≡ 0 →
      m.left ≡ budget → IsPart own own_table calls returned root s t m n → done.calls ≡ n.calls →
      done.copied ≡ budget - n.left →
      (done.stopped ≡ false → NoneLeft own own_table calls returned root t) →
      (done.stopped ≡ true → IsOverBudget own own_table calls returned root t n.left) →
      IsInlining own own_table calls returned root s t budget done
  whole-part s t budget m n done zero all f number copied none over =
      let left : n.left ≡ budget - done.copied = omega (arith, f.left) in
      record {
        steps = f.steps;
        went = f.went;
        calls = omega (arith, f.calls);
        copied = omega (arith, f.left);
        within = omega (arith, f.left);
        whole = none;
        stopped = λ e. subst (IsOverBudget own own_table calls returned root t) left (over e);
      }

module _ {K A T : Type 0} {own own_table : K → Bool} {calls : OpView K A → Option CallView}
    {returned : OpView K A → Option Places} {root : Ptr OperationKind} where
  pub part-none : {s : ContextView K A T} {m : Tally} → IsPart own own_table calls returned root s s m m
  part-none = record {
    steps = [];
    went = refl;
    calls = omega arith;
    left = omega arith;
  }

  pub part-one : {s t : ContextView K A T} {m m' : Tally} (x : Step) →
      IsReady own own_table calls returned root s x → IsInlined s t x.call x.block → m'.calls ≡ m.calls + 1 →
      m'.left ≡ m.left - x.cost → x.cost ≤ m.left → IsPart own own_table calls returned root s t m m'
  part-one {s} {t} {m} {m'} x ready inlined more less fits = record {
    steps = x ∷ [];
    went = (t, ready, inlined, refl);
    calls = omega arith;
    left = omega arith;
  }

  pub part-on : {s t u : ContextView K A T} {m n o : Tally} → IsPart own own_table calls returned root s t m n →
      IsPart own own_table calls returned root t u n o → IsPart own own_table calls returned root s u m o
  part-on {s} {t} {u} {m} {n} {o} f g =
      let sums = sum-append f.steps g.steps in
      let lengths = length-append f.steps g.steps in
      record {
        steps = f.steps ++ g.steps;
        went = steps-on own own_table calls returned root s t u f.steps g.steps f.went g.went;
        calls = omega (arith, lengths, f.calls, g.calls);
        left = omega (arith, sums, f.left, g.left);
      }

  -- a step that was refused at once
  pub cut-here : {s t : ContextView K A T} {left : ℕ} (e : InlineErr) →
      IsStepRefusal own own_table calls returned root s e → SameLive s t →
      IsCutShort own own_table calls returned root s t left e
  cut-here {s} e refused same = record {
    before = s;
    steps = [];
    went = refl;
    within = omega arith;
    refused = refused;
    same = same;
  }

  pub cut-on : {s t u : ContextView K A T} {m n : Tally} {e : InlineErr} →
      IsPart own own_table calls returned root s t m n → IsCutShort own own_table calls returned root t u n.left e →
      IsCutShort own own_table calls returned root s u m.left e
  cut-on {s} {t} {u} {m} {n} f g =
      let sums = sum-append f.steps g.steps in
      record {
        before = g.before;
        steps = f.steps ++ g.steps;
        went = steps-on own own_table calls returned root s t g.before f.steps g.steps f.went g.went;
        within = omega (arith, sums, f.left, g.within);
        refused = g.refused;
        same = g.same;
      }
