-- How far rounds have come.
use Rattle.std.proofs.Common.{ℕ, ◌+◌, ◌≤◌, arith, Bool, Option, List}
use Rattle.plir_core.specs.declared.ptr.Ptr.{Ptr}
use Rattle.plir_core.specs.declared.ptr.Operation.{Operation as OperationKind}
use Rattle.plir_core.specs.declared.ptr.IRNode.TheVariants.{Operation}
use Rattle.plir_core.specs.Contents.{OpView}
use Rattle.plir_core.specs.ContextView.{ContextView, IsLive}
use Rattle.plir_core.specs.WellFormed.{IsWellFormed}
use Rattle.plir_flow.specs.Branches.{Range as Places}
use Rattle.plir_flow_sets.specs.Calls.{CallView}
use Rattle.plir_builtin.specs.Table.{Tables}
use Rattle.plir_inliner.specs.declared.errors.InlineErr.{InlineErr}
use Rattle.plir_inliner.specs.declared.tally.Tally.{Tally}
use Rattle.plir_inliner.specs.Known.{AgreeStill, AreSure, SureStill}
use Rattle.plir_inliner.specs.Steps.{IsCutShort, IsPart}
use Rattle.plir_inliner.proofs.Went.{cut-on, part-none, part-on}

module _ {K A T : Type 0} (own own_table : K → Bool) (handles : A → List ℕ) (calls : OpView K A → Option CallView)
    (returned : OpView K A → Option Places) (root : Ptr OperationKind) (s : ContextView K A T) (m : Tally) where
  -- from s and m on it has come to t and n, with these tables
  pub record IsGoing (t : ContextView K A T) (n : Tally) (c : Tables) : Type 0 where
    pub root_live : IsLive t (Operation root)
    pub sure : AreSure own own_table t c
    pub fits : n.calls + n.left ≤ m.calls + m.left
    pub part : IsPart own own_table calls returned root s t m n
    pub still : SureStill own own_table s t
    pub whole : IsWellFormed handles t

module _ {K A T : Type 0} {own own_table : K → Bool} {handles : A → List ℕ} {calls : OpView K A → Option CallView}
    {returned : OpView K A → Option Places} {root : Ptr OperationKind} {s : ContextView K A T} {m : Tally} where
  pub going-start : {c : Tables} → IsLive s (Operation root) → AreSure own own_table s c → IsWellFormed handles s →
      IsGoing own own_table handles calls returned root s m s m c
  going-start live sure whole = record {
    root_live = live;
    sure = sure;
    fits = omega arith;
    part = part-none;
    still = λ _ h. h;
    whole = whole;
  }

  module _ {t : ContextView K A T} {n : Tally} {c : Tables}
      (h : IsGoing own own_table handles calls returned root s m t n c) where
    -- what a part that went well leaves
    pub going-on : {u : ContextView K A T} {o : Tally} {d : Tables} → IsLive u (Operation root) →
        AreSure own own_table u d → o.calls + o.left ≤ n.calls + n.left →
        IsPart own own_table calls returned root t u n o → SureStill own own_table t u → IsWellFormed handles u →
        IsGoing own own_table handles calls returned root s m u o d
    going-on live sure fits part still whole = record {
      root_live = live;
      sure = sure;
      fits = let a = h.fits in omega (arith, a, fits);
      part = part-on h.part part;
      still = λ e k. still e (h.still e k);
      whole = whole;
    }

    -- and what one that was refused
    pub going-cut : {u : ContextView K A T} {e : InlineErr} →
        IsCutShort own own_table calls returned root t u n.left e →
        IsCutShort own own_table calls returned root s u m.left e
    going-cut cut = cut-on h.part cut

    pub going-agree : (u : ContextView K A T) → AgreeStill own own_table t u → AgreeStill own own_table s u
    going-agree u agree = λ e k. agree e (h.still e k)
