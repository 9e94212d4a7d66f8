-- One edit: a table is seen to, and the edit is called on it.
use Rattle.std.proofs.Common.{◌≡◌, ◌∙◌, Bool, Option, Some, None, Ok, Err, inl, inr, refl, sym, subst}
use Rattle.std.specs.FinMap.{get}
use Rattle.plir_core.specs.ContextView.{ContextView}
use Rattle.plir_builtin.specs.declared.symbol_edits.SymbolEdit.{SymbolEdit}
use Rattle.plir_builtin.specs.declared.symbol_edits.SymbolEditErr.{SymbolEditErr}
use Rattle.plir_builtin.specs.declared.symbol_edits.SymbolEditErr.TheVariants.{DeadPointer, Table}
use Rattle.plir_builtin.specs.declared.symbol_table_err.SymbolTableErr.{SymbolTableErr}
use Rattle.plir_builtin.specs.Table.{Tables}
use Rattle.plir_builtin.specs.Symbols.{IsGood}
use Rattle.plir_builtin.specs.Agree.{AllAgree, IsBrought}
use Rattle.plir_builtin.specs.Refusals.{Refusal, reported, reported_or, ReportsOnly, IsTableRefusal}
use Rattle.plir_builtin.specs.SymbolEdits.{table_of, IsEditLive, IsCallGrowth, IsCallRefusal, IsEditRefusal, IsStep}
use Rattle.plir_builtin.specs.SymbolEdits.{IsTableReportedFor}
use Rattle.plir_builtin.specs.Applied.{IsCalled, IsSeenTo}
use Rattle.plir_builtin.proofs.Brought.{brought-put}
use Rattle.plir_builtin.proofs.Cached.{good-at}

module _ {K A T : Type 0} (w f g : K → Bool) (s : ContextView K A T) (c : Tables) (all : AllAgree f g s c)
    (e : SymbolEdit) where
  pub step-dead : (IsEditLive w f g s e → ⊥) → IsStep w f g s c e (Err DeadPointer) s c
  step-dead dead = ((refl, dead, inl refl), all)

  module _ (live : IsEditLive w f g s e) where
    -- no table
    pub step-unseen : (x : SymbolTableErr) (d : Tables) → IsSeenTo w f g s c (table_of e) (Err x) d
        → IsStep w f g s c e (Err (Table x)) s d
    step-unseen x d h = ((refl, (live, at (reported x) h.1), inl h.0), subst (AllAgree f g s) (sym h.0) all)
      where
        at : (o : Option Refusal) → reported_or (get c (table_of e) ≡ None) (IsTableRefusal f g s (table_of e)) o
            → IsTableReportedFor w f g s c e o
        at None m = inl m
        at (Some r) m = inl m

    -- a table is cached
    module _ (d : Tables) (brought : IsBrought f g s c (table_of e) d)
        (seen : IsSeenTo w f g s c (table_of e) (Ok tt) d) where
      pub seen-good : IsGood f g s (table_of e)
      seen-good = good-at f g s seen.0.0 (table_of e) seen.0.2 seen.0.3

      -- but the edit is refused
      pub step-refused : (x : SymbolEditErr) → IsEditRefusal w f g s c e x → IsStep w f g s c e (Err x) s d
      step-refused x h = ((refl, h, inr brought), seen.1)

      told_by_call : (o : Option Refusal) → reported_or (IsCallGrowth w f g s e) (IsCallRefusal w f g s e) o
          → IsTableReportedFor w f g s c e o
      told_by_call None m = inr (seen-good, m)
      told_by_call (Some r) m = inr (seen-good, m)

      -- what the call would refuse is refused before it
      pub step-foreseen : (x : SymbolTableErr) → ReportsOnly (IsCallRefusal w f g s e) x
          → IsStep w f g s c e (Err (Table x)) s d
      step-foreseen x h =
          step-refused (Table x) (live, subst (IsTableReportedFor w f g s c e) (sym h.1) (inr (seen-good, h.2)))

      -- the call refuses, or makes the edit
      pub step-uncalled : (x : SymbolTableErr) (t : ContextView K A T) (n : Tables) → IsCalled w f g s d e (Err x) t n
          → IsStep w f g s c e (Err (Table x)) t n
      step-uncalled x t n h = (
        (h.0, (live, told_by_call (reported x) h.2), inr (subst (IsBrought f g s c (table_of e)) (sym h.1) brought)),
        subst (λ z. AllAgree f g z n) (sym h.0) (subst (AllAgree f g s) (sym h.1) seen.1),
      )

      pub step-called : (t : ContextView K A T) (n : Tables) → IsCalled w f g s d e (Ok tt) t n
          → IsStep w f g s c e (Ok tt) t n
      step-called t n h = (
        (live, seen-good, h.0, (h.1.0, h.1.1 ∙ brought-put f g s c d (table_of e) brought.0 brought.1 h.1.0)),
        h.2,
      )
