-- Regions that are added to an operation one after the other, as a loop does, with what is read in each.
use Rattle.std.proofs.Common.{◌≡◌, ℕ, List, [], ◌∷◌, Some, subst}
use Rattle.plir_core.specs.ContextView.{ContextView}
use Rattle.plir_core.specs.Grown.{Growth}
use Rattle.plir_core.specs.Made.{IsRegionAdded}
use Rattle.plir_core.specs.Standing.{IsStanding}
use Rattle.plir_core.specs.WellFormed.{IsWellFormed}
use Rattle.plir_core.specs.declared.ptr.IRNode.{IRNode}
use Rattle.plir_attr_text.specs.Names.{AreNamed, Grows}
use Rattle.plir_attr_text.specs.TypesWritten.{IsWrittenIn}
use Rattle.plir_attr_text.specs.laws.Ends.{end_on}
use Rattle.plir_read.specs.Slots.{AreGivenOut}
use Rattle.plir_read.specs.laws.Kept.{KeepsBut-on}
use Rattle.plir_read.specs.laws.TypesNamed.{behind_named, named_on}
use Rattle.plir_read_ir.specs.Progress.{HasGrown, IsReading}
use Rattle.plir_read_ir.proofs.Children.{Gathers, live_still}
use Rattle.plir_read_ir.proofs.Regions.{region_grown, region_in_order, region_kept}

module _ {K A T : Type 0} (own : A → List ℕ) (bytes rest : List ℕ) (first s t u : ContextView K A T) (o r : IRNode)
    (g : Gathers own bytes first s o rest) (a : IsRegionAdded s.nodes t.nodes o r) (types : t.types ≡ s.types)
    (q : IsReading rest (Some r) t u) where
  from_before : AreNamed (IsWrittenIn rest) s.types u.types
  from_before = subst (λ z. AreNamed (IsWrittenIn rest) z u.types) types q.named

  grown_types : Grows s.types u.types
  grown_types = subst (λ z. Grows z u.types) types q.kept.types

  -- whatever comes of what is read in the region
  pub region_reading : IsReading bytes (Some o) first u
  region_reading = record {
    kept = KeepsBut-on first s u (Some o) (Some o) (λ m e h z. h z) g.reading.kept
        (region_kept s t u o r a types q.kept);
    named = named_on bytes first.types s.types u.types grown_types g.reading.named
        (behind_named bytes rest s.types u.types g.has.behind from_before);
  }

  pub region_comes : (standing : (s : ContextView K A T) → IsWellFormed own s → IsStanding s) → (behind : List ℕ) →
      Growth first.nodes → IsWellFormed own u → AreGivenOut s.nodes (r ∷ []) t.nodes → HasGrown rest behind t u r →
      Gathers own bytes first u o behind
  region_comes standing behind p w given h = record {
    live = g.live;
    has = record {
      grown = p.twice s.nodes u.nodes o g.whole.stored g.has.grown (region_grown s t u o r a h.grown);
      in_order = region_in_order s t u o r a first (standing s g.whole) (standing u w)
          (live_still own bytes rest first s o g) grown_types h.grown given g.has.in_order h.in_order;
      behind = end_on bytes rest behind g.has.behind h.behind;
    };
    reading = region_reading;
    whole = w;
  }
