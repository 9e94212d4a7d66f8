-- Nodes that are made one after another and come under one node, as a loop does.
use Rattle.std.proofs.Common.{◌≡◌, ℕ, List, [], ◌∷◌, ◌++◌, Some, None, sym, subst}
use Rattle.std.proofs.lemmas.Option.{none-some}
use Rattle.plir_core.specs.declared.ptr.IRNode.{IRNode}
use Rattle.plir_core.specs.Above.{Reaches}
use Rattle.plir_core.specs.ContextView.{ContextView, IsLive, children, parent_of}
use Rattle.plir_core.specs.Grown.{IsGrown, Growth}
use Rattle.plir_core.specs.Made.{IsMade}
use Rattle.plir_core.specs.Placed.{IsPlaced}
use Rattle.plir_core.specs.Standing.{IsStanding}
use Rattle.plir_core.specs.WellFormed.{IsWellFormed}
use Rattle.plir_attr_text.specs.Names.{Grows}
use Rattle.plir_attr_text.specs.laws.Ends.{end_on}
use Rattle.plir_read.specs.laws.Kept.{IsGrown-itself, KeepsBut-grown, KeepsBut-itself, KeepsBut-on}
use Rattle.plir_read.specs.laws.TreesInOrder.{next_in_order, none_in_order}
use Rattle.plir_read.specs.laws.TypesNamed.{behind_named, named_itself, named_on, named_still}
use Rattle.plir_read_ir.specs.Progress.{HasGrown, HasRead, IsBehind, IsReading}

module _ {K A T : Type 0} (own : A → List ℕ) where
  -- from `first` to s nodes were put under `over`, by what stands in a text before the rest
  pub record Gathers (bytes : List ℕ) (first s : ContextView K A T) (over : IRNode) (rest : List ℕ) : Type 0 where
    pub live : IsLive first over
    pub has : HasGrown bytes rest first s over
    pub reading : IsReading bytes (Some over) first s
    pub whole : IsWellFormed own s

  pub gathers_none : (bytes rest : List ℕ) (s : ContextView K A T) (over : IRNode) → IsLive s over →
      children s over ≡ [] → IsWellFormed own s → IsBehind bytes rest → Gathers bytes s s over rest
  gathers_none bytes rest s over live empty w behind = record {
    live = live;
    has = record { grown = IsGrown-itself _ _; in_order = none_in_order s over empty; behind = behind };
    reading = record { kept = KeepsBut-itself s (Some over); named = named_itself bytes s.types };
    whole = w;
  }

  module _ (bytes rest : List ℕ) (first s : ContextView K A T) (over : IRNode) (g : Gathers bytes first s over rest) where
    pub live_still : IsLive s over
    live_still = g.has.grown.keeps.live over g.live

    -- what is made next stands apart
    pub stands_apart : (t : ContextView K A T) (n : IRNode) → IsMade s.nodes t.nodes n → Reaches (parent_of t) over n →
        ⊥
    stands_apart t n m r = m.apart over live_still r

    -- more that is read, whatever comes of it
    pub reads_on : (t : ContextView K A T) → IsReading rest None s t → IsReading bytes (Some over) first t
    reads_on t r = record {
      kept = KeepsBut-on first s t (Some over) None (λ m e h q. none-some m q) g.reading.kept r.kept;
      named = named_on bytes first.types s.types t.types r.kept.types g.reading.named
          (behind_named bytes rest s.types t.types g.has.behind r.named);
    }

    -- from s to t the node n is made, and from t to u it comes under `over`
    module _ (standing : (s : ContextView K A T) → IsWellFormed own s → IsStanding s) (t u : ContextView K A T)
        (n : IRNode) (after behind : List ℕ) (p : Growth first.nodes) (q : Growth s.nodes) (h : HasRead rest after s t n)
        (r : IsReading rest None s t) (there : IsWellFormed own t) (w : IsWellFormed own u)
        (placed : IsPlaced t.nodes u.nodes n over (children t over ++ n ∷ [])) (types : u.types ≡ t.types)
        (end : IsBehind after behind) where
      child_grown : IsGrown first.nodes u.nodes over
      child_grown = p.twice s.nodes u.nodes over g.whole.stored g.has.grown
          (q.placed t.nodes u.nodes n over (children t over ++ n ∷ []) h.made placed)

      pub child_comes : Gathers bytes first u over behind
      child_comes = record {
        live = g.live;
        has = record {
          grown = child_grown;
          in_order = next_in_order first s t u over n (standing s g.whole) (standing t there) live_still h.made
              r.kept.types placed types g.has.in_order h.in_order;
          behind = end_on bytes rest behind g.has.behind (end_on rest after behind h.behind end);
        };
        reading = record {
          kept = KeepsBut-grown first u over child_grown
              (subst (Grows first.types) (sym types) (reads_on t r).kept.types);
          named = named_still bytes first.types t.types u.types types (reads_on t r).named;
        };
        whole = w;
      }
