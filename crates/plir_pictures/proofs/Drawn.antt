-- A text that is made of its parts draws a call graph.
use Rattle.std.proofs.Common.{◌≡◌, ℕ, Bool, List, [], ◌++◌, ap, sym, subst, ◌∙◌, codes, cond, ◌||◌, ◌&&◌, not}
use Rattle.std.proofs.Common.{nat_lt, length, refl}
use Rattle.std.specs.List.{flat_map}
use Rattle.plir_data.specs.declared.op_set.OpSet as op_set
use Rattle.plir_core.specs.declared.ptr.Ptr.{Ptr}
use Rattle.plir_core.specs.declared.ptr.Operation.{Operation as OperationKind}
use Rattle.plir_core.specs.declared.ptr.IRNode.{IRNode}
use Rattle.plir_core.specs.declared.ptr.IRNode.TheVariants.{Operation, Region, BasicBlock}
use Rattle.plir_core.specs.Contents.{OpView}
use Rattle.plir_core.specs.ContextView.{ContextView, kind_of, op_at}
use Rattle.plir_builtin.specs.Symbols.{is_symbol_kind}
use Rattle.plir_symbols.specs.declared.call_edges.CallEdge.{CallEdge}
use Rattle.plir_symbols.specs.SymbolNames.{names_in}
use Rattle.plir_symbols.specs.CallGraph.{IsCallGraph}
use Rattle.plir_data.specs.TextLaws.{on}
use Rattle.plir_pictures.specs.DrawnCalls.{IsDrawn, arrow, call_box, call_clusters, call_end, call_front, is_end}
use Rattle.plir_pictures.specs.DrawnCalls.{is_table, table_front}
use Rattle.plir_pictures.proofs.Levels.{nested-same}

module _ {D K A T E : Type 0} (o : op_set.Ghosts D K A T E) (names : OpView K A → List (List ℕ))
    (s : ContextView K A T) (root : Ptr OperationKind) (ends : Ptr OperationKind → Bool) (es : List CallEdge)
    (alike : (p : Ptr OperationKind) → ends p ≡ is_end es p) where
  front-same : (x : IRNode) → call_front o names s ends x ≡ call_front o names s (is_end es) x
  front-same (Operation p) =
      ap (λ b. cond (is_table o.is_symbol_table s p) (table_front o.kind_id s p) [] ++
      cond (nat_lt 0 (length (names_in names (op_at s p))) || ((is_symbol_kind o.is_symbol (kind_of s p) &&
      not (is_table o.is_symbol_table s p)) || b)) (call_box o.kind_id s p) []) (alike p)
  front-same (Region r) = refl
  front-same (BasicBlock b) = refl

  clusters-same : call_clusters o names s root ends ≡ call_clusters o names s root (is_end es)
  clusters-same = nested-same s _ _ (call_end o.is_symbol_table s) front-same (Operation root)

  pub drawn : (fs : List CallEdge) (t u v w : List ℕ) → t ≡ codes "digraph calls {\n  node [shape=box];\n"
      → u ≡ t ++ call_clusters o names s root ends → fs ≡ es → v ≡ u ++ flat_map arrow fs → w ≡ v ++ codes "}\n"
      → IsCallGraph o.is_symbol o.is_symbol_table names s root es → IsDrawn o names s root w
  drawn fs t u v w first second same third fourth graph = record {
    edges = es;
    are_edges = graph;
    is_text = on (codes "digraph calls {\n  node [shape=box];\n") (call_clusters o names s root (is_end es))
        (flat_map arrow es ++ codes "}\n") u w
        (second ∙ ap (λ z. z ++ call_clusters o names s root ends) first
        ∙ ap (λ z. codes "digraph calls {\n  node [shape=box];\n" ++ z) clusters-same)
        (on u (flat_map arrow es) (codes "}\n") v w (third ∙ ap (λ z. u ++ flat_map arrow z) same) fourth);
  }
