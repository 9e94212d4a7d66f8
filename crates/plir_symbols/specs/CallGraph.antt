-- Call graphs: which operations use which symbols.
use Rattle.std.specs.Prelude.{◌≡◌, ◌<◌, ℕ, Bool, false, cond, List, [], ◌∷◌, length, map, Option, Some, None, refl}
use Rattle.std.specs.List.{filter_map, flat_map}
use Rattle.std.specs.Coded.{Coded, code_by, coded×, coded_list, coded_option}
use Rattle.std.specs.FinMap as map
use Rattle.plir_store.specs.Members.{Has}
use Rattle.plir_core.specs.declared.ptr.Ptr.{Ptr}
use Rattle.plir_core.specs.declared.ptr.Operation.{Operation as OperationKind}
use Rattle.plir_core.specs.declared.ptr.IRNode.TheVariants.{Operation}
use Rattle.plir_core.specs.Contents.{OpView}
use Rattle.plir_core.specs.ContextView.{ContextView, children, op_at}
use Rattle.plir_core.specs.SameValue.{same_ptr}
use Rattle.plir_walk.specs.declared.config.TheConstants.{WALKCONFIG_PREORDER_FORWARD as pre_forward}
use Rattle.plir_walk.specs.Lists.{Pairs}
use Rattle.plir_walk.specs.Tree.{IsUnder, NodeBefore}
use Rattle.plir_builtin.specs.declared.symbol_table_err.SymbolTableErr.{SymbolTableErr}
use Rattle.plir_builtin.specs.Maps.{ptr_code}
use Rattle.plir_builtin.specs.Nearest.{IsNearest, IsFoundNearest}
use Rattle.plir_builtin.specs.Refusals.{Reports, IsTableRefusal}
use Rattle.plir_builtin.specs.Table.{Tables}
use Rattle.plir_symbols.specs.declared.call_edges.CallEdge.{CallEdge}
use Rattle.plir_symbols.specs.CachedTables.{IsNearestCached}
use Rattle.plir_symbols.specs.SymbolNames.{names_in}

-- edges are stored as a list of pairs of their fields
abbrev pub edges_code : Coded (List CallEdge)
edges_code =
    coded_list (code_by (Ptr OperationKind × Option (Ptr OperationKind)) (coded× ptr_code (coded_option ptr_code))
    (λ e. (e.user, e.symbol)) (λ p. record { user = p.0; symbol = p.1 }) (λ _. refl))

-- the symbol that an edge leads to, if it comes from the operation p
abbrev pub callee_by : Ptr OperationKind → CallEdge → Option (Ptr OperationKind)
callee_by p e = cond (same_ptr e.user p) e.symbol None

-- whether what is found is p
abbrev pub is_found : Ptr OperationKind → Option (Ptr OperationKind) → Bool
is_found p None = false
is_found p (Some q) = same_ptr q p

-- the operation that an edge comes from, if it leads to the symbol p
abbrev pub caller_by : Ptr OperationKind → CallEdge → Option (Ptr OperationKind)
caller_by p e = cond (is_found p e.symbol) (Some e.user) None

-- the symbols that the operation p uses, and the operations that use the symbol p, one for each edge, in their order
abbrev pub callees_in : Ptr OperationKind → List CallEdge → List (Ptr OperationKind)
callees_in p es = filter_map (callee_by p) es

abbrev pub callers_in : Ptr OperationKind → List CallEdge → List (Ptr OperationKind)
callers_in p es = filter_map (caller_by p) es

module _ {K A T : Type 0} (names : OpView K A → List (List ℕ)) (s : ContextView K A T) where
  -- the uses of names by an operation, and by operations one after another: each time the operation and the name
  abbrev pub uses_by : Ptr OperationKind → List (Ptr OperationKind × List ℕ)
  uses_by p = map (λ x. (p, x)) (names_in names (op_at s p))

  abbrev pub uses_of : List (Ptr OperationKind) → List (Ptr OperationKind × List ℕ)
  uses_of ps = flat_map uses_by ps

  module _ (root : Ptr OperationKind) where
    -- an operation at or below the root uses a name
    pub record IsUser (p : Ptr OperationKind) : Type 0 where
      pub below : IsUnder (children s) (Operation root) (Operation p)
      pub uses : 0 < length (names_in names (op_at s p))

    -- exactly those operations, each once, in the order of their places
    pub record AreUsers (ps : List (Ptr OperationKind)) : Type 0 where
      pub only_users : (p : Ptr OperationKind) → Has ps p → IsUser p
      pub all_users : (p : Ptr OperationKind) → IsUser p → Has ps p
      pub in_order : Pairs (λ p q. NodeBefore pre_forward (children s) (Operation root) (Operation p) (Operation q)) ps

module _ {K A T : Type 0} (own_symbol own_table : K → Bool) (s : ContextView K A T) where
  -- the edge of a use: it goes from the operation to what a scan of its nearest table finds under the name
  pub record IsEdge (u : Ptr OperationKind × List ℕ) (e : CallEdge) : Type 0 where
    pub user : e.user ≡ u.0
    pub symbol : IsFoundNearest own_symbol own_table s u.0 u.1 e.symbol

  -- the edges of uses: one for each, in their order
  abbrev pub AreEdges : List (Ptr OperationKind × List ℕ) → List CallEdge → Type 0
  AreEdges [] [] = Unit {0}
  AreEdges [] (e ∷ es) = ⊥
  AreEdges (u ∷ us) [] = ⊥
  AreEdges (u ∷ us) (e ∷ es) = IsEdge u e × AreEdges us es

  -- no table is cached for the nearest table of an operation, which is refused
  abbrev pub IsUserRefusal : Tables → Ptr OperationKind → SymbolTableErr → Type 0
  IsUserRefusal c p err = Reports (λ r. (t : Ptr OperationKind) × IsNearest own_table s p (Some t) ×
      (map.get c t ≡ None) × IsTableRefusal own_symbol own_table s t r) err

module _ {K A T : Type 0} (own_symbol own_table : K → Bool) (names : OpView K A → List (List ℕ))
    (s : ContextView K A T) (root : Ptr OperationKind) where
  -- The call graph of the tree under the root: the edges of all uses of names there, in the order of the users' places,
  -- and for one user in the order of its names.
  pub record IsCallGraph (es : List CallEdge) : Type 0 where
    pub users : List (Ptr OperationKind)
    pub are_users : AreUsers names s root users
    pub are_edges : AreEdges own_symbol own_table s (uses_of names s users) es

  -- it is refused: some operation there uses a name, and no table is cached for its nearest table, which is refused
  abbrev pub IsGraphRefusal : Tables → SymbolTableErr → Type 0
  IsGraphRefusal c err = Reports (λ r. (p : Ptr OperationKind) × IsUser names s root p × ((t : Ptr OperationKind) ×
      IsNearest own_table s p (Some t) × (map.get c t ≡ None) × IsTableRefusal own_symbol own_table s t r)) err

  -- the table t is the nearest one of an operation there that uses a name
  abbrev pub IsAsked : Ptr OperationKind → Type 0
  IsAsked t = (p : Ptr OperationKind) × IsUser names s root p × IsNearest own_table s p (Some t)

  -- the nearest table of each operation there that uses a name is cached
  abbrev pub AreAllCached : Tables → Type 0
  AreAllCached c = (p : Ptr OperationKind) → IsUser names s root p → IsNearestCached own_table s c p
