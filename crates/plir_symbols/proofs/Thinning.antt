-- What stays true of what is left where some nodes are gone.
use Rattle.std.proofs.Common.{◌≡◌, ℕ, zero, suc, Bool, true, List, get_or, All, Option, Some, None, refl, sym, ap, subst}
use Rattle.std.proofs.Common.{◌∙◌}
use Rattle.std.proofs.lemmas.Option.{same_Some}
use Rattle.plir_core.specs.declared.ptr.Ptr.{Ptr}
use Rattle.plir_core.specs.declared.ptr.Operation.{Operation as OperationKind}
use Rattle.plir_core.specs.declared.ptr.IRNode.{IRNode}
use Rattle.plir_core.specs.declared.ptr.IRNode.TheVariants.{Operation, BasicBlock}
use Rattle.plir_core.specs.Above.{climb}
use Rattle.plir_core.specs.Contents.{OpView}
use Rattle.plir_core.specs.ContextView.{ContextView, IsAncestor, IsLive, entity_node, kind_in, operands_in, operands_of}
use Rattle.plir_core.specs.ContextView.{parent_of, successors_in, successors_of}
use Rattle.plir_core.specs.Forest.{look, IsForest}
use Rattle.plir_core.specs.Unused.{IsUnusedOutside}
use Rattle.plir_walk.specs.Thinned.{IsThinned}
use Rattle.plir_walk.specs.NodeLaws.{climb-nothing}
use Rattle.plir_builtin.specs.Symbols.{is_symbol_kind, name_held}
use Rattle.plir_symbols.specs.DeadSymbols.{MayGo}
use Rattle.plir_symbols.specs.SymbolNames.{is_private_in}

all-still : {X : Type 0} (P Q : X → Type 0) → ((x : X) → P x → Q x) → (xs : List X) → All P xs → All Q xs
all-still P Q f xs h = λ k d less. f (get_or xs k d) (h k d less)

module _ {K A T : Type 0} (s t : ContextView K A T) (forest : IsForest (look t)) (thin : IsThinned s t) where
  -- what climbs in t to what is live there is live there, and climbed so in s
  climb-before : (k : ℕ) (n r : IRNode) → IsLive t r → climb (parent_of t) k (Some n) ≡ Some r
      → IsLive t n × (climb (parent_of s) k (Some n) ≡ Some r)
  climb-before zero n r l e = (subst (IsLive t) (sym (same_Some n r e)) l, e)
  climb-before (suc k) n r l e = up (λ a g. climb-before k a r l g) (parent_of t n) refl
    where
      up : ((a : IRNode) → climb (parent_of t) k (Some a) ≡ Some r
          → IsLive t a × (climb (parent_of s) k (Some a) ≡ Some r)) → (o : Option IRNode) → parent_of t n ≡ o
          → IsLive t n × (climb (parent_of s) k (parent_of s n) ≡ Some r)
      up rest None q = absurd (climb-nothing (parent_of t) k r (ap (climb (parent_of t) k) (sym q) ∙ e))
      up rest (Some a) q =
          let f = rest a (ap (climb (parent_of t) k) (sym q) ∙ e) in
          let live = forest.child_live a n (forest.parent_child a n q) in
          (live, ap (climb (parent_of s) k) (sym (thin.parents n live) ∙ q) ∙ f.1)

  -- and what stands at or above what is live in t is live there, and climbed to as in s
  climb-after : (k : ℕ) (n r : IRNode) → IsLive t n → climb (parent_of s) k (Some n) ≡ Some r
      → IsLive t r × (climb (parent_of t) k (Some n) ≡ Some r)
  climb-after zero n r l e = (subst (IsLive t) (same_Some n r e) l, e)
  climb-after (suc k) n r l e = up (λ a m g. climb-after k a r m g) (parent_of s n) refl
    where
      up : ((a : IRNode) → IsLive t a → climb (parent_of s) k (Some a) ≡ Some r
          → IsLive t r × (climb (parent_of t) k (Some a) ≡ Some r)) → (o : Option IRNode) → parent_of s n ≡ o
          → IsLive t r × (climb (parent_of t) k (parent_of t n) ≡ Some r)
      up rest None q = absurd (climb-nothing (parent_of s) k r (ap (climb (parent_of s) k) (sym q) ∙ e))
      up rest (Some a) q =
          let over = thin.parents n l ∙ q in
          let f = rest a (forest.parent_live a n over) (ap (climb (parent_of s) k) (sym q) ∙ e) in
          (f.0, ap (climb (parent_of t) k) over ∙ f.1)

  module _ (p : Ptr OperationKind) (live : IsLive t (Operation p)) where
    -- what nothing outside its tree used is unused still
    unused-still : IsUnusedOutside s (Operation p) → IsUnusedOutside t (Operation p)
    unused-still h u l out =
        (let same = thin.ops u l in
        let k = h u (thin.old (Operation u) l) (λ a. out (a.0, (climb-after a.0 (Operation u) (Operation p) l a.1).1)) in
        record {
          operands = subst (λ z. All (λ v. IsAncestor t (Operation p) (entity_node v.entity) → ⊥) (operands_in z)) (sym same)
              (all-still (λ v. IsAncestor s (Operation p) (entity_node v.entity) → ⊥)
              (λ v. IsAncestor t (Operation p) (entity_node v.entity) → ⊥)
              (λ v f a. f (a.0, (climb-before a.0 (entity_node v.entity) (Operation p) live a.1).1))
              (operands_of s u) k.operands);
          successors = subst (λ z. All (λ b. IsAncestor t (Operation p) (BasicBlock b) → ⊥) (successors_in z)) (sym same)
              (all-still (λ b. IsAncestor s (Operation p) (BasicBlock b) → ⊥)
              (λ b. IsAncestor t (Operation p) (BasicBlock b) → ⊥)
              (λ b f a. f (a.0, (climb-before a.0 (BasicBlock b) (Operation p) live a.1).1))
              (successors_of s u) k.successors);
        })

    -- and a symbol that could go can
    pub goes-still : (own : K → Bool) (is_private : OpView K A → Bool) → MayGo own is_private s p →
        MayGo own is_private t p
    goes-still own is_private h =
        (let same = thin.ops p live in record {
          name = h.name;
          named = record {
            symbol = subst (λ z. is_symbol_kind own (kind_in z) ≡ true) (sym same) h.named.symbol;
            name = subst (λ z. name_held z ≡ Some h.name) (sym same) h.named.name;
          };
          private = subst (λ z. is_private_in is_private z ≡ true) (sym same) h.private;
          unused = unused-still h.unused;
        })
