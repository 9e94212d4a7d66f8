-- A node is moved, and what does not stand below it keeps what stands above it.
use Rattle.std.proofs.Common.{◌≡◌, ℕ, zero, suc, Option, Some, None, refl, sym, ◌∙◌, ap}
use Rattle.plir_core.specs.declared.ptr.IRNode.{IRNode}
use Rattle.plir_core.specs.declared.ptr.IRNode.TheVariants.{Operation, Region, BasicBlock}
use Rattle.plir_core.specs.Above.{climb, Reaches}
use Rattle.plir_core.specs.Nodes.{Nodes, is_node_live, node_parent}
use Rattle.plir_core.specs.Placed.{MovesOnly}
use Rattle.plir_store.specs.Table.{is_live_at}
use Rattle.plir_core.proofs.Trees.{climb_nothing}

-- Where c alone has come under another one, who does not stand below c climbs as before.
module _ {N : Type 0} (up up' : N → Option N) (c : N) (same : (m : N) → (m ≡ c → ⊥) → up' m ≡ up m) where
  climbs_same : (k : ℕ) (n : N) → (Reaches up n c → ⊥) → climb up' k (Some n) ≡ climb up k (Some n)
  climbs_same zero n away = refl
  climbs_same (suc k) n away = ap (climb up' k) (same n (λ q. away (zero, ap Some q)))
      ∙ from (λ m out. climbs_same k m out) (up n) refl
    where
      from : ((m : N) → (Reaches up m c → ⊥) → climb up' k (Some m) ≡ climb up k (Some m)) → (o : Option N) → up n ≡ o
          → climb up' k (up n) ≡ climb up k (up n)
      from ih None q = ap (climb up' k) q ∙ climb_nothing up' k ∙ sym (climb_nothing up k) ∙ ap (climb up k) (sym q)
      from ih (Some m) q =
          ap (climb up' k) q ∙ ih m (λ r. away (suc r.0, ap (climb up r.0) q ∙ r.1)) ∙ ap (climb up k) (sym q)

  pub still_apart : (n a : N) → (Reaches up n c → ⊥) → (Reaches up n a → ⊥) → Reaches up' n a → ⊥
  still_apart n a away apart r = apart (r.0, sym (climbs_same r.0 n away) ∙ r.1)

module _ {O B : Type 0} (s t : Nodes O B) (n : IRNode) (m : MovesOnly s t n) where
  pub moved_live : (x : IRNode) → is_node_live t x ≡ is_node_live s x
  moved_live (Operation p) = ap (λ z. is_live_at z p.slot p.version) m.ops
  moved_live (Region p) = ap (λ z. is_live_at z p.slot p.version) m.regions
  moved_live (BasicBlock p) = ap (λ z. is_live_at z p.slot p.version) m.blocks

  pub moved_apart : (x a : IRNode) → (Reaches (node_parent s) x n → ⊥) → (Reaches (node_parent s) x a → ⊥) →
      Reaches (node_parent t) x a → ⊥
  moved_apart x a = still_apart (node_parent s) (node_parent t) n m.parents x a

  -- what n does not stand above is another node, and has the parent that it had
  pub moved_other : (x : IRNode) → (Reaches (node_parent s) x n → ⊥) → node_parent t x ≡ node_parent s x
  moved_other x away = m.parents x (λ q. away (zero, ap Some q))
