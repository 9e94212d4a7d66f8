-- A node that was just made stands above nothing that was there.
use Rattle.std.proofs.Common.{◌≡◌, ℕ, zero, suc, true, false, Option, Some, None, refl, sym, ◌∙◌, subst}
use Rattle.std.proofs.lemmas.Option.{same_Some, none-some}
use Rattle.plir_core.specs.declared.ptr.IRNode.{IRNode}
use Rattle.plir_core.specs.Above.{climb, Reaches}
use Rattle.plir_core.specs.Nodes.{Nodes, is_node_live, node_parent}
use Rattle.plir_core.specs.Stored.{IsStored}
use Rattle.plir_core.specs.Made.{KeepsLive}
use Rattle.plir_core.proofs.Facts.{parent-live}

module _ {O B : Type 0} (s t : Nodes O B) (w : IsStored s) (kept : KeepsLive s t) where
  -- whatever stands above what was live was live
  climbs_live : (k : ℕ) (o : Option IRNode) (a : IRNode) → ((b : IRNode) → o ≡ Some b → is_node_live s b ≡ true) → climb
      (node_parent t) k o ≡ Some a → is_node_live s a ≡ true
  climbs_live zero o a live e = live a e
  climbs_live (suc k) None a live e = absurd (none-some a e)
  climbs_live (suc k) (Some n) a live e = climbs_live k (node_parent t n) a
      (λ b f. parent-live s w b n (sym (kept.parents n (live n refl)) ∙ f)) e

  -- what was not live stands above nothing that was
  pub apart_new : (n : IRNode) → is_node_live s n ≡ false → (m : IRNode) → is_node_live s m ≡ true → Reaches
      (node_parent t) m n → ⊥
  apart_new n dead m live r =
      let e = climbs_live r.0 (Some m) n (λ b f. subst (λ z. is_node_live s z ≡ true) (same_Some m b f) live) r.1 in
      let b : ⊥ = cc in
      b
