-- What every whole context keeps of the nodes that stand in it.
use Rattle.std.proofs.Common.{◌≡◌, ℕ, suc, ◌+◌, ◌<◌, ◌≤◌, ◌^◌, List, [], ◌∷◌, map, length, Option, Some, None, inl, inr}
use Rattle.std.proofs.Common.{refl, ap, subst, arith}
use Rattle.plir_core.specs.declared.ptr.IRNode.{IRNode}
use Rattle.plir_core.specs.declared.ptr.IRNode.TheVariants.{Operation, Region, BasicBlock}
use Rattle.plir_store.specs.Members.{Has, Distinct}
use Rattle.plir_core.specs.Above.{climb}
use Rattle.plir_core.specs.Forest.{look, IsForest}
use Rattle.plir_core.specs.Measures.{depth_of}
use Rattle.plir_core.specs.Nodes.{node_children, node_parent}
use Rattle.plir_core.specs.Standing.{IsStanding}
use Rattle.plir_core.specs.ContextView.{ContextView, IsLive, parent_of, limit, num_live}
use Rattle.plir_core.specs.Stored.{Seat, seat_of, IsStored}
use Rattle.plir_core.specs.WellFormed.{IsWellFormed}
use Rattle.plir_core.proofs.Depths.{IsSeated, depth-child, depth-le, length-le_seated}
use Rattle.plir_core.proofs.Erased.{IsTree-stored}
use Rattle.plir_core.proofs.Trees.{depth-climb}
use Rattle.plir_core.proofs.Facts.{child-parent, child-live, parent-child, parent-live, children-once, live-given}
use Rattle.plir_core.proofs.Seats.{live_some, same_seat}

seats_of : (ns : List IRNode) (x : Seat) → Has (map seat_of ns) x → (n : IRNode) × Has ns n × (seat_of n ≡ x)
seats_of [] x h = absurd h
seats_of (n ∷ ns) x (inl e) = (n, inl refl, e)
seats_of (n ∷ ns) x (inr h) = (let r = seats_of ns x h in (r.0, inr r.1, r.2))

seats_apart : (ns : List IRNode) → ((a b : IRNode) → Has ns a → Has ns b → seat_of a ≡ seat_of b → a ≡ b) → Distinct ns
    → Distinct (map seat_of ns)
seats_apart [] one d = tt
seats_apart (n ∷ ns) one d = (
  λ h. (let r = seats_of ns (seat_of n) h in d.0 (subst (Has ns) (one r.0 n (inr r.1) (inl refl) r.2) r.1)),
  seats_apart ns (λ a b h i. one a b (inr h) (inr i)) d.1,
)

length_seats : (ns : List IRNode) → length (map seat_of ns) ≡ length ns
length_seats [] = refl
length_seats (n ∷ ns) = ap suc (length_seats ns)

module _ {K A T : Type 0} (s : ContextView K A T) where
  seated : (n : IRNode) → IsLive s n → IsSeated s.nodes (seat_of n)
  seated (Operation p) l = live_some s.nodes.ops p.slot p.version l
  seated (Region p) l = live_some s.nodes.regions p.slot p.version l
  seated (BasicBlock p) l = live_some s.nodes.blocks p.slot p.version l

  counted : (ns : List IRNode) → Distinct ns → ((n : IRNode) → Has ns n → IsLive s n) → length ns ≤ num_live s
  counted ns d live =
      let apart = seats_apart ns (λ a b h i e. same_seat s.nodes a b (live a h) (live b i) e) d in
      let most = length-le_seated (map seat_of ns) s.nodes apart
      (λ x h. (let r = seats_of ns x h in subst (IsSeated s.nodes) r.2 (seated r.0 (live r.0 r.1)))) in
      subst (λ z. z ≤ num_live s) (length_seats ns) most

  module _ (w : IsStored s.nodes) where
    -- no node stands deeper than the limit allows, so each climb ends
    climb-ends : (k : ℕ) → limit s + 1 < k → (x : IRNode) → climb (parent_of s) k (Some x) ≡ None
    climb-ends k more x = go (climb (parent_of s) k (Some x)) refl
      where
        go : (o : Option IRNode) → climb (parent_of s) k (Some x) ≡ o → o ≡ None
        go None e = refl
        go (Some a) e = absurd (let p = depth-climb (node_children s.nodes) (node_parent s.nodes) (depth_of s.nodes)
            (IsTree-stored s.nodes w) k x a e in let q = depth-le s.nodes w x in omega (arith, p, q, more))

    forest : IsForest (look s)
    forest = record {
      child_parent = child-parent s.nodes w;
      parent_child = parent-child s.nodes w;
      once = children-once s.nodes w;
      child_live = child-live s.nodes w;
      parent_live = parent-live s.nodes w;
      live_given = live-given s.nodes w;
      ends = climb-ends (2 ^ 40) (let p = w.limit_fits in omega (arith, p));
    }

  pub standing : (own : A → List ℕ) → IsWellFormed own s → IsStanding s
  standing own w = record {
    forest = forest w.stored;
    within = w.stored.within;
    limit_fits = w.stored.limit_fits;
    measured = record {
      deeper = depth-child s.nodes w.stored;
      deepest = depth-le s.nodes w.stored;
      counted = counted;
    };
  }
