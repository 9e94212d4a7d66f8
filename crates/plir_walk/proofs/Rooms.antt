-- What is thinned has the room that it had.
use Rattle.std.proofs.Common.{◌≡◌, ℕ, ◌-◌, ◌≤◌, ◌<◌, ◌^◌, ◌==◌, arith, Bool, true, false, cond}
use Rattle.std.proofs.Common.{List, [], ◌∷◌, length, length-set, inl, inr, refl, sym, ◌∙◌, subst}
use Rattle.plir_store.specs.Members.{Has}
use Rattle.plir_store.specs.Table.{Table, IsTable, without_slot, next_slot, slot_after, version_at}
use Rattle.plir_store.specs.Table.{MAX_VERSION}
use Rattle.plir_core.specs.Erase.{without_node, without_nodes}
use Rattle.plir_core.specs.Nodes.{Nodes, num_nodes}
use Rattle.plir_core.specs.Stored.{IsStored}
use Rattle.plir_core.specs.ContextView.{ContextView}
use Rattle.plir_core.specs.declared.ptr.IRNode.{IRNode}
use Rattle.plir_core.specs.declared.ptr.IRNode.TheVariants.{Operation, Region, BasicBlock}
use Rattle.plir_walk.specs.Thinned.{IsThinned, KeepsRoom}

-- From a table to another one there are as many slots, and no fewer of them are free.
record IsFreer {C : Type 0} (t u : Table C) : Type 0 where
  slots : length u.slots ≡ length t.slots
  free : length t.free ≤ length u.free

pushed : (b : Bool) (i : ℕ) (free : List ℕ) → length free ≤ length (cond b free (i ∷ free))
pushed true i free = omega arith
pushed false i free = omega arith

module _ {C : Type 0} where
  freer-none : (t : Table C) → IsFreer t t
  freer-none t = record { slots = refl; free = omega arith }

  freer-both : (t u v : Table C) → IsFreer t u → IsFreer u v → IsFreer t v
  freer-both t u v f g =
      record { slots = g.slots ∙ f.slots; free = (let a = f.free in let b = g.free in omega (arith, a, b)) }

  freer-freed : (t : Table C) (i : ℕ) → IsFreer t (without_slot t i)
  freer-freed t i = record {
    slots = length-set t.slots i _;
    free = pushed (version_at t i == MAX_VERSION) i t.free;
  }

-- where no fewer slots are free, the next one is no further off
nearer : (n : ℕ) (xs ys : List ℕ) → length xs ≤ length ys → ((y : ℕ) → Has ys y → y < 2 ^ 32 - 1)
    → 2 ^ 32 - 1 ≤ slot_after n ys → 2 ^ 32 - 1 ≤ slot_after n xs
nearer n [] [] l w h = h
nearer n xs (y ∷ ys) l w h = (let k = w y (inl refl) in absurd (omega (arith, h, k)))
nearer n (x ∷ xs) [] l w h = absurd (omega (arith, l))

module _ {C : Type 0} (t u : Table C) (f : IsFreer t u) (w : IsTable u) where
  next-nearer : 2 ^ 32 - 1 ≤ next_slot u → 2 ^ 32 - 1 ≤ next_slot t
  next-nearer h =
      nearer (length t.slots) t.free u.free f.free
      (λ y k. (let a = (w.free_slots y k).within in let b = w.num_slots in omega (arith, a, b)))
      (subst (λ z. 2 ^ 32 - 1 ≤ slot_after z u.free) f.slots h)

-- From nodes to others no fewer slots of each kind are free.
record AreFreer {O B : Type 0} (s t : Nodes O B) : Type 0 where
  ops : IsFreer s.ops t.ops
  regions : IsFreer s.regions t.regions
  blocks : IsFreer s.blocks t.blocks

module _ {O B : Type 0} where
  freer-node : (s : Nodes O B) (n : IRNode) → AreFreer s (without_node s n)
  freer-node s (Operation p) = record {
    ops = freer-freed s.ops p.slot;
    regions = freer-none s.regions;
    blocks = freer-none s.blocks;
  }
  freer-node s (Region p) = record {
    ops = freer-none s.ops;
    regions = freer-freed s.regions p.slot;
    blocks = freer-none s.blocks;
  }
  freer-node s (BasicBlock p) = record {
    ops = freer-none s.ops;
    regions = freer-none s.regions;
    blocks = freer-freed s.blocks p.slot;
  }

  freer-nodes : (s : Nodes O B) (ns : List IRNode) → AreFreer s (without_nodes s ns)
  freer-nodes s [] = record {
    ops = freer-none s.ops;
    regions = freer-none s.regions;
    blocks = freer-none s.blocks;
  }
  freer-nodes s (n ∷ ns) =
      let a = freer-node s n in
      let b = freer-nodes (without_node s n) ns in
      record {
        ops = freer-both s.ops _ _ a.ops b.ops;
        regions = freer-both s.regions _ _ a.regions b.regions;
        blocks = freer-both s.blocks _ _ a.blocks b.blocks;
      }

module _ {K A T : Type 0} (s t : ContextView K A T) (w : IsStored s.nodes) (w' : IsStored t.nodes) (f : IsThinned s t)
  where
    freer : AreFreer s.nodes t.nodes
    freer = subst (λ z. AreFreer s.nodes z.nodes) (sym f.after) (freer-nodes s.nodes f.gone)

    -- where the limit is reached it was reached
    reached : num_nodes t.nodes ≡ t.nodes.limit → num_nodes s.nodes ≡ s.nodes.limit
    reached e = (let a = w.within in let b = f.limit in let c = f.count in omega (arith, a, b, c, e))

    pub room-kept : KeepsRoom s t
    room-kept = record {
      op = λ k h. elim h [
        | inl e ↦ inl (let b = f.limit in let c = f.count in omega (arith, b, c, e))
        | inr (inl e) ↦ inr (inl (next-nearer s.nodes.ops t.nodes.ops freer.ops w'.op_slots e))
        | inr (inr e) ↦ inr (inr (let a = freer.regions.slots in let b = freer.regions.free in omega (arith, a, b, e)))
      ];
      block = λ h. elim h [
        | inl e ↦ inl (reached e)
        | inr e ↦ inr (next-nearer s.nodes.blocks t.nodes.blocks freer.blocks w'.block_slots e)
      ];
      region = λ h. elim h [
        | inl e ↦ inl (reached e)
        | inr e ↦ inr (next-nearer s.nodes.regions t.nodes.regions freer.regions w'.region_slots e)
      ];
    }
