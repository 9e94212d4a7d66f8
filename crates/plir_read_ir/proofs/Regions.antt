-- Regions that are added to an operation, and what comes below them.
use Rattle.std.proofs.Common.{◌≡◌, true, false, Bool, [], ◌∷◌, ◌++◌, Some, refl, sym, ap, ap₂, subst, ◌∙◌}
use Rattle.std.proofs.Common.{append-nil, flat_map}
use Rattle.std.proofs.lemmas.Grind.{flat_map-append}
use Rattle.std.proofs.lemmas.Option.{same_Some}
use Rattle.plir_core.specs.declared.ptr.Ptr.{Ptr}
use Rattle.plir_core.specs.declared.ptr.Operation.{Operation as OperationKind}
use Rattle.plir_core.specs.declared.ptr.Region.{Region as RegionKind}
use Rattle.plir_core.specs.declared.ptr.IRNode.{IRNode}
use Rattle.plir_core.specs.declared.ptr.IRNode.TheVariants.{Region}
use Rattle.plir_core.specs.Above.{Reaches}
use Rattle.plir_core.specs.Changes.{with_region}
use Rattle.plir_core.specs.ContextView.{ContextView, IsLive, is_live, given_out, children, parent_of}
use Rattle.plir_core.specs.Grown.{IsGrown}
use Rattle.plir_core.specs.Made.{IsRegionAdded}
use Rattle.plir_core.specs.Standing.{IsStanding}
use Rattle.plir_core.specs.Stored.{IsStored}
use Rattle.plir_attr_text.specs.Names.{Grows}
use Rattle.plir_attr_text.specs.laws.Growth.{Grows-itself}
use Rattle.plir_read.specs.Keeping.{KeepsBut}
use Rattle.plir_read.specs.Slots.{AreGivenOut, NodeSlots, IsGrownInOrder, below_in_order, kind_slots, node_slots}
use Rattle.plir_read.specs.Slots.{tree_in_order}
use Rattle.plir_read.specs.laws.Frames.{IsFrame, child_below, climb_on}
use Rattle.plir_read.specs.laws.Kept.{KeepsLive-on, KeepsBut-on}
use Rattle.plir_read.specs.laws.SlotLaws.{AreNext-append, kind_slots-with_new, new_is_next}
use Rattle.plir_read.specs.laws.TreesInOrder.{tree_is, trees_kept}

live_or_not : (b : Bool) → b ≡ true → b ≡ false → ⊥
live_or_not b p q = let z = sym p ∙ q in cc

-- From s to t the region r was added to o; from t to u nodes came below r.
module _ {K A T : Type 0} (s t u : ContextView K A T) (o r : IRNode) (a : IsRegionAdded s.nodes t.nodes o r) where
  pub not_the_region : (m : IRNode) → IsLive s m → m ≡ r → ⊥
  not_the_region m e q = live_or_not (is_live s m) e (ap (λ z. is_live s z) q ∙ a.added.new)

  parent_is : IsGrown t.nodes u.nodes r → parent_of u r ≡ Some o
  parent_is g = g.keeps.parents r a.added.added ∙ a.added.placed

  below_op : IsGrown t.nodes u.nodes r → (m : IRNode) → IsLive u m → is_live s m ≡ false → (b : Bool) →
      is_live t m ≡ b → Reaches (parent_of u) m o
  below_op g m e f true h =
      subst (λ z. Reaches (parent_of u) z o) (sym (a.added.only m h f)) (1, parent_is g)
  below_op g m e f false h = let below = g.below m e h in climb_on u below.0 (Some m) r o below.1 (1, parent_is g)

  given_or_not : (m : IRNode) → given_out t m ≡ false → (b : Bool) → given_out s m ≡ b → given_out s m ≡ false
  given_or_not m e true h = absurd (live_or_not (given_out t m) (a.added.keeps.given m h) e)
  given_or_not m e false h = h

  fresh_still : IsGrown t.nodes u.nodes r → (m : IRNode) → IsLive u m → is_live s m ≡ false → (b : Bool) →
      is_live t m ≡ b → given_out s m ≡ false
  fresh_still g m e f true h = ap (λ z. given_out s z) (a.added.only m h f) ∙ a.added.fresh
  fresh_still g m e f false h = given_or_not m (g.fresh m e h) (given_out s m) refl

  pub region_grown : IsGrown t.nodes u.nodes r → IsGrown s.nodes u.nodes o
  region_grown g = record {
    keeps = KeepsLive-on s t u a.added.keeps g.keeps;
    children = λ m e h. g.children m (a.added.keeps.live m e) (not_the_region m e) ∙
        a.added.children m e (λ q. h (sym (same_Some o m q)));
    below = λ m e f. below_op g m e f (is_live t m) refl;
    fresh = λ m e f. fresh_still g m e f (is_live t m) refl;
  }

  pub KeepsBut-added : t.types ≡ s.types → KeepsBut s t (Some o)
  KeepsBut-added e = record {
    keeps = a.added.keeps;
    children = λ m f h. a.added.children m f h;
    types = subst (Grows s.types) (sym e) (Grows-itself s.types);
  }

  -- where not all of that came
  pub region_kept : t.types ≡ s.types → KeepsBut t u (Some r) → KeepsBut s u (Some o)
  region_kept e k =
      KeepsBut-on s t u (Some o) (Some r) (λ m f h q. not_the_region m f (sym (same_Some r m q))) (KeepsBut-added e) k

  -- what is live and does not stand above o has the children that it had, and so have they
  beside : IsStanding s → IsLive s o → IsGrown t.nodes u.nodes r → Grows s.types u.types →
      IsFrame s u (λ m. IsLive s m × (Reaches (parent_of s) o m → ⊥))
  beside w live g types =
      let grown = region_grown g in
      record {
        same = λ m p. grown.children m p.0 (λ q. p.1 (0, ap (λ z. Some z) (sym q)));
        ops = λ p h. grown.keeps.ops p h.0;
        blocks = λ p h. grown.keeps.blocks p h.0;
        down = λ m x p h. (
          w.forest.child_live m x h,
          λ q. p.1 (climb_on s q.0 (Some o) x m q.1 (1, w.forest.child_parent m x h)),
        );
        types = types;
      }

  -- The nodes below o stay in the order of a text: from `first` to s they came so, then came the region, and then what
  -- is below that.
  pub region_in_order : (first : ContextView K A T) → IsStanding s → IsStanding u → IsLive s o → Grows s.types u.types →
      IsGrown t.nodes u.nodes r → AreGivenOut s.nodes (r ∷ []) t.nodes → IsGrownInOrder first.nodes s.nodes o →
      IsGrownInOrder t.nodes u.nodes r → IsGrownInOrder first.nodes u.nodes o
  region_in_order first w v live types g given front back =
      let grown = region_grown g in
      let now : children u o ≡ children s o ++ r ∷ [] =
      g.children o (a.added.keeps.live o live) (not_the_region o live) ∙ a.last in
      let older : flat_map (tree_in_order u.nodes) (children s o) ≡ below_in_order s.nodes o =
      trees_kept s u (λ m. IsLive s m × (Reaches (parent_of s) o m → ⊥)) (beside w live g types) grown.keeps.limit
      (children s o) (λ m h. (w.forest.child_live o m h, child_below s w o m h)) in
      let last : flat_map (tree_in_order u.nodes) (r ∷ []) ≡ r ∷ below_in_order u.nodes r =
      append-nil (tree_in_order u.nodes r) ∙ tree_is u v r in
      let all : below_in_order u.nodes o ≡ below_in_order s.nodes o ++ (r ∷ below_in_order u.nodes r) =
      ap (flat_map (tree_in_order u.nodes)) now ∙ flat_map-append (tree_in_order u.nodes) (children s o) (r ∷ []) ∙
      ap₂ (λ xs ys. xs ++ ys) older last in
      subst (λ ns. AreGivenOut first.nodes ns u.nodes) (sym all)
      (AreNext-append (node_slots first.nodes) (node_slots s.nodes) (node_slots u.nodes) (below_in_order s.nodes o)
      (r ∷ below_in_order u.nodes r) front
      (AreNext-append (node_slots s.nodes) (node_slots t.nodes) (node_slots u.nodes) (r ∷ [])
      (below_in_order u.nodes r) given back))

-- the slot of a region that is added
pub region_given : {K A T : Type 0} (s t : ContextView K A T) → IsStored s.nodes → (p : Ptr OperationKind)
    (r : Ptr RegionKind) → t ≡ with_region s p → is_live s (Region r) ≡ false → IsLive t (Region r) →
    AreGivenOut s.nodes (Region r ∷ []) t.nodes
region_given s t w p r e old new = (
  new_is_next s.nodes.regions (record {}) r w.region_slots old (subst (λ z. IsLive z (Region r)) e new),
  ap (λ z. node_slots z.nodes) e
      ∙ ap (λ k. let z : NodeSlots =
      record { ops = kind_slots s.nodes.ops; regions = k; blocks = kind_slots s.nodes.blocks } in z)
      (kind_slots-with_new s.nodes.regions (record {})),
)
