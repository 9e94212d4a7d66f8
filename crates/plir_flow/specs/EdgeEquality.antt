-- When two edges are equal: when their ends are, and what flows and is read is, in order. Equal edges are the same. The
-- proofs stand beside the words, since the `impl` of the equality cites them.
use Rattle.std.proofs.Common.{◌≡◌, Bool, true, false, ◌&&◌, ap, refl}
use Rattle.std.specs.Prelude.{nat_eq}
use Rattle.std.specs.Bool.{Decides}
use Rattle.std.specs.Cmp.{IsEquivalence, decided, unsigned_Decides}
use Rattle.std.specs.Cmp.Lexicographic.{pointwise, pointwise_decides}
use Rattle.plir_core.specs.declared.uses.Use.{Use}
use Rattle.plir_core.specs.declared.value.Value.{Value}
use Rattle.plir_core.specs.SameValue.{same_ptr, same_value, both, ptr-exact, none, value-exact}
use Rattle.plir_flow.specs.RegionEdges.{EdgeView, Flow}
use Rattle.plir_flow.specs.declared.edge_ends.RegionBranchPoint.{RegionBranchPoint}
use Rattle.plir_flow.specs.declared.edge_ends.RegionBranchPoint.TheVariants.{Parent, Terminator}
use Rattle.plir_flow.specs.declared.edge_ends.RegionSuccessor.{RegionSuccessor}
use Rattle.plir_flow.specs.declared.edge_ends.RegionSuccessor.TheVariants.{Region as ToRegion, After}

abbrev pub same_use : Use Value → Use Value → Bool
same_use u v = same_ptr u.op v.op && nat_eq u.index v.index

abbrev pub same_flow : Flow → Flow → Bool
same_flow f g = same_use f.0 g.0 && same_value f.1 g.1

abbrev pub same_point : RegionBranchPoint → RegionBranchPoint → Bool
same_point Parent Parent = true
same_point (Terminator p) (Terminator q) = same_ptr p q
same_point Parent (Terminator q) = false
same_point (Terminator p) Parent = false

abbrev pub same_target : RegionSuccessor → RegionSuccessor → Bool
same_target (ToRegion p) (ToRegion q) = same_ptr p q
same_target After After = true
same_target (ToRegion p) After = false
same_target After (ToRegion q) = false

-- the ends are the same, and so is what flows and what is read
abbrev pub same_edge : EdgeView → EdgeView → Bool
same_edge d e = (same_point d.from e.from && same_target d.to e.to) &&
    (pointwise same_flow d.flows e.flows && pointwise same_use d.reads e.reads)

pub use-exact : (u v : Use Value) → Decides (same_use u v) (u ≡ v)
use-exact u v = both (same_ptr u.op v.op) (nat_eq u.index v.index) (ptr-exact u.op v.op)
    (unsigned_Decides u.index v.index)
    (λ e f. λ i. record { op = e i; index = f i; kind = record {} }) (λ e. ap (λ z. z.op) e) (λ e. ap (λ z. z.index) e)

pub flow-exact : (f g : Flow) → Decides (same_flow f g) (f ≡ g)
flow-exact f g = both (same_use f.0 g.0) (same_value f.1 g.1) (use-exact f.0 g.0) (value-exact f.1 g.1)
    (λ d e. λ i. (d i, e i)) (λ e. ap (λ z. z.0) e) (λ e. ap (λ z. z.1) e)

pub point-exact : (p q : RegionBranchPoint) → Decides (same_point p q) (p ≡ q)
point-exact Parent Parent = (λ h. refl, λ e. refl)
point-exact (Terminator p) (Terminator q) = (let d = ptr-exact p q in
    (λ h. ap Terminator (d.0 h), λ e. d.1 (let f : p ≡ q = cc in f)))
point-exact Parent (Terminator q) = none (λ e. cc)
point-exact (Terminator p) Parent = none (λ e. cc)

pub target-exact : (t u : RegionSuccessor) → Decides (same_target t u) (t ≡ u)
target-exact (ToRegion p) (ToRegion q) = (let d = ptr-exact p q in
    (λ h. ap ToRegion (d.0 h), λ e. d.1 (let f : p ≡ q = cc in f)))
target-exact After After = (λ h. refl, λ e. refl)
target-exact (ToRegion p) After = none (λ e. cc)
target-exact After (ToRegion q) = none (λ e. cc)

pub edge-exact : (d e : EdgeView) → Decides (same_edge d e) (d ≡ e)
edge-exact d e =
    let ends : Decides (same_point d.from e.from && same_target d.to e.to) ((d.from ≡ e.from) × (d.to ≡ e.to)) =
    both (same_point d.from e.from) (same_target d.to e.to) (point-exact d.from e.from) (target-exact d.to e.to)
    (λ p q. (p, q)) (λ r. r.0) (λ r. r.1) in
    let lists : Decides (pointwise same_flow d.flows e.flows && pointwise same_use d.reads e.reads)
    ((d.flows ≡ e.flows) × (d.reads ≡ e.reads)) =
    both (pointwise same_flow d.flows e.flows) (pointwise same_use d.reads e.reads)
    (pointwise_decides flow-exact d.flows e.flows) (pointwise_decides use-exact d.reads e.reads)
    (λ p q. (p, q)) (λ r. r.0) (λ r. r.1) in
    both (same_point d.from e.from && same_target d.to e.to)
    (pointwise same_flow d.flows e.flows && pointwise same_use d.reads e.reads) ends lists
    (λ p q. λ i. record { from = p.0 i; to = p.1 i; flows = q.0 i; reads = q.1 i })
    (λ r. (ap (λ z. z.from) r, ap (λ z. z.to) r)) (λ r. (ap (λ z. z.flows) r, ap (λ z. z.reads) r))

pub edge-equiv : IsEquivalence same_edge
edge-equiv = decided same_edge edge-exact
