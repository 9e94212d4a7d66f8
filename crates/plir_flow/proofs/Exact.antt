-- Equality as it is derived tells different values apart.
use Rattle.std.proofs.Common.{◌≡◌, ◌&&◌, ap}
use Rattle.std.proofs.Math.Bool.{and-true}
use Rattle.std.specs.Prelude.{nat_eq}
use Rattle.std.specs.Bool.{Decides}
use Rattle.std.proofs.lemmas.Bool.Decides.{Decides-at}
use Rattle.plir_core.specs.declared.ptr.Ptr.{Ptr}
use Rattle.plir_core.specs.declared.ptr.Region.{Region as RegionKind}
use Rattle.plir_core.specs.SameValue.{same_ptr, ptr-exact}
use Rattle.plir_flow.specs.Hops.{same_region}

pub region-as-ptr : (p q : Ptr RegionKind) → same_region p q ≡ same_ptr p q
region-as-ptr p q = ap (λ v. nat_eq p.slot q.slot && v) (and-true (nat_eq p.version q.version))

pub same-region-exact : (p q : Ptr RegionKind) → Decides (same_region p q) (p ≡ q)
same-region-exact p q = Decides-at (same_region p q) (same_ptr p q) (region-as-ptr p q) (ptr-exact p q)
