-- When two pointers, what values come from, and two values are the same. The proofs that these tests are exact stand
-- beside them, since crates above cite them.
use Rattle.std.proofs.Common.{◌≡◌, Bool, false, ◌&&◌, ap}
use Rattle.std.specs.Prelude.{nat_eq}
use Rattle.std.specs.Bool.{Decides}
use Rattle.std.specs.Cmp.{unsigned_Decides, first_so, second_so}
use Rattle.plir_core.specs.declared.ptr.Ptr.{Ptr}
use Rattle.plir_core.specs.declared.value.Value.{Value}
use Rattle.plir_core.specs.declared.value.DefiningEntity.{DefiningEntity}
use Rattle.plir_core.specs.declared.value.DefiningEntity.TheVariants.{Op, Block}

-- whether two pointers have one slot and one version
abbrev pub same_ptr : {X : Type 0} → Ptr X → Ptr X → Bool
same_ptr p q = nat_eq p.slot q.slot && nat_eq p.version q.version

-- whether two values come from the same operation, or from the same block
abbrev pub same_entity : DefiningEntity → DefiningEntity → Bool
same_entity (Op p) (Op q) = same_ptr p q
same_entity (Block p) (Block q) = same_ptr p q
same_entity (Op p) (Block q) = false
same_entity (Block p) (Op q) = false

-- whether two values are the same: of one operation or block, at one place
abbrev pub same_value : Value → Value → Bool
same_value v w = same_entity v.entity w.entity && nat_eq v.index w.index

-- what two tests decide, they decide together
pub both : {P Q R : Type 0} (a b : Bool) → Decides a P → Decides b Q → (P → Q → R) → (R → P) → (R → Q) →
    Decides (a && b) R
both a b d e make left right = (
  λ h. make (d.0 (first_so a b h)) (e.0 (second_so a b h)),
  λ r. λ i. d.1 (left r) i && e.1 (right r) i,
)

pub ptr-exact : {X : Type 0} (p q : Ptr X) → Decides (same_ptr p q) (p ≡ q)
ptr-exact p q = both (nat_eq p.slot q.slot) (nat_eq p.version q.version) (unsigned_Decides p.slot q.slot)
    (unsigned_Decides p.version q.version)
    (λ e f. λ i. record { slot = e i; version = f i; kind = record {} }) (λ e. ap (λ z. z.slot) e)
    (λ e. ap (λ z. z.version) e)

-- no test holds
pub none : {P : Type 0} → (P → ⊥) → Decides false P
none n = (λ h. cc, λ p. absurd (n p))

pub entity-exact : (v w : DefiningEntity) → Decides (same_entity v w) (v ≡ w)
entity-exact (Op p) (Op q) = (let d = ptr-exact p q in (λ h. ap Op (d.0 h), λ e. d.1 (let f : p ≡ q = cc in f)))
entity-exact (Block p) (Block q) = (let d = ptr-exact p q in
    (λ h. ap Block (d.0 h), λ e. d.1 (let f : p ≡ q = cc in f)))
entity-exact (Op p) (Block q) = none (λ e. cc)
entity-exact (Block p) (Op q) = none (λ e. cc)

pub value-exact : (v w : Value) → Decides (same_value v w) (v ≡ w)
value-exact v w = both (same_entity v.entity w.entity) (nat_eq v.index w.index) (entity-exact v.entity w.entity)
    (unsigned_Decides v.index w.index)
    (λ e f. λ i. record { entity = e i; index = f i }) (λ e. ap (λ z. z.entity) e) (λ e. ap (λ z. z.index) e)
