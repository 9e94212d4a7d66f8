-- The order of pointers, and maps by them.
use Rattle.std.proofs.Common.{◌≡◌, Bool, true, false, true≢false, cond, Some, refl, sym, ap, subst, ◌∙◌}
use Rattle.std.specs.Ordering.{nat_cmp, ordering_then, eq_by_cmp, is_eq}
use Rattle.std.specs.declared.cmp.Ordering.{Ordering}
use Rattle.std.specs.declared.cmp.Ordering.TheVariants.{Less, Equal, Greater}
use Rattle.std.specs.Cmp.{IsTotalOrder, eq_by_cmp_equiv}
use Rattle.std.specs.FinMap.{get, insert, IsAntisymmetric, same_map, get-insert, nat_cmp-IsAntisymmetric}
use Rattle.std.proofs.lemmas.Cmp.{nat_cmp_total, then_total, on_total}
use Rattle.plir_core.specs.declared.ptr.Ptr.{Ptr}
use Rattle.plir_core.specs.declared.ptr.Operation.{Operation as OperationKind}
use Rattle.plir_builtin.specs.Maps.{ptr_cmp}
use Rattle.plir_builtin.specs.Table.{Table, Tables}

pub ptr_total : IsTotalOrder ptr_cmp
ptr_total =
    then_total (on_total (λ (p : Ptr OperationKind). p.slot) nat_cmp_total)
    (on_total (λ (p : Ptr OperationKind). p.version) nat_cmp_total)

pub ptr_one : IsAntisymmetric ptr_cmp
ptr_one p q e =
    elim (nat_cmp p.slot
    q.slot) as (λ r. nat_cmp p.slot q.slot ≡ r → ordering_then r (nat_cmp p.version q.version) ≡ Equal → p ≡ q) [
      | Less ↦ λ a b. cc
      | Equal ↦ λ a b. let x = nat_cmp-IsAntisymmetric p.slot q.slot a in
          let y = nat_cmp-IsAntisymmetric p.version q.version b in
          λ i. record { slot = x i; version = y i; kind = record {} }
      | Greater ↦ λ a b. cc
    ] refl e

tied : (o : Ordering) → is_eq o ≡ true → o ≡ Equal
tied Less e = absurd (true≢false (sym e))
tied Equal e = refl
tied Greater e = absurd (true≢false (sym e))

-- pointers are equal exactly if they tie
pub ptr_same : (p q : Ptr OperationKind) → eq_by_cmp ptr_cmp p q ≡ true → p ≡ q
ptr_same p q e = ptr_one p q (tied (ptr_cmp p q) e)

pub ptr_reflects : (p q : Ptr OperationKind) → p ≡ q → eq_by_cmp ptr_cmp p q ≡ true
ptr_reflects p q e = subst (λ z. eq_by_cmp ptr_cmp p z ≡ true) e ((eq_by_cmp_equiv ptr_total).refl p)

-- what a map has at a key that is put in, and at another; what it has, put in once more, changes nothing
pub get-put : (c : Tables) (p : Ptr OperationKind) (t : Table) → get (insert c p t) p ≡ Some t
get-put c p t =
    get-insert ptr_total c p t p ∙ ap (λ b. cond b (Some t) (get c p)) (ptr_reflects p p refl)

pub get-other : (c : Tables) (p q : Ptr OperationKind) (t : Table) → eq_by_cmp ptr_cmp q p ≡ false →
    get (insert c p t) q ≡ get c q
get-other c p q t e = get-insert ptr_total c p t q ∙ ap (λ b. cond b (Some t) (get c q)) e

pub insert-has : (c : Tables) (p : Ptr OperationKind) (t : Table) → get c p ≡ Some t → insert c p t ≡ c
insert-has c p t e =
    same_map ptr_total ptr_one _ _ (λ q. get-insert ptr_total c p t q ∙ at q (eq_by_cmp ptr_cmp q p) refl)
  where
    at : (q : Ptr OperationKind) (b : Bool) → eq_by_cmp ptr_cmp q p ≡ b → cond b (Some t) (get c q) ≡ get c q
    at q true same = sym e ∙ ap (get c) (sym (ptr_same q p same))
    at q false same = refl
