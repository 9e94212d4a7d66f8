use Rattle.std.proofs.Common.{◌≡◌, ℕ, zero, suc, List, [], ◌∷◌, ◌++◌, Some, slice_get, inl, inr, refl, sym, subst}
use Rattle.std.proofs.Common.{arith, ◌⊎◌}
use Rattle.plir_walk.specs.Lists.{Pairs}
use Rattle.plir_store.specs.Members.{Distinct, Has}
use Rattle.plir_walk.specs.Tree.{HasOnePlaceEach, IsUnder, NodeBefore, Tree}
use Rattle.plir_walk.specs.declared.config.WalkConfig.{WalkConfig}
use Rattle.plir_core.specs.declared.ptr.IRNode.{IRNode}
use Rattle.plir_store.specs.MemberLaws.{Has-append_cases, Has-append_left, Has-append_right}
use Rattle.plir_walk.proofs.Endings.{Told}
use Rattle.plir_walk.proofs.Groves.{Sib, flat, flat-pairs, flat-under, under-flat}
use Rattle.plir_walk.proofs.ListLemmas.{Pairs-cross, Pairs-left, Pairs-map}
use Rattle.plir_walk.proofs.Places.{one-place}

-- Called nodes ns, as far as they went: each node under r has one place, the called ones stand in the order of their
-- places, none twice, all under r, and a node under r that was not called comes after each that was.
pub record Visits (w : WalkConfig) (t : Tree) (r : IRNode) (ns : List IRNode) : Type 0 where
  pub one_place : HasOnePlaceEach t r
  pub increasing : Pairs (NodeBefore w t r) ns
  pub distinct : Distinct ns
  pub under_root : (n : IRNode) → Has ns n → IsUnder t r n
  pub none_left_out : (n : IRNode) → IsUnder t r n → Has ns n ⊎ ((m : IRNode) → Has ns m → NodeBefore w t r m n)

pub one-at : (r : IRNode) (i : ℕ) (c : IRNode) → slice_get (r ∷ []) i ≡ Some c → (i ≡ zero) × (r ≡ c)
one-at r zero c e = (refl, cc)
one-at r (suc i) c e = cc

-- under a single root, the order among siblings is the order under the root
pub Sib-one : (w : WalkConfig) (t : Tree) (r a b : IRNode) → Sib w t (r ∷ []) a b → NodeBefore w t r a b
Sib-one w t r a b h =
    let p = one-at r h.i h.c h.c_is in
    let q = one-at r h.j h.d h.d_is in
    record {
      place_a = h.p;
      place_b = h.q;
      at_a = rw p.1 h.a_at;
      at_b = rw q.1 h.b_at;
      before = elim h.before [ inl l ↦ absurd (omega (arith, p.0, q.0, l)) | inr e ↦ rw p.1 e.1 ];
    }

pub walk-told : (w : WalkConfig) (t : Tree) (r : IRNode) (ns : List IRNode) (P : Type 0) (base : Tree) → Distinct ns →
    Told w t r ns P base → Visits w t r ns
walk-told w t r ns P base d h =
    let all : Pairs (NodeBefore w t r) (flat h.grove) = Pairs-map (Sib w t (r ∷ [])) (NodeBefore w t r) (flat h.grove)
    (λ a b k. Sib-one w t r a b k)
    (subst (λ (v : List IRNode). Pairs (Sib w t v) (flat h.grove)) h.root (flat-pairs w t h.grove h.reads)) in
    let all' : Pairs (NodeBefore w t r) (ns ++ h.rest) = subst
    (λ (v : List IRNode). Pairs (NodeBefore w t r) v) h.told all in
    record {
      one_place = λ n p q e g. (one-place w t h.grove h.reads h.once r r n p q (subst (λ (v : List IRNode). Has v r)
          (sym h.root) (inl refl)) (subst (λ (v : List IRNode). Has v r) (sym h.root) (inl refl)) e g).1;
      increasing = Pairs-left (NodeBefore w t r) ns h.rest all';
      distinct = d;
      under_root = λ n k. told-under w t r ns P base h n (Has-append_left ns h.rest n k);
      none_left_out = λ n u. elim (Has-append_cases ns h.rest n (under-told w t r ns P base h n u)) [
        | inl k ↦ inl k
        | inr k ↦ inr (λ m z. Pairs-cross (NodeBefore w t r) ns h.rest all' m n z k)
      ];
    }
  where
    told-under : (w : WalkConfig) (t : Tree) (r : IRNode) (ns : List IRNode) (P : Type 0) (base : Tree)
        (h : Told w t r ns P base) (n : IRNode) → Has (ns ++ h.rest) n → IsUnder t r n
    told-under w t r ns P base h n k =
        let u = flat-under w t h.grove n h.reads (subst (λ (v : List IRNode). Has v n) (sym h.told) k) in
        elim (subst (λ (v : List IRNode). Has v u.0) h.root u.1) [
          | inl e ↦ subst (λ (v : IRNode). IsUnder t v n) (sym e)
              u.2
          | inr b ↦ absurd b
        ]

    under-told : (w : WalkConfig) (t : Tree) (r : IRNode) (ns : List IRNode) (P : Type 0) (base : Tree)
        (h : Told w t r ns P base) (n : IRNode) → IsUnder t r n → Has (ns ++ h.rest) n
    under-told w t r ns P base h n u = subst (λ (v : List IRNode). Has v n) h.told
        (under-flat w t h.grove r n u.0 h.reads (subst (λ (v : List IRNode). Has v r) (sym h.root) (inl refl)) u.1)

-- a node that is still to be called is under the root
pub due-under : (w : WalkConfig) (t : Tree) (r : IRNode) (ns : List IRNode) (P : Type 0) (base : Tree)
    (h : Told w t r ns P base) (n : IRNode) → Has h.rest n → IsUnder t r n
due-under w t r ns P base h n k =
    let u = flat-under w t h.grove n h.reads (subst (λ (v : List IRNode). Has v n) (sym h.told)
    (Has-append_right ns h.rest n k)) in
    elim (subst (λ (v : List IRNode). Has v u.0) h.root u.1) [
      | inl e ↦ subst (λ (v : IRNode). IsUnder t v n) (sym e) u.2
      | inr b ↦ absurd b
    ]

-- at the end of a walk each node under the root was called
pub all-called : (w : WalkConfig) (t : Tree) (r : IRNode) (ns : List IRNode) (P : Type 0) (base : Tree)
    (h : Told w t r ns P base) → h.rest ≡ [] → (n : IRNode) → IsUnder t r n → Has ns n
all-called w t r ns P base h e n u =
    elim (Has-append_cases ns h.rest n (subst (λ (v : List IRNode). Has v n) h.told
    (under-flat w t h.grove r n u.0 h.reads (subst (λ (v : List IRNode). Has v r) (sym h.root) (inl refl)) u.1))) [
      | inl k ↦ k
      | inr k ↦ absurd (subst (λ (v : List IRNode). Has v n) e k)
    ]

-- what holds of each node of the trees holds of each node under the root
pub under-base : (w : WalkConfig) (t : Tree) (r : IRNode) (ns : List IRNode) (P : Type 0) (base : Tree)
    (h : Told w t r ns P base) → P → (n : IRNode) → IsUnder t r n → t n ≡ base n
under-base w t r ns P base h p n u = h.at_base p n (under-flat w t h.grove r n u.0 h.reads
    (subst (λ (v : List IRNode). Has v r) (sym h.root) (inl refl)) u.1)
