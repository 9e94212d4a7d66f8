-- Room for the nodes of lists and trees.
use Rattle.std.proofs.Common.{◌≡◌, ℕ, ◌+◌, ◌≤◌, List, [], ◌∷◌, ◌++◌, inl, inr, refl, sym, ap, subst, ◌∙◌, arith}
use Rattle.plir_store.specs.Members.{Has, Distinct}
use Rattle.plir_store.specs.MemberLaws.{Has-append_cases, Has-append_left, Has-append_right, Has-split}
use Rattle.plir_core.specs.declared.ptr.IRNode.{IRNode}
use Rattle.plir_core.specs.declared.ptr.IRNode.TheVariants.{Operation, Region, BasicBlock}
use Rattle.plir_core.specs.Nodes.{Nodes}
use Rattle.plir_core.specs.Room.{NodeCount, together, IsFullFor, HaveCome}
use Rattle.plir_core.specs.RoomLaws.{IsAtMost, none_together, together_assoc, full_more, full_before, come_on}
use Rattle.plir_copies.specs.Room.{one_like, count_of}

-- as many of each kind
pub as_many : (c d : NodeCount) → IsAtMost c d → IsAtMost d c → c ≡ d
as_many c d h k =
    let x : c.ops ≡ d.ops = omega (arith, h.ops, k.ops) in
    let y : c.regions ≡ d.regions = omega (arith, h.regions, k.regions) in
    let z : c.blocks ≡ d.blocks = omega (arith, h.blocks, k.blocks) in
    λ i. record { ops = x i; regions = y i; blocks = z i }

pub count_append : (ms ns : List IRNode) → count_of (ms ++ ns) ≡ together (count_of ms) (count_of ns)
count_append [] ns = sym (none_together (count_of ns))
count_append (m ∷ ms) ns =
    ap (λ c. together (one_like m) c) (count_append ms ns) ∙ sym (together_assoc (one_like m) (count_of ms) (count_of ns))

pub count_one : (n : IRNode) → count_of (n ∷ []) ≡ one_like n
count_one (Operation p) = refl
count_one (Region p) = refl
count_one (BasicBlock p) = refl

-- one more on both sides
one_put : (b c d e : NodeCount) → IsAtMost c (together d e) → IsAtMost (together b c) (together d (together b e))
one_put b c d e h = record {
  ops = omega (arith, h.ops);
  regions = omega (arith, h.regions);
  blocks = omega (arith, h.blocks);
}

-- some of three
two_of_three : (b c d : NodeCount) → IsAtMost (together b c) (together b (together c d))
two_of_three b c d = record { ops = omega arith; regions = omega arith; blocks = omega arith }

-- different nodes that all stand in a list are no more of any kind than stand there
pub count_within : (ns ms : List IRNode) → Distinct ns → ((n : IRNode) → Has ns n → Has ms n)
    → IsAtMost (count_of ns) (count_of ms)
count_within [] ms d h = record { ops = omega arith; regions = omega arith; blocks = omega arith }
count_within (n ∷ ns) ms d h =
    let r = Has-split ms n (h n (inl refl)) in
    let others : (x : IRNode) → Has ns x → Has (r.0 ++ r.1) x = λ x k.
    elim (Has-append_cases r.0 (n ∷ r.1) x (subst (λ l. Has l x) r.2 (h x (inr k)))) [
      | inl a ↦ Has-append_left r.0 r.1 x a
      | inr b ↦ elim b [
        | inl e ↦ absurd (d.0 (subst (Has ns) (sym e) k))
        | inr a ↦ Has-append_right r.0 r.1 x a
      ]
    ] in
    let rest = subst (IsAtMost (count_of ns)) (count_append r.0 r.1) (count_within ns (r.0 ++ r.1) d.1 others) in
    subst (IsAtMost (together (one_like n) (count_of ns))) (sym (ap count_of r.2 ∙ count_append r.0 (n ∷ r.1)))
    (one_put (one_like n) (count_of ns) (count_of r.0) (count_of r.1) rest)

module _ {O B : Type 0} where
  -- what has no room once the first of a list have come has none with them before
  pub full_part : (s t : Nodes O B) (ms ns : List IRNode) (n : IRNode) → HaveCome s t (count_of ms)
      → IsFullFor t (one_like n) → IsFullFor s (count_of (ms ++ n ∷ ns))
  full_part s t ms ns n h full =
      subst (IsFullFor s) (sym (count_append ms (n ∷ ns))) (full_more s (together (count_of ms) (one_like n))
      (together (count_of ms) (together (one_like n) (count_of ns))) (two_of_three (count_of ms) (one_like n) (count_of ns))
      (full_before s t (count_of ms) (one_like n) h full))

  -- those of two lists, one after the other
  pub come_both : (s t u : Nodes O B) (ms ns : List IRNode) → HaveCome s t (count_of ms) → HaveCome t u (count_of ns)
      → HaveCome s u (count_of (ms ++ ns))
  come_both s t u ms ns h k =
      subst (HaveCome s u) (sym (count_append ms ns)) (come_on s t u (count_of ms) (count_of ns) h k)

  pub come_one : (s t : Nodes O B) (n : IRNode) → HaveCome s t (one_like n) → HaveCome s t (count_of (n ∷ []))
  come_one s t n h = subst (HaveCome s t) (sym (count_one n)) h
