-- How many nodes there are from a node up: what the walks' own proofs go by, and no contract.
use Rattle.std.proofs.Common.{◌≡◌, ℕ, zero, suc, ◌+◌, ◌≤◌, ◌^◌, Option, Some, None, refl, sym, ap, subst, arith}
use Rattle.std.proofs.lemmas.Option.{none-some}
use Rattle.plir_core.specs.declared.ptr.IRNode.{IRNode}
use Rattle.plir_core.specs.Above.{climb}
use Rattle.plir_core.specs.Measures.{depth_from}
use Rattle.plir_core.specs.Forest.{Shape, IsForest}

-- more than any climb has steps
unfoldable pub deepest : ℕ
deepest = 2 ^ 40

pub deepest-is : deepest ≡ 2 ^ 40
unfolding deepest
deepest-is = refl

abbrev pub depth_in : Shape → IRNode → ℕ
depth_in s n = depth_from s.parent deepest (Some n)

-- where a climb has ended, one step more finds nothing
depth-more : {N : Type 0} (up : N → Option N) (k : ℕ) (o : Option N) → climb up k o ≡ None → depth_from up (suc k) o ≡
    depth_from up k o
depth-more up zero None e = refl
depth-more up zero (Some n) e = absurd (none-some n (sym e))
depth-more up (suc k) None e = refl
depth-more up (suc k) (Some n) e = ap suc (depth-more up k (up n) e)

depth-most : {N : Type 0} (up : N → Option N) (k : ℕ) (o : Option N) → depth_from up k o ≤ k
depth-most up zero o = omega arith
depth-most up (suc k) None = omega arith
depth-most up (suc k) (Some n) = (let p = depth-most up k (up n) in omega (arith, p))

-- a node stands one level deeper than its parent
pub deeper : (s : Shape) (f : IsForest s) (a x : IRNode) → s.parent x ≡ Some a → depth_in s x ≡ depth_in s a + 1
deeper s f a x e =
    let ends : climb s.parent deepest (Some x) ≡ None = subst
    (λ k. climb s.parent k (Some x) ≡ None) (sym deepest-is) (f.ends x) in
    let p : depth_from s.parent (suc deepest) (Some x) ≡ depth_in s x = depth-more s.parent deepest (Some x) ends in
    let q : depth_from s.parent (suc deepest) (Some x) ≡ suc (depth_in s a) = ap
    (λ o. suc (depth_from s.parent deepest o)) e in
    omega (arith, p, q)

pub bounded : (s : Shape) (x : IRNode) → depth_in s x ≤ deepest
bounded s x = depth-most s.parent deepest (Some x)
