use Rattle.std.proofs.Common.{◌≡◌, ◌∙◌, List, ap, arith, length, refl, subst, take, drop, Some, []}
use Rattle.std.proofs.lemmas.Result.{err_from_is_err_and}
use Rattle.std.specs.Prelude.{slice_get}
use Rattle.plir_copies.specs.declared.trees.Twin.{Twin}
use Rattle.plir_copies.specs.Twins.{IsCopying, IsTwin}
use Rattle.plir_copies.proofs.Below.{all-dropped, all-taken, bare-at, full-tree, refused, step, step-within, twin-at}
use Rattle.plir_copies.proofs.Below.{within-live}
use Rattle.plir_copies.proofs.Twins.{holds-kind, twin-apart}
use Rattle.plir_copies.proofs.trees.copy_below.Given.{Over}
use Rattle.plir_copies.proofs.trees.copy_below.Goals.{After-twin_at-twin}
use Rattle.plir_copies.proofs.trees.copy_below.Goals as goal

-- the node that comes next, with its copy
next : (g : Over) (c : After-twin_at-twin g) → slice_get c.nodes.twins.items c.nodes.done ≡ Some c.twin_at-twin.result
next g c =
    subst (λ (l : List Twin). slice_get l c.nodes.done ≡ Some c.twin_at-twin.result) c.as_slice.ensures.value
    c.twin_at-twin.ensures

next-twin : (g : Over) (c : After-twin_at-twin g) → IsTwin c.requires.0 c.nodes.ctx c.twin_at-twin.result
next-twin g c =
    twin-at c.requires.0 c.nodes.ctx c.requires.1 c.requires.2 c.nodes.twins.items c.nodes.done
    (c.nodes.invariant.copying c.requires.0 c.requires.1 c.requires.2 c.requires.3) c.twin_at-twin.result (next g c)

pub nodes-init : goal.nodes-init
nodes-init g c = record {
  within = omega arith;
  copying = λ s root copy h. h;
  types = refl;
  formed = c.stands.ensures.whole;
}

pub twin_at-twin-requires : goal.twin_at-twin-requires
twin_at-twin-requires g c =
    let e = ap (λ (l : List Twin). length l) c.as_slice.ensures.value in
    omega (arith, e, c.nodes-test.true, c.len.ensures)

pub copy_children-requires-clause-live : goal.copy_children-requires-clause-live
copy_children-requires-clause-live g c =
    let h = c.nodes.invariant.copying c.requires.0 c.requires.1 c.requires.2 c.requires.3 in
    h.made.keeps.live c.twin_at-twin.result.node
    (next-twin g (goal.at.copy_children-requires-clause-live g c).After-twin_at-twin).live

pub copy_children-requires-clause-copy_live : goal.copy_children-requires-clause-copy_live
copy_children-requires-clause-copy_live g c =
    (next-twin g (goal.at.copy_children-requires-clause-copy_live g c).After-twin_at-twin).copy_live

pub copy_children-requires-clause-kind : goal.copy_children-requires-clause-kind
copy_children-requires-clause-kind g c =
    holds-kind c.requires.0 c.nodes.ctx c.twin_at-twin.result.node c.twin_at-twin.result.copy
    (next-twin g (goal.at.copy_children-requires-clause-kind g c).After-twin_at-twin).holds

pub copy_children-requires-clause-apart : goal.copy_children-requires-clause-apart
copy_children-requires-clause-apart g c =
    twin-apart c.requires.0 c.nodes.ctx c.twin_at-twin.result
    (next-twin g (goal.at.copy_children-requires-clause-apart g c).After-twin_at-twin)

pub copy_children-requires-clause-leaf : goal.copy_children-requires-clause-leaf
copy_children-requires-clause-leaf g c =
    bare-at c.requires.0 c.nodes.ctx c.requires.1 c.requires.2 c.nodes.twins.items c.nodes.done
    (c.nodes.invariant.copying c.requires.0 c.requires.1 c.requires.2 c.requires.3) c.twin_at-twin.result
    (next g (goal.at.copy_children-requires-clause-leaf g c).After-twin_at-twin)

pub returns-in_err-copy_children-clause-made : goal.returns-in_err-copy_children-clause-made
returns-in_err-copy_children-clause-made g c =
    let at = next g (goal.at.returns-in_err-copy_children-clause-made g c).After-twin_at-twin in
    λ s root copy x. refused s c.nodes.ctx root copy c.nodes.twins.items c.nodes.done
    (c.nodes.invariant.copying s root copy x) c.copy_children.new.ctx c.twin_at-twin.result at
    c.nodes.invariant.formed.stored c.in_err-copy_children.ensures.grown

pub nodes-smaller : goal.nodes-smaller
nodes-smaller g c =
    let bound = within-live c.requires.0 c.nodes.ctx c.requires.1 c.requires.2 c.nodes.twins.items c.nodes.done
    (c.nodes.invariant.copying c.requires.0 c.requires.1 c.requires.2 c.requires.3) c.args.ctx.now
    (c.contexts_stand.ensures c.args.ctx.now c.stands.ensures.whole).measured c.requires.3.made.keeps.live in
    omega (arith, bound, c.nodes-test.true, c.len.ensures)

pub nodes-preserved : goal.nodes-preserved
nodes-preserved g c =
    let t = c.nodes.ctx in
    let k = c.nodes.done in
    let ws = c.nodes.twins.items in
    let w = c.twin_at-twin.result in
    let u = c.copy_children.new.ctx in
    let now = c.copy_children.new.twins.items in
    let e = c.in_ok-copy_children.ensures in
    let copying = c.nodes.invariant.copying in
    let at = next g (goal.at.nodes-preserved g c).After-twin_at-twin in
    record {
      within = step-within c.requires.0 t c.requires.1 c.requires.2 ws k
          (copying c.requires.0 c.requires.1 c.requires.2 c.requires.3) t u now w at e.ok;
      copying = λ s root copy x. step s t root copy ws k (copying s root copy x) u now w at
          c.nodes.invariant.formed.stored (c.contexts_stand.ensures u e.whole).forest e.grown e.types e.come e.ok;
      types = e.types ∙ c.nodes.invariant.types;
      formed = e.whole;
    }

pub returns-clause-ok : goal.returns-clause-ok
returns-clause-ok g c =
    let t = c.nodes.ctx in
    let k = c.nodes.done in
    let ws = c.nodes.twins.items in
    let all : k ≡ length ws = omega (arith, c.nodes.invariant.within, c.nodes-test.false, c.len.ensures) in
    λ s root copy x.
    subst (λ l. IsCopying s t root copy l []) (ap (λ n. take n ws) all ∙ all-taken ws)
    (subst (λ l. IsCopying s t root copy (take k ws) l) (ap (λ n. drop n ws) all ∙ all-dropped ws)
    (c.nodes.invariant.copying s root copy x))

pub returns-clause-made : goal.returns-clause-made
returns-clause-made g c =
    λ s root copy x. (c.nodes.invariant.copying s root copy x).made

pub returns-in_err-copy_children-clause-full : goal.returns-in_err-copy_children-clause-full
returns-in_err-copy_children-clause-full g c =
    let at = next g (goal.at.returns-in_err-copy_children-clause-full g c).After-twin_at-twin in
    let p = err_from_is_err_and c.from_residual.result c.from_residual.ensures.1 in
    rw (p.1, p.2) (λ e s root copy x. full-tree s c.nodes.ctx root copy c.nodes.twins.items c.nodes.done
    (c.nodes.invariant.copying s root copy x) c.twin_at-twin.result at (c.in_err-copy_children.ensures.full e))
