use Rattle.std.proofs.Common.{◌≡◌, ◌∙◌, ◌-◌, ◌<◌, length, subst, sym}
use Rattle.std.proofs.lemmas.Result.{err_from_is_err_and}
use Rattle.std.specs.Prelude.{List}
use Rattle.plir_copies.specs.declared.trees.Twin.{Twin}
use Rattle.plir_core.specs.ContextView.{children}
use Rattle.plir_copies.proofs.Children.{AreSomeCopied, all-come, all-copied, child-under, fewer-left, full-here}
use Rattle.plir_copies.proofs.Children.{is-child, some-next, some-none}
use Rattle.plir_copies.proofs.Children.{under-alike}
use Rattle.plir_copies.proofs.Refusals.{refused-as}
use Rattle.plir_copies.proofs.trees.copy_children.Goals as goal

pub children-init : goal.children-init
children-init g c = record {
  some = some-none c.args.ctx.now c.args.node c.args.copy c.args.twins.now.items c.first_child-next.result
      (c.first_child-next.ensures.value ∙ c.first_child_is_front.ensures.front) c.requires.leaf
      c.stands.ensures.whole.stored;
  formed = c.stands.ensures.whole;
}

pub copy_child-requires-clause-live : goal.copy_child-requires-clause-live
copy_child-requires-clause-live g c =
    let s = c.args.ctx.now in
    let h = c.children.invariant.some in
    h.grown.keeps.live c.in-Some.child ((c.contexts_stand.ensures s c.stands.ensures.whole).forest.child_live c.args.node
    c.in-Some.child (is-child s c.args.node c.args.copy c.args.twins.now.items c.children.ctx c.children.twins.items
    c.children.next h c.in-Some.child c.in-Some.is))

pub copy_child-requires-clause-over_live : goal.copy_child-requires-clause-over_live
copy_child-requires-clause-over_live g c =
    c.children.invariant.some.grown.keeps.live c.args.copy c.requires.copy_live

pub copy_child-requires-clause-fits : goal.copy_child-requires-clause-fits
copy_child-requires-clause-fits g c =
    let s = c.args.ctx.now in
    under-alike c.in-Some.child c.args.node c.args.copy c.requires.kind (child-under s c.args.node c.in-Some.child
    (is-child s c.args.node c.args.copy c.args.twins.now.items c.children.ctx c.children.twins.items c.children.next
    c.children.invariant.some c.in-Some.child c.in-Some.is))

pub next_sibling-next-requires : goal.next_sibling-next-requires
next_sibling-next-requires g c =
    let s = c.args.ctx.now in
    let h = c.children.invariant.some in
    c.in_ok-made.ensures.grown.keeps.live c.in-Some.child (h.grown.keeps.live c.in-Some.child
    ((c.contexts_stand.ensures s c.stands.ensures.whole).forest.child_live c.args.node c.in-Some.child
    (is-child s c.args.node c.args.copy c.args.twins.now.items c.children.ctx c.children.twins.items c.children.next h
    c.in-Some.child c.in-Some.is)))

pub children-smaller : goal.children-smaller
children-smaller g c =
    let s = c.args.ctx.now in
    subst (λ (l : List Twin). length (children s c.args.node) - (length l - length c.args.twins.now.items)
    < length (children s c.args.node) - (length c.children.twins.items - length c.args.twins.now.items))
    (sym c.in_ok-push.ensures.items) (fewer-left s c.args.node c.args.copy c.args.twins.now.items
    c.children.ctx c.children.twins.items c.children.next c.children.invariant.some c.in-Some.child c.in_ok-made.made
    c.in-Some.is)

pub children-preserved : goal.children-preserved
children-preserved g c =
    let s = c.args.ctx.now in
    let t = c.children.ctx in
    let u = c.copy_child.new.ctx in
    let h = c.children.invariant.some in
    let e = c.in_ok-made.ensures in
    let same_t : children t c.args.node ≡ children s c.args.node =
    h.grown.children c.args.node c.requires.live c.requires.apart in
    let same_u : children u c.args.node ≡ children t c.args.node =
    e.grown.children c.args.node (h.grown.keeps.live c.args.node c.requires.live) c.requires.apart in
    let some = some-next s c.args.node c.args.copy c.args.twins.now.items t c.children.twins.items u c.growth.ensures
    (c.contexts_stand.ensures s c.stands.ensures.whole).forest c.requires.live c.requires.copy_live c.children.next h
    c.in-Some.child c.in_ok-made.made c.in-Some.is e.added e.holds e.grown e.types e.whole.stored e.come c.next_sibling-next.result
    (λ xs ys k. c.next_sibling-next.ensures.value ∙ c.next_is_behind.ensures c.args.node xs ys k) same_u same_t in
    record {
      some = subst (λ l. AreSomeCopied s u c.args.node c.args.copy c.args.twins.now.items l c.next_sibling-next.result)
          (sym c.in_ok-push.ensures.items) some;
      formed = e.whole;
    }

pub returns-clause-ok : goal.returns-clause-ok
returns-clause-ok g c =
    all-copied c.args.ctx.now c.args.node c.args.copy c.args.twins.now.items c.children.ctx c.children.twins.items
    c.children.next c.children.invariant.some c.in_default.is

pub returns-clause-types : goal.returns-clause-types
returns-clause-types g c = c.children.invariant.some.types

pub returns-clause-grown : goal.returns-clause-grown
returns-clause-grown g c = c.children.invariant.some.grown

pub returns-in_err-made-clause-types : goal.returns-in_err-made-clause-types
returns-in_err-made-clause-types g c = c.in_err-made.ensures.types ∙ c.children.invariant.some.types

pub returns-in_err-made-clause-grown : goal.returns-in_err-made-clause-grown
returns-in_err-made-clause-grown g c =
    c.growth.ensures.twice c.children.ctx.nodes c.copy_child.new.ctx.nodes c.args.copy
    c.children.invariant.some.stored c.children.invariant.some.grown c.in_err-made.ensures.grown

pub returns-in_err-push-clause-types : goal.returns-in_err-push-clause-types
returns-in_err-push-clause-types g c = c.in_ok-made.ensures.types ∙ c.children.invariant.some.types

pub returns-in_err-push-clause-grown : goal.returns-in_err-push-clause-grown
returns-in_err-push-clause-grown g c =
    c.growth.ensures.twice c.children.ctx.nodes c.copy_child.new.ctx.nodes c.args.copy
    c.children.invariant.some.stored c.children.invariant.some.grown c.in_ok-made.ensures.grown

pub returns-clause-come : goal.returns-clause-come
returns-clause-come g c =
    all-come c.args.ctx.now c.args.node c.args.copy c.args.twins.now.items c.children.ctx c.children.twins.items
    c.children.next c.children.invariant.some c.in_default.is

pub returns-in_err-made-clause-full : goal.returns-in_err-made-clause-full
returns-in_err-made-clause-full g c =
    let p = err_from_is_err_and c.from_residual.result c.from_residual.ensures.1 in
    rw (p.1, p.2) (λ e. full-here c.args.ctx.now c.args.node c.args.copy c.args.twins.now.items c.children.ctx
    c.children.twins.items c.children.next c.children.invariant.some c.in-Some.child c.in-Some.is
    (c.in_err-made.ensures.full (refused-as e)))
