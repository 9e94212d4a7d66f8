use Rattle.std.proofs.Common.{◌∙◌, ◌++◌, ◌∷◌, [], ap, subst, sym}
use Rattle.std.proofs.lemmas.Result.{err_from_is_err_and}
use Rattle.plir_store.specs.Members.{Has}
use Rattle.plir_core.specs.ContextView.{ContextView}
use Rattle.plir_copies.specs.Images.{images, no_images, over}
use Rattle.plir_copies.specs.Twins.{IsCopying, with_twins}
use Rattle.plir_copies.proofs.Finished.{copy-live, holds-same, node-live}
use Rattle.plir_copies.proofs.Refusals.{refused-as}
use Rattle.plir_copies.proofs.trees.copy_and_map.Given.{Over}
use Rattle.plir_copies.proofs.trees.copy_and_map.Goals.{In_ok-push}
use Rattle.plir_copies.proofs.trees.copy_and_map.Goals as goal

-- the list begins with the root alone
begins : (g : Over) (c : In_ok-push g) (s : ContextView g.row.D-Kind.Denot g.row.D-Attr.Denot g.row.D-Ty.Denot)
    → IsCopying s c.args.ctx.now c.args.root.node c.args.root.copy [] (c.args.root ∷ [])
    → IsCopying s c.args.ctx.now c.args.root.node c.args.root.copy [] c.push.new.self.items
begins g c s h =
    subst (IsCopying s c.args.ctx.now c.args.root.node c.args.root.copy [])
    (sym (c.in_ok-push.ensures.items ∙ ap (λ l. l ++ c.args.root ∷ []) c.new-twins.ensures.items)) h

pub copy_below-requires : goal.copy_below-requires
copy_below-requires g c = (
  c.requires.0,
  c.args.root.node,
  c.args.root.copy,
  begins g (goal.at.copy_below-requires g c).In_ok-push c.requires.0 c.requires.1,
)

pub map_twins-requires-clause-live : goal.map_twins-requires-clause-live
map_twins-requires-clause-live g c =
    let begun = begins g (goal.at.map_twins-requires-clause-live g c).In_ok-push c.requires.0 c.requires.1 in
    λ w m. node-live c.requires.0 c.copy_below.new.ctx c.args.root.node c.args.root.copy c.copy_below.new.twins.items
    (c.in_ok-copy_below.ensures.ok c.requires.0 c.args.root.node c.args.root.copy begun) w
    (subst (λ l. Has l w) c.as_slice.ensures.value m)

pub map_twins-requires-clause-copy_live : goal.map_twins-requires-clause-copy_live
map_twins-requires-clause-copy_live g c =
    let begun = begins g (goal.at.map_twins-requires-clause-copy_live g c).In_ok-push c.requires.0 c.requires.1 in
    λ w m. copy-live c.requires.0 c.copy_below.new.ctx c.args.root.node c.args.root.copy c.copy_below.new.twins.items
    (c.in_ok-copy_below.ensures.ok c.requires.0 c.args.root.node c.args.root.copy begun) w
    (subst (λ l. Has l w) c.as_slice.ensures.value m)

pub map_twins-requires-clause-same : goal.map_twins-requires-clause-same
map_twins-requires-clause-same g c =
    let begun = begins g (goal.at.map_twins-requires-clause-same g c).In_ok-push c.requires.0 c.requires.1 in
    λ w m. holds-same c.requires.0 c.copy_below.new.ctx c.args.root.node c.args.root.copy c.copy_below.new.twins.items
    (c.in_ok-copy_below.ensures.ok c.requires.0 c.args.root.node c.args.root.copy begun) w
    (subst (λ l. Has l w) c.as_slice.ensures.value m)

pub returns-clause-ok : goal.returns-clause-ok
returns-clause-ok g c =
    let begun = begins g (goal.at.returns-clause-ok g c).In_ok-push in
    λ s h. c.in_ok-copy_below.ensures.ok s c.args.root.node c.args.root.copy (begun s h)

pub returns-clause-mapped : goal.returns-clause-mapped
returns-clause-mapped g c =
    let u = c.copy_below.new.ctx in
    c.in_ok-extend.ensures.ok ∙ ap (λ z. over z (images c.args.map.now)) (c.in_ok-map_twins.ensures
    ∙ ap (λ m. with_twins u m c.as_slice.result.now) c.new-images.ensures ∙ ap (with_twins u no_images) c.as_slice.ensures.value)

pub returns-clause-made : goal.returns-clause-made
returns-clause-made g c =
    let begun = begins g (goal.at.returns-clause-made g c).In_ok-push in
    λ s h. c.in_ok-copy_below.ensures.made s c.args.root.node c.args.root.copy (begun s h)

pub returns-in_err-push-clause-made : goal.returns-in_err-push-clause-made
returns-in_err-push-clause-made g c = λ s h. h.made

pub returns-in_err-copy_below-clause-made : goal.returns-in_err-copy_below-clause-made
returns-in_err-copy_below-clause-made g c =
    let begun = begins g (goal.at.returns-in_err-copy_below-clause-made g c).In_ok-push in
    λ s h. c.in_err-copy_below.ensures.made s c.args.root.node c.args.root.copy (begun s h)

pub returns-in_err-map_twins-clause-made : goal.returns-in_err-map_twins-clause-made
returns-in_err-map_twins-clause-made g c =
    let begun = begins g (goal.at.returns-in_err-map_twins-clause-made g c).In_ok-push in
    λ s h. c.in_ok-copy_below.ensures.made s c.args.root.node c.args.root.copy (begun s h)

pub returns-in_err-extend-clause-made : goal.returns-in_err-extend-clause-made
returns-in_err-extend-clause-made g c =
    let begun = begins g (goal.at.returns-in_err-extend-clause-made g c).In_ok-push in
    λ s h. c.in_ok-copy_below.ensures.made s c.args.root.node c.args.root.copy (begun s h)

pub returns-in_err-copy_below-clause-full : goal.returns-in_err-copy_below-clause-full
returns-in_err-copy_below-clause-full g c =
    let begun = begins g (goal.at.returns-in_err-copy_below-clause-full g c).In_ok-push in
    let p = err_from_is_err_and c.from_residual-in_err-copy_below.result c.from_residual-in_err-copy_below.ensures.1 in
    rw (p.1, p.2) (λ e s h. c.in_err-copy_below.ensures.full (refused-as e) s c.args.root.node c.args.root.copy (begun s h))
