use Rattle.std.proofs.Common.{◌≡◌, ◌∙◌, ◌∷◌, [], ap, subst, sym}
use Rattle.std.proofs.lemmas.Result.{err_from_is_err_and}
use Rattle.plir_core.specs.Changes.{SameLive}
use Rattle.plir_copies.specs.Images.{AreImagesLive, images, no_images, over}
use Rattle.plir_copies.specs.Twins.{IsCopying, with_twins}
use Rattle.plir_copies.proofs.Finished.{IsCloned, all-live, begun, cloned, copies-once, copy-live, full-root, stands-alone}
use Rattle.plir_copies.proofs.Keeping.{images-same}
use Rattle.plir_copies.proofs.Refusals.{refused-as}
use Rattle.plir_copies.proofs.trees.clone_node_into.Given.{Over}
use Rattle.plir_copies.proofs.trees.clone_node_into.Goals.{In_ok-copy, After-as_slice, After-change_copies, After-erase_copy}
use Rattle.plir_copies.proofs.trees.clone_node_into.Goals as goal

-- the root alone has been copied
first : (g : Over) (c : In_ok-copy g) → IsCopying c.args.ctx.now c.copy_root.new.ctx c.args.node c.in_ok-copy.copy []
    (record { node = c.args.node; copy = c.in_ok-copy.copy } ∷ [])
first g c =
    let s = c.args.ctx.now in
    let stands = c.contexts_stand.ensures s c.stands.ensures.whole in
    let e = c.in_ok-copy.ensures in
    begun s c.copy_root.new.ctx c.args.node c.in_ok-copy.copy c.growth.ensures stands.forest stands.measured
    e.made e.types c.requires.live e.holds e.leaf e.come

-- and then all of the tree
whole : (g : Over) (c : After-as_slice g) → IsCopying c.args.ctx.now c.copy_root.new.ctx c.args.node c.in_ok-copy.copy []
    (record { node = c.args.node; copy = c.in_ok-copy.copy } ∷ [])
    → IsCopying c.args.ctx.now c.copy_and_map.new.ctx c.args.node c.in_ok-copy.copy c.as_slice.result.now []
whole g c begin =
    let s = c.args.ctx.now in
    subst (λ l. IsCopying s c.copy_and_map.new.ctx c.args.node c.in_ok-copy.copy l []) (sym c.as_slice.ensures.value)
    (c.in-Ok.ensures.ok s begin)

-- what the map holds then
mapped : (g : Over) (c : After-as_slice g) → images c.copy_and_map.new.map
    ≡ over (with_twins c.copy_and_map.new.ctx no_images c.as_slice.result.now) (images c.args.map.now)
mapped g c =
    c.in-Ok.ensures.mapped
    ∙ ap (λ l. over (with_twins c.copy_and_map.new.ctx no_images l) (images c.args.map.now)) (sym c.as_slice.ensures.value)

-- what is left then
left : (g : Over) (c : After-change_copies g)
    → IsCopying c.args.ctx.now c.copy_and_map.new.ctx c.args.node c.in_ok-copy.copy c.as_slice.result.now []
    → images c.copy_and_map.new.map
    ≡ over (with_twins c.copy_and_map.new.ctx no_images c.as_slice.result.now) (images c.args.map.now)
    → IsCloned c.args.ctx.now c.change_copies.new.ctx c.args.node c.in_ok-copy.copy (images c.args.map.now)
    (images c.copy_and_map.new.map)
left g c all is =
    cloned c.args.ctx.now c.copy_and_map.new.ctx c.args.node c.in_ok-copy.copy c.as_slice.result.now all
    c.change_copies.new.ctx (images c.args.map.now) (images c.copy_and_map.new.map) is c.change_copies.ensures.changed

-- behind a refusal nothing live has changed
same-live : (g : Over) (c : After-erase_copy g)
    → IsCopying c.args.ctx.now c.copy_root.new.ctx c.args.node c.in_ok-copy.copy []
    (record { node = c.args.node; copy = c.in_ok-copy.copy } ∷ []) → SameLive c.args.ctx.now c.erase_copy.new.ctx
same-live g c begin = record {
  nodes = c.growth.ensures.unmade c.copy_and_map.new.ctx.nodes c.erase_copy.new.ctx.nodes c.in_ok-copy.copy
      (c.in-Err.ensures.made c.args.ctx.now begin) c.erase_copy.ensures.tree;
  types = c.erase_copy.ensures.types ∙ c.in-Err.ensures.types ∙ c.in_ok-copy.ensures.types;
}

pub copy_and_map-requires : goal.copy_and_map-requires
copy_and_map-requires g c = (c.args.ctx.now, first g (goal.at.copy_and_map-requires g c).In_ok-copy)

pub change_copies-requires-clause-live : goal.change_copies-requires-clause-live
change_copies-requires-clause-live g c =
    let at = goal.at.change_copies-requires-clause-live g c in
    copy-live c.args.ctx.now c.copy_and_map.new.ctx c.args.node c.in_ok-copy.copy c.as_slice.result.now
    (whole g at.After-as_slice (first g at.In_ok-copy))

pub change_copies-requires-clause-once : goal.change_copies-requires-clause-once
change_copies-requires-clause-once g c =
    let at = goal.at.change_copies-requires-clause-once g c in
    copies-once c.args.ctx.now c.copy_and_map.new.ctx c.args.node c.in_ok-copy.copy c.as_slice.result.now
    (whole g at.After-as_slice (first g at.In_ok-copy))

pub change_copies-requires-clause-images_live : goal.change_copies-requires-clause-images_live
change_copies-requires-clause-images_live g c =
    let at = goal.at.change_copies-requires-clause-images_live g c in
    all-live c.args.ctx.now c.copy_and_map.new.ctx c.args.node c.in_ok-copy.copy c.as_slice.result.now
    (whole g at.After-as_slice (first g at.In_ok-copy)) (images c.args.map.now) (images c.copy_and_map.new.map)
    (mapped g at.After-as_slice) c.requires.images_live

pub erase_copy-requires-clause-live : goal.erase_copy-requires-clause-live
erase_copy-requires-clause-live g c =
    (c.in-Err.ensures.made c.args.ctx.now (first g (goal.at.erase_copy-requires-clause-live g c).In_ok-copy)).root

pub erase_copy-requires-clause-kind : goal.erase_copy-requires-clause-kind
erase_copy-requires-clause-kind g c =
    stands-alone c.args.node c.in_ok-copy.copy c.in_ok-copy.ensures.kind c.requires.kind

pub erase_copy-requires-clause-unused : goal.erase_copy-requires-clause-unused
erase_copy-requires-clause-unused g c =
    c.what_was_made_is_unused.ensures c.copy_and_map.new.ctx c.in_ok-copy.copy
    (c.in-Err.ensures.made c.args.ctx.now (first g (goal.at.erase_copy-requires-clause-unused g c).In_ok-copy))

pub returns-in_err-copy-clause-images_live : goal.returns-in_err-copy-clause-images_live
returns-in_err-copy-clause-images_live g c =
    images-same c.args.ctx.now c.copy_root.new.ctx (images c.args.map.now) c.in_err-copy.ensures.err
    c.requires.images_live

pub returns-in-Ok-clause-made : goal.returns-in-Ok-clause-made
returns-in-Ok-clause-made g c =
    let at = goal.at.returns-in-Ok-clause-made g c in
    (left g at.After-change_copies (whole g at.After-as_slice (first g at.In_ok-copy)) (mapped g at.After-as_slice)).made

pub returns-in-Ok-clause-copied : goal.returns-in-Ok-clause-copied
returns-in-Ok-clause-copied g c =
    let at = goal.at.returns-in-Ok-clause-copied g c in
    (left g at.After-change_copies (whole g at.After-as_slice (first g at.In_ok-copy)) (mapped g at.After-as_slice)).copied

pub returns-in-Ok-clause-types : goal.returns-in-Ok-clause-types
returns-in-Ok-clause-types g c =
    c.change_copies.ensures.changed.keeps.types ∙ c.in-Ok.ensures.types ∙ c.in_ok-copy.ensures.types

pub returns-in-Ok-clause-given : goal.returns-in-Ok-clause-given
returns-in-Ok-clause-given g c =
    let made = c.in-Ok.ensures.made c.args.ctx.now (first g (goal.at.returns-in-Ok-clause-given g c).In_ok-copy) in
    λ n h. c.change_copies.ensures.changed.keeps.given n ∙ made.keeps.given n h

pub returns-in-Err-clause-images_live : goal.returns-in-Err-clause-images_live
returns-in-Err-clause-images_live g c =
    let at = goal.at.returns-in-Err-clause-images_live g c in
    subst (AreImagesLive c.erase_copy.new.ctx) (sym c.in-Err.ensures.same_map)
    (images-same c.args.ctx.now c.erase_copy.new.ctx (images c.args.map.now)
    (same-live g at.After-erase_copy (first g at.In_ok-copy)) c.requires.images_live)

pub returns-in-Err-clause-types : goal.returns-in-Err-clause-types
returns-in-Err-clause-types g c =
    c.erase_copy.ensures.types ∙ c.in-Err.ensures.types ∙ c.in_ok-copy.ensures.types

pub returns-in-Err-clause-given : goal.returns-in-Err-clause-given
returns-in-Err-clause-given g c =
    let made = c.in-Err.ensures.made c.args.ctx.now (first g (goal.at.returns-in-Err-clause-given g c).In_ok-copy) in
    λ n h. c.erase_copy.ensures.tree.given n ∙ made.keeps.given n h

pub returns-in-Err-clause-err : goal.returns-in-Err-clause-err
returns-in-Err-clause-err g c =
    let at = goal.at.returns-in-Err-clause-err g c in same-live g at.After-erase_copy (first g at.In_ok-copy)

pub returns-in-Ok-clause-come : goal.returns-in-Ok-clause-come
returns-in-Ok-clause-come g c =
    let at = goal.at.returns-in-Ok-clause-come g c in
    (left g at.After-change_copies (whole g at.After-as_slice (first g at.In_ok-copy)) (mapped g at.After-as_slice)).come

pub returns-in_err-copy-clause-too_many_only : goal.returns-in_err-copy-clause-too_many_only
returns-in_err-copy-clause-too_many_only g c =
    let s = c.args.ctx.now in
    let stands = c.contexts_stand.ensures s c.stands.ensures.whole in
    let p = err_from_is_err_and c.from_residual.result c.from_residual.ensures.1 in
    rw (p.1, p.2) (λ e. full-root s c.args.node stands.forest stands.measured (c.in_err-copy.ensures.full e))

pub returns-in-Err-clause-too_many_only : goal.returns-in-Err-clause-too_many_only
returns-in-Err-clause-too_many_only g c =
    let at = goal.at.returns-in-Err-clause-too_many_only g c in
    λ x. c.in-Err.ensures.full (refused-as x) c.args.ctx.now (first g at.In_ok-copy)
