use Rattle.std.proofs.Common.{◌≡◌, ◌∙◌, ap, sym, subst, refl, length}
use Rattle.std.specs.Prelude.{option_map}
use Rattle.plir_core.specs.Changes.{SameLive}
use Rattle.plir_core.specs.declared.ptr.IRNode.TheVariants.{Operation}
use Rattle.plir_core.specs.declared.value.DefiningEntity.TheVariants.{Op}
use Rattle.plir_core.specs.ContextView.{op_at, result_types_of, results_in}
use Rattle.plir_core.specs.Room.{one_op}
use Rattle.plir_core.specs.RoomLaws.{come_still}
use Rattle.plir_copies.specs.Images.{AreImagesLive, images}
use Rattle.plir_copies.specs.Copied.{with_operands_in}
use Rattle.plir_copies.proofs.Edits.{bare-results, bare-whole}
use Rattle.plir_copies.proofs.Images.{live-values}
use Rattle.plir_copies.proofs.Keeping.{images-edited, images-keep, images-same, made-edited}
use Rattle.plir_copies.proofs.copying.clone_op_into.Given.{Over}
use Rattle.plir_copies.proofs.copying.clone_op_into.Goals.{In_ok-copy, In-Ok, After-erase}
use Rattle.plir_copies.proofs.copying.clone_op_into.Goals as goal

-- the copy has the operation's results
same-results : (g : Over) (c : In_ok-copy g)
    → result_types_of c.copy_bare.new.ctx c.in_ok-copy.copy ≡ result_types_of c.copy_bare.new.ctx c.args.op
same-results g c =
    ap results_in c.in_ok-copy.ensures.held
    ∙ bare-results (images c.args.map.now) (op_at c.args.ctx.now c.args.op)
    ∙ ap results_in (sym (c.in_ok-copy.ensures.made.keeps.ops c.args.op c.requires.live))

-- what the map puts in place is live, the results of the copy too
results-live : (g : Over) (c : In-Ok g)
    → result_types_of c.copy_bare.new.ctx c.in_ok-copy.copy ≡ result_types_of c.copy_bare.new.ctx c.args.op
    → AreImagesLive c.copy_bare.new.ctx (images c.map_results_in_whole.new.map)
results-live g c same =
    let t = c.copy_bare.new.ctx in
    let m = images c.args.map.now in
    let made = c.in_ok-copy.ensures.made in
    subst (AreImagesLive t) (sym c.in-Ok.ensures.ok)
    (live-values t m (images-keep c.args.ctx.now t m made.keeps c.requires.images_live) (Op c.args.op) (Op c.in_ok-copy.copy)
    (length (result_types_of t c.args.op)) made.root (ap length (sym same)))

-- behind a refusal nothing live has changed
same-live : (g : Over) (c : After-erase g) → SameLive c.args.ctx.now c.erase.new.ctx
same-live g c = record {
  nodes = c.growth.ensures.unmade c.copy_bare.new.ctx.nodes c.erase.new.ctx.nodes (Operation c.in_ok-copy.copy)
      c.in_ok-copy.ensures.made c.erase.ensures.tree;
  types = ap (λ z. z.types) c.erase.ensures.after ∙ c.in_ok-copy.ensures.types;
}

pub map_results_in_whole-requires-clause-live : goal.map_results_in_whole-requires-clause-live
map_results_in_whole-requires-clause-live g c =
    c.in_ok-copy.ensures.made.keeps.live (Operation c.args.op) c.requires.live

pub map_results_in_whole-requires-clause-copy_live : goal.map_results_in_whole-requires-clause-copy_live
map_results_in_whole-requires-clause-copy_live g c = c.in_ok-copy.ensures.made.root

pub map_results_in_whole-requires-clause-same : goal.map_results_in_whole-requires-clause-same
map_results_in_whole-requires-clause-same g c =
    same-results g (goal.at.map_results_in_whole-requires-clause-same g c).In_ok-copy

pub change_operands-requires-clause-live : goal.change_operands-requires-clause-live
change_operands-requires-clause-live g c = c.in_ok-copy.ensures.made.root

pub change_operands-requires-clause-images_live : goal.change_operands-requires-clause-images_live
change_operands-requires-clause-images_live g c =
    let at = goal.at.change_operands-requires-clause-images_live g c in
    results-live g at.In-Ok (same-results g at.In_ok-copy)

pub erase-requires-clause-live : goal.erase-requires-clause-live
erase-requires-clause-live g c = c.in_ok-copy.ensures.made.root

pub erase-requires-clause-unused : goal.erase-requires-clause-unused
erase-requires-clause-unused g c =
    c.what_was_made_is_unused.ensures c.copy_bare.new.ctx (Operation c.in_ok-copy.copy) c.in_ok-copy.ensures.made

pub returns-in_err-copy-clause-images_live : goal.returns-in_err-copy-clause-images_live
returns-in_err-copy-clause-images_live g c =
    images-same c.args.ctx.now c.copy_bare.new.ctx (images c.args.map.now) c.in_err-copy.ensures.err
    c.requires.images_live

pub returns-in-Ok-clause-made : goal.returns-in-Ok-clause-made
returns-in-Ok-clause-made g c =
    let p = c.in_ok-copy.copy in
    made-edited c.args.ctx.now c.copy_bare.new.ctx c.change_operands.new.ctx (Operation p) p
    (with_operands_in (images c.map_results_in_whole.new.map)) c.in_ok-copy.ensures.made
    c.change_operands.ensures.edited c.in_ok-copy.ensures.made.new

pub returns-in-Ok-clause-held : goal.returns-in-Ok-clause-held
returns-in-Ok-clause-held g c =
    let m = images c.map_results_in_whole.new.map in
    let n = images c.args.map.now in
    c.change_operands.ensures.edited.held ∙ ap (option_map (with_operands_in m)) c.in_ok-copy.ensures.held
    ∙ bare-whole m n (sym (ap (λ k. k.block) c.in-Ok.ensures.ok)) (sym (ap (λ k. k.call) c.in-Ok.ensures.ok))
    (op_at c.args.ctx.now c.args.op)

pub returns-in-Ok-clause-leaf : goal.returns-in-Ok-clause-leaf
returns-in-Ok-clause-leaf g c =
    c.change_operands.ensures.edited.keeps.children (Operation c.in_ok-copy.copy) ∙ c.in_ok-copy.ensures.leaf

pub returns-in-Ok-clause-images_live : goal.returns-in-Ok-clause-images_live
returns-in-Ok-clause-images_live g c =
    let at = goal.at.returns-in-Ok-clause-images_live g c in
    let n = images c.map_results_in_whole.new.map in
    images-edited c.copy_bare.new.ctx c.change_operands.new.ctx c.in_ok-copy.copy (with_operands_in n)
    c.change_operands.ensures.edited (λ o. refl) n (results-live g at.In-Ok (same-results g at.In_ok-copy))

pub returns-in-Err-clause-images_live : goal.returns-in-Err-clause-images_live
returns-in-Err-clause-images_live g c =
    subst (AreImagesLive c.erase.new.ctx) (sym c.in-Err.ensures.err)
    (images-same c.args.ctx.now c.erase.new.ctx (images c.args.map.now)
    (same-live g (goal.at.returns-in-Err-clause-images_live g c).After-erase) c.requires.images_live)

pub returns-in-Err-clause-err : goal.returns-in-Err-clause-err
returns-in-Err-clause-err g c = same-live g (goal.at.returns-in-Err-clause-err g c).After-erase

pub returns-in-Ok-clause-come : goal.returns-in-Ok-clause-come
returns-in-Ok-clause-come g c =
    come_still c.args.ctx.now.nodes c.copy_bare.new.ctx.nodes c.change_operands.new.ctx.nodes
    one_op c.in_ok-copy.ensures.come c.change_operands.ensures.none_come
