use Rattle.std.proofs.Common.{◌∙◌, ap, sym, subst}
use Rattle.std.proofs.lemmas.Result.{err_from_is_err_and}
use Rattle.std.specs.Prelude.{option_map}
use Rattle.plir_data.specs.AttrLive.{HandlesLive}
use Rattle.plir_core.specs.declared.ptr.IRNode.TheVariants.{BasicBlock}
use Rattle.plir_core.specs.ContextView.{block_attributes_in}
use Rattle.plir_core.specs.Made.{IsMade}
use Rattle.plir_core.specs.Room.{one_block}
use Rattle.plir_core.specs.RoomLaws.{block_comes, block_full, come_still}
use Rattle.plir_copies.specs.BlockLaws.{labelled}
use Rattle.plir_copies.specs.Copied.{with_attributes}
use Rattle.plir_copies.proofs.Keeping.{made-block}
use Rattle.plir_copies.proofs.blocks.block_with.Given.{Over}
use Rattle.plir_copies.proofs.blocks.block_with.Goals.{After-set_attributes}
use Rattle.plir_copies.proofs.blocks.block_with.Goals as goal

-- the block with some of its attributes was made, too
still-made : (g : Over) (c : After-set_attributes g)
    → IsMade c.args.ctx.now.nodes c.set_attributes.new.ctx.nodes (BasicBlock c.in_ok-made.made)
still-made g c =
    let made = c.in_ok-made.ensures.made in
    let e = c.set_attributes.ensures.edited in
    made-block c.args.ctx.now c.new.new.ctx c.set_attributes.new.ctx (BasicBlock c.in_ok-made.made) c.in_ok-made.made
    (with_attributes e.0) made e.1 made.new

pub set_attributes-requires-clause-live : goal.set_attributes-requires-clause-live
set_attributes-requires-clause-live g c = c.in_ok-made.ensures.live

pub set_attributes-requires-clause-none : goal.set_attributes-requires-clause-none
set_attributes-requires-clause-none g c = ap block_attributes_in c.in_ok-made.ensures.held

pub set_attributes-requires-clause-handles : goal.set_attributes-requires-clause-handles
set_attributes-requires-clause-handles g c =
    subst (λ types. HandlesLive g.D.OpSet.attr_handles types c.args.attributes.now)
    (sym (ap (λ z. z.types) c.in_ok-made.ensures.ok)) c.requires.handles

pub returns-in-Ok-clause-made : goal.returns-in-Ok-clause-made
returns-in-Ok-clause-made g c = still-made g (goal.at.returns-in-Ok-clause-made g c).After-set_attributes

pub returns-in-Ok-clause-held : goal.returns-in-Ok-clause-held
returns-in-Ok-clause-held g c =
    let es = c.args.attributes.now in
    c.in-Ok.ensures.all.held ∙ ap (option_map (with_attributes es)) c.in_ok-made.ensures.held
    ∙ ap (labelled c.args.types.items es) c.in_ok-label.ensures

pub returns-in-Ok-clause-leaf : goal.returns-in-Ok-clause-leaf
returns-in-Ok-clause-leaf g c =
    c.in-Ok.ensures.all.keeps.children (BasicBlock c.in_ok-made.made) ∙ c.in_ok-made.ensures.empty

pub returns-in-Ok-clause-types : goal.returns-in-Ok-clause-types
returns-in-Ok-clause-types g c = c.in-Ok.ensures.all.keeps.types ∙ ap (λ z. z.types) c.in_ok-made.ensures.ok

pub returns-in-Ok-clause-given : goal.returns-in-Ok-clause-given
returns-in-Ok-clause-given g c = λ n h. c.in-Ok.ensures.all.keeps.given n ∙ c.in_ok-made.ensures.given n h

pub returns-in-Ok-clause-come : goal.returns-in-Ok-clause-come
returns-in-Ok-clause-come g c =
    let s = c.args.ctx.now in
    let t = c.new.new.ctx in
    come_still s.nodes t.nodes c.set_attributes.new.ctx.nodes one_block
    (block_comes s c.stands.ensures.whole.stored t _ c.in_ok-made.ensures.ok)
    c.set_attributes.ensures.none_come

pub returns-in_err-made-clause-full : goal.returns-in_err-made-clause-full
returns-in_err-made-clause-full g c =
    let p = err_from_is_err_and c.from_residual-in_err-made.result c.from_residual-in_err-made.ensures.1 in
    rw (p.1, p.2) (λ e. block_full c.args.ctx.now.nodes c.stands.ensures.whole.stored
    (c.in_err-made.ensures.too_many.0 e))

pub erase-requires-clause-live : goal.erase-requires-clause-live
erase-requires-clause-live g c =
    c.set_attributes.ensures.edited.1.keeps.live (BasicBlock c.in_ok-made.made) ∙ c.in_ok-made.ensures.live

pub erase-requires-clause-unused : goal.erase-requires-clause-unused
erase-requires-clause-unused g c =
    c.what_was_made_is_unused.ensures c.set_attributes.new.ctx (BasicBlock c.in_ok-made.made)
    (still-made g (goal.at.erase-requires-clause-unused g c).After-set_attributes)

pub returns-in-Err-clause-types : goal.returns-in-Err-clause-types
returns-in-Err-clause-types g c =
    ap (λ z. z.types) c.erase.ensures.after ∙ c.set_attributes.ensures.edited.1.keeps.types
    ∙ ap (λ z. z.types) c.in_ok-made.ensures.ok

pub returns-in-Err-clause-given : goal.returns-in-Err-clause-given
returns-in-Err-clause-given g c = λ n h.
    c.erase.ensures.tree.given n ∙ c.set_attributes.ensures.edited.1.keeps.given n ∙ c.in_ok-made.ensures.given n h

pub returns-in-Err-clause-err : goal.returns-in-Err-clause-err
returns-in-Err-clause-err g c = record {
  nodes = c.growth.ensures.unmade c.set_attributes.new.ctx.nodes c.erase.new.ctx.nodes (BasicBlock c.in_ok-made.made)
      (still-made g (goal.at.returns-in-Err-clause-err g c).After-set_attributes) c.erase.ensures.tree;
  types = ap (λ z. z.types) c.erase.ensures.after ∙ c.set_attributes.ensures.edited.1.keeps.types
      ∙ ap (λ z. z.types) c.in_ok-made.ensures.ok;
}
