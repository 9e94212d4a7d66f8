use Rattle.std.proofs.Common.{◌∙◌, ap, sym, subst}
use Rattle.std.specs.Prelude.{option_map}
use Rattle.plir_data.specs.AttrLive.{HandlesLive}
use Rattle.plir_core.specs.declared.ptr.IRNode.TheVariants.{BasicBlock}
use Rattle.plir_core.specs.ContextView.{block_attributes_in}
use Rattle.plir_copies.specs.Copied.{with_attributes}
use Rattle.plir_arguments.proofs.NewBlocks.{made-block, labelled}
use Rattle.plir_arguments.proofs.blocks.block_with.Goals as goal

pub set_attributes-requires-clause-live : goal.set_attributes-requires-clause-live
set_attributes-requires-clause-live g c = c.in_ok-copy.ensures.live

pub set_attributes-requires-clause-none : goal.set_attributes-requires-clause-none
set_attributes-requires-clause-none g c = ap block_attributes_in c.in_ok-copy.ensures.held

pub set_attributes-requires-clause-handles : goal.set_attributes-requires-clause-handles
set_attributes-requires-clause-handles g c =
    let own = g.D.OpSet.attr_handles in
    subst (λ types. HandlesLive own types c.args.attributes.now) (sym (ap (λ z. z.types) c.in_ok-copy.ensures.ok))
    c.requires.handles

pub returns-in-Ok-clause-made : goal.returns-in-Ok-clause-made
returns-in-Ok-clause-made g c =
    let made = c.in_ok-copy.ensures.made in
    made-block c.args.ctx.now c.new.new.ctx c.set_attributes.new.ctx (BasicBlock c.in_ok-copy.copy) c.in_ok-copy.copy
    (with_attributes c.args.attributes.now) made c.in-Ok.ensures.all made.new

pub returns-in-Ok-clause-held : goal.returns-in-Ok-clause-held
returns-in-Ok-clause-held g c =
    let es = c.args.attributes.now in
    c.in-Ok.ensures.all.held ∙ ap (option_map (with_attributes es)) c.in_ok-copy.ensures.held
    ∙ ap (labelled c.args.types.items es) c.in_ok-label.ensures

pub returns-in-Ok-clause-leaf : goal.returns-in-Ok-clause-leaf
returns-in-Ok-clause-leaf g c =
    c.in-Ok.ensures.all.keeps.children (BasicBlock c.in_ok-copy.copy) ∙ c.in_ok-copy.ensures.empty

pub returns-in-Ok-clause-types : goal.returns-in-Ok-clause-types
returns-in-Ok-clause-types g c = c.in-Ok.ensures.all.keeps.types ∙ ap (λ z. z.types) c.in_ok-copy.ensures.ok

pub erase-requires-clause-live : goal.erase-requires-clause-live
erase-requires-clause-live g c =
    c.set_attributes.ensures.edited.1.keeps.live (BasicBlock c.in_ok-copy.copy) ∙ c.in_ok-copy.ensures.live

pub erase-requires-clause-unused : goal.erase-requires-clause-unused
erase-requires-clause-unused g c =
    let made = c.in_ok-copy.ensures.made in
    let e = c.set_attributes.ensures.edited in
    c.what_was_made_is_unused.ensures c.set_attributes.new.ctx (BasicBlock c.in_ok-copy.copy)
    (made-block c.args.ctx.now c.new.new.ctx c.set_attributes.new.ctx (BasicBlock c.in_ok-copy.copy) c.in_ok-copy.copy
    (with_attributes e.0) made e.1 made.new)

pub returns-in-Err-clause-types : goal.returns-in-Err-clause-types
returns-in-Err-clause-types g c =
    ap (λ z. z.types) c.erase.ensures.after ∙ c.set_attributes.ensures.edited.1.keeps.types
    ∙ ap (λ z. z.types) c.in_ok-copy.ensures.ok

pub returns-in-Err-clause-err : goal.returns-in-Err-clause-err
returns-in-Err-clause-err g c =
    let made = c.in_ok-copy.ensures.made in
    let e = c.set_attributes.ensures.edited in
    let u = c.set_attributes.new.ctx in record {
      nodes = c.growth.ensures.unmade u.nodes c.erase.new.ctx.nodes (BasicBlock c.in_ok-copy.copy)
          (made-block c.args.ctx.now c.new.new.ctx u (BasicBlock c.in_ok-copy.copy) c.in_ok-copy.copy
          (with_attributes e.0) made e.1 made.new) c.erase.ensures.tree;
      types = ap (λ z. z.types) c.erase.ensures.after ∙ e.1.keeps.types ∙ ap (λ z. z.types) c.in_ok-copy.ensures.ok;
    }
