use Rattle.std.proofs.Common.{◌∙◌, ◌++◌, ◌∷◌, [], ap}
use Rattle.plir_store.specs.Table.{content_at}
use Rattle.plir_core.specs.ContextView.{children}
use Rattle.plir_core.specs.declared.ptr.IRNode.TheVariants.{BasicBlock, Region}
use Rattle.plir_core.specs.Room.{one_block}
use Rattle.plir_core.specs.RoomLaws.{come_moved}
use Rattle.plir_copies.proofs.Adding.{added-last}
use Rattle.plir_copies.proofs.Children.{grown-same}
use Rattle.plir_copies.proofs.trees.copy_block_to.Goals as goal

pub insert_at_back-requires-clause-live : goal.insert_at_back-requires-clause-live
insert_at_back-requires-clause-live g c = c.in_ok-copy.ensures.made.root

pub insert_at_back-requires-clause-target_live : goal.insert_at_back-requires-clause-target_live
insert_at_back-requires-clause-target_live g c =
    c.in_ok-copy.ensures.made.keeps.live (Region c.args.region) c.requires.region_live

pub insert_at_back-requires-clause-unlinked : goal.insert_at_back-requires-clause-unlinked
insert_at_back-requires-clause-unlinked g c = c.in_ok-copy.ensures.made.top

pub insert_at_back-requires-clause-not_above : goal.insert_at_back-requires-clause-not_above
insert_at_back-requires-clause-not_above g c =
    c.in_ok-copy.ensures.made.apart (Region c.args.region) c.requires.region_live

pub returns-clause-added : goal.returns-clause-added
returns-clause-added g c =
    added-last c.args.ctx.now.nodes c.copy_block.new.ctx.nodes c.insert_at_back.new.ctx.nodes (BasicBlock c.in_ok-copy.copy)
    (Region c.args.region) c.growth.ensures c.in_ok-copy.ensures.made c.in_ok-copy.ensures.leaf
    c.nothing_stands_below_a_leaf.ensures c.requires.region_live c.insert_at_back.ensures.placed

pub returns-clause-holds : goal.returns-clause-holds
returns-clause-holds g c =
    ap (λ z. content_at z c.in_ok-copy.copy.slot) c.insert_at_back.ensures.placed.moved.blocks
    ∙ c.in_ok-copy.ensures.held

pub returns-clause-types : goal.returns-clause-types
returns-clause-types g c = ap (λ z. z.types) c.insert_at_back.ensures.after ∙ c.in_ok-copy.ensures.types

pub returns-clause-grown : goal.returns-clause-grown
returns-clause-grown g c =
    c.growth.ensures.placed c.copy_block.new.ctx.nodes c.insert_at_back.new.ctx.nodes (BasicBlock c.in_ok-copy.copy)
    (Region c.args.region) (children c.copy_block.new.ctx (Region c.args.region) ++ BasicBlock c.in_ok-copy.copy ∷ [])
    c.in_ok-copy.ensures.made c.insert_at_back.ensures.placed

pub returns-in_err-copy-clause-types : goal.returns-in_err-copy-clause-types
returns-in_err-copy-clause-types g c = c.in_err-copy.ensures.err.types

pub returns-in_err-copy-clause-grown : goal.returns-in_err-copy-clause-grown
returns-in_err-copy-clause-grown g c =
    grown-same c.args.ctx.now c.copy_block.new.ctx (Region c.args.region) c.in_err-copy.ensures.err
    c.in_err-copy.ensures.given

pub returns-clause-come : goal.returns-clause-come
returns-clause-come g c =
    come_moved c.args.ctx.now.nodes c.copy_block.new.ctx.nodes c.insert_at_back.new.ctx.nodes
    one_block (BasicBlock c.in_ok-copy.copy) c.in_ok-copy.ensures.come
    c.insert_at_back.ensures.placed.moved
