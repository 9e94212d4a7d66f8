use Rattle.std.proofs.Common.{◌≡◌, zero, [], ◌∷◌, ◌++◌, ◌∙◌, ap, subst, arith}
use Rattle.std.specs.Prelude.{All}
use Rattle.plir_store.specs.Table.{content_at, next_slot}
use Rattle.plir_core.specs.Changes.{with_block_last}
use Rattle.plir_core.specs.Nodes.{ptr_at}
use Rattle.plir_core.specs.Made.{IsNewRegion}
use Rattle.plir_core.specs.ContextView.{children}
use Rattle.plir_core.specs.declared.ptr.IRNode.TheVariants.{Operation, Region, BasicBlock}
use Rattle.plir_builtin.proofs.Single.{one_of}
use Rattle.plir_builtin.proofs.op_making.add_block.Goals as goal

pub insert_at_back-requires-clause-not_above : goal.insert_at_back-requires-clause-not_above
insert_at_back-requires-clause-not_above g c =
    c.in_ok-block.ensures.made.apart (Region c.get_region-region.result) c.get_region-region.ensures.live

pub returns-clause-added : goal.returns-clause-added
returns-clause-added g c =
    let s = c.args.ctx.now in
    let op = Operation c.args.op in
    let region = Region c.get_region-region.result in
    let block = BasicBlock c.in_ok-block.block in
    let made = c.in_ok-block.ensures.made in
    let placed = c.insert_at_back.ensures.placed in
    let one : children s op ≡ region ∷ [] =
    one_of (children s op) region c.requires.regions.count c.get_region-region.ensures.value in
    let new : IsNewRegion s.nodes op region =
    subst (All (IsNewRegion s.nodes op)) one c.requires.regions.each zero region (omega arith) in
    record {
      region = c.get_region-region.result;
      block = c.in_ok-block.block;
      region_live = c.get_region-region.ensures.live;
      only_region = one;
      after = c.insert_at_back.ensures.after
          ∙ ap (λ b. with_block_last c.new.new.ctx b c.get_region-region.result) c.in_ok-block.ensures.pointer
          ∙ ap (λ u. with_block_last u (ptr_at u.nodes.blocks (next_slot s.nodes.blocks)) c.get_region-region.result)
          c.in_ok-block.ensures.ok;
      over = new.parent;
      grown = c.growth.ensures.placed c.new.new.ctx.nodes c.insert_at_back.new.ctx.nodes block region _ made placed;
      holds = ap (λ ops. content_at ops c.args.op.slot) placed.moved.ops ∙ made.keeps.ops c.args.op c.requires.live;
      regions = placed.children op (λ e. let z : ⊥ = cc (e) in z) ∙ made.children op c.requires.live ∙ one;
      blocks =
          placed.children_over
          ∙ ap (λ ks. ks ++ block ∷ []) (made.children region c.get_region-region.ensures.live ∙ new.empty);
      block_holds = ap (λ bs. content_at bs c.in_ok-block.block.slot) placed.moved.blocks ∙ c.in_ok-block.ensures.held;
      empty = placed.children block (λ e. let z : ⊥ = cc (e) in z) ∙ c.in_ok-block.ensures.empty;
    }
