use Rattle.std.proofs.Common.{◌≡◌, ◌∙◌, subst, sym}
use Rattle.std.proofs.lemmas.Result.{IfOk-weaker}
use Rattle.plir_data.specs.AttrLive.{HandlesLive}
use Rattle.plir_core.specs.ContextView.{block_at, label_of}
use Rattle.plir_copies.specs.BlockLaws.{labelled, live_holds}
use Rattle.plir_copies.proofs.NewBlocks.{block-whole}
use Rattle.plir_copies.proofs.blocks.copy_block.Goals as goal

pub block_with-requires-clause-live : goal.block_with-requires-clause-live
block_with-requires-clause-live g c = c.requires

pub block_with-requires-clause-types_live : goal.block_with-requires-clause-types_live
block_with-requires-clause-types_live g c = c.in_ok-types.ensures.live

pub block_with-requires-clause-handles : goal.block_with-requires-clause-handles
block_with-requires-clause-handles g c =
    subst (HandlesLive g.D.OpSet.attr_handles c.args.ctx.now.types) (sym (c.in_ok-attributes.ensures ∙ c.attributes.ensures.value))
    c.attributes.ensures.live

pub returns-clause-held : goal.returns-clause-held
returns-clause-held g c =
    let s = c.args.ctx.now in
    let t = c.block_with.new.ctx in
    let x = block_at s c.args.block in
    let ts = c.in_ok-types.types.items in
    let es = c.in_ok-attributes.attributes in
    let h = live_holds s c.args.block c.requires in
    let same = block-whole x h.0 h.1 ts es c.in_ok-types.ensures.value (c.in_ok-attributes.ensures ∙ c.attributes.ensures.value) in
    IfOk-weaker c.block_with.result (λ b. block_at t b ≡ labelled ts es (label_of s c.args.block)) (λ b. block_at t b ≡ x)
    (λ b e. e ∙ same) c.block_with.ensures.held
