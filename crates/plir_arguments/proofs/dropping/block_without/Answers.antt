use Rattle.std.proofs.Common.{◌≡◌, ◌∙◌}
use Rattle.std.specs.Prelude.{option_map}
use Rattle.std.proofs.lemmas.Result.{IfOk-weaker}
use Rattle.plir_core.specs.ContextView.{block_at, label_of}
use Rattle.plir_arguments.specs.Dropped.{without_argument}
use Rattle.plir_arguments.proofs.NewBlocks.{held-without, labelled, live-holds}
use Rattle.plir_arguments.proofs.dropping.block_without.Goals as goal

pub block_with-requires-clause-live : goal.block_with-requires-clause-live
block_with-requires-clause-live g c = c.requires.live

pub block_with-requires-clause-types_live : goal.block_with-requires-clause-types_live
block_with-requires-clause-types_live g c = c.in_ok-types.ensures.live

pub block_with-requires-clause-handles : goal.block_with-requires-clause-handles
block_with-requires-clause-handles g c = c.in_ok-attributes.ensures.handles

pub returns-clause-held : goal.returns-clause-held
returns-clause-held g c =
    let s = c.args.ctx.now in
    let t = c.block_with.new.ctx in
    let x = block_at s c.args.block in
    let ts = c.in_ok-types.types.items in
    let es = c.in_ok-attributes.attributes in
    let h = live-holds s c.args.block c.requires.live in
    let same = held-without c.args.i x h.0 h.1 ts es c.in_ok-types.ensures.value c.in_ok-attributes.ensures.value in
    IfOk-weaker c.block_with.result (λ b. block_at t b ≡ labelled ts es (label_of s c.args.block))
    (λ b. block_at t b ≡ option_map (without_argument c.args.i) x) (λ b e. e ∙ same) c.block_with.ensures.held
