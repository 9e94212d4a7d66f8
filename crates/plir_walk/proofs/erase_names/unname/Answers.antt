use Rattle.std.proofs.Common.{sym, ap, ◌∙◌, None}
use Rattle.plir_core.specs.Changes.{with_block_edit}
use Rattle.plir_walk.specs.Unnamed.{without_names}
use Rattle.plir_walk.proofs.Unnaming.{block-unnamed}
use Rattle.plir_walk.proofs.erase_names.unname.Goals as goal

pub returns-in-BasicBlock : goal.returns-in-BasicBlock
returns-in-BasicBlock g c =
    c.set_label.ensures.after
    ∙ ap (λ z. with_block_edit z c.in-BasicBlock.block (λ b. record b { label = None }))
    c.unname_entity-in-BasicBlock.ensures.after
    ∙ block-unnamed c.args.ctx.now c.in-BasicBlock.block
    ∙ ap (without_names c.args.ctx.now) (sym c.in-BasicBlock.is)
