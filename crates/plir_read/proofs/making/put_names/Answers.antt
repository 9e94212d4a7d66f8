use Rattle.std.proofs.Common.{ap, ◌∙◌}
use Rattle.plir_data.specs.AttrView.{leaf, given_names}
use Rattle.plir_data.specs.Dictionary.{dict_put}
use Rattle.plir_data.specs.Keys.{names_key}
use Rattle.plir_core.specs.Changes.{with_block_edit}
use Rattle.plir_read.proofs.making.put_names.Goals as goal

pub returns-clause-put : goal.returns-clause-put
returns-clause-put g c =
    c.in_ok-set_attr.ensures.ok
    ∙ ap (λ k. with_block_edit c.args.ctx.now c.args.block
    (λ b. record b { attributes = dict_put b.attributes k (leaf (given_names c.from_names.result)) }))
    c.in-Ok.ensures.made
    ∙ ap (λ ns. with_block_edit c.args.ctx.now c.args.block
    (λ b. record b { attributes = dict_put b.attributes names_key (leaf (given_names ns)) })) c.from_names.ensures
