use Rattle.std.proofs.Common.{◌≡◌, OnOk, sym, subst}
use Rattle.plir_data.specs.AttrView.{leaf, given_names}
use Rattle.plir_data.specs.Dictionary.{dict_put}
use Rattle.plir_core.specs.Changes.{with_op_edit, with_block_edit}
use Rattle.plir_walk.proofs.names_attr.add_names.Goals as goal

pub returns-in-Op-clause-ok : goal.returns-in-Op-clause-ok
returns-in-Op-clause-ok g c =
    rw (c.in-Op.is, sym c.from_names.ensures) (subst (λ k. OnOk c.set_attr.result
    (c.set_attr.new.ctx ≡ with_op_edit c.args.ctx.now c.in-Op.op (λ o. record o
    { attributes = dict_put o.attributes k (leaf (given_names c.from_names.result)) }))) c.in-Ok.ensures.made
    c.set_attr.ensures.ok)

pub returns-in-Block-clause-ok : goal.returns-in-Block-clause-ok
returns-in-Block-clause-ok g c =
    rw (c.in-Block.is, sym c.from_names.ensures) (subst (λ k. OnOk c.set_attr-in-Block.result
    (c.set_attr-in-Block.new.ctx ≡ with_block_edit c.args.ctx.now c.in-Block.block
    (λ b. record b { attributes = dict_put b.attributes k (leaf (given_names c.from_names.result)) })))
    c.in-Ok.ensures.made c.set_attr-in-Block.ensures.ok)
