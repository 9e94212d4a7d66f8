use Rattle.std.proofs.Common.{◌≡◌, OnOk, subst}
use Rattle.plir_data.specs.AttrView.{leaf, identifier}
use Rattle.plir_data.specs.Dictionary.{dict_put}
use Rattle.plir_core.specs.Changes.{with_op_edit}
use Rattle.plir_builtin.proofs.symbol_op.put_symbol_name.Goals as goal

pub returns-in-Ok-clause-ok : goal.returns-in-Ok-clause-ok
returns-in-Ok-clause-ok g c =
    subst (λ k. OnOk c.set_attr.result (c.set_attr.new.ctx ≡ with_op_edit c.args.ctx.now c.args.op
    (λ o. record o { attributes = dict_put o.attributes k (leaf (identifier c.args.name)) }))) c.in-Ok.ensures.made
    (subst (λ x. OnOk c.set_attr.result (c.set_attr.new.ctx ≡ with_op_edit c.args.ctx.now c.args.op
    (λ o. record o { attributes = dict_put o.attributes c.in-Ok.key (leaf (identifier x)) }))) c.new.ensures
    c.set_attr.ensures.ok)
