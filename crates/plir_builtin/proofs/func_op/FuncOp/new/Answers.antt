use Rattle.std.proofs.Common.{[], Some, sym, subst, ap, ◌∙◌}
use Rattle.std.specs.Prelude.{codes}
use Rattle.plir_data.specs.declared.op_set.OpKind.TheVariants.{Func}
use Rattle.plir_core.specs.Contents.{op_view}
use Rattle.plir_builtin.specs.BuiltinOps.{HasArguments, HoldsOneBlock, func_attributes}
use Rattle.plir_builtin.proofs.func_op.FuncOp.new.Goals as goal

pub returns-clause-tree : goal.returns-clause-tree
returns-clause-tree g c =
    let u = c.new_with_block.new.ctx in
    let op = c.in_ok-op.op in
    let types = c.in_ok-arg_types.arg_types.items in
    let labelled =
    subst (λ l. HoldsOneBlock u op (op_view Func [] [] [] c.in_ok-attributes.attributes)
    (record { label = Some l; arg_types = types; attributes = [] })) c.in-Ok.ensures.made c.in_ok-op.ensures.tree in
    record {
      arguments = types;
      typed =
          subst (λ ts. HasArguments ts c.args.ty types) (sym c.in_ok-op.ensures.types) c.in_ok-arg_types.ensures.value;
      tree =
          subst (λ es. HoldsOneBlock u op (op_view Func [] [] [] es)
          (record { label = Some (codes "entry"); arg_types = types; attributes = [] }))
          (c.in_ok-attributes.ensures.value ∙ ap (func_attributes c.args.name) c.into.ensures) labelled;
    }
