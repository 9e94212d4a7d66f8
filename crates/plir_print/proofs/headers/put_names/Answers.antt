use Rattle.std.proofs.Common.{◌+◌, codes, drop, arith}
use Rattle.std.proofs.lemmas.List.{drop_all}
use Rattle.plir_print.specs.ValueLists.{values_in}
use Rattle.plir_print.specs.ValueNames.{value_name}
use Rattle.plir_data.specs.TextLaws.{turn, ended}
use Rattle.plir_print.proofs.Pieces.{drop_at}
use Rattle.plir_print.proofs.headers.put_names.Goals as goal

pub names-preserved : goal.names-preserved
names-preserved g c =
    let vs = values_in c.args.ctx.now c.args.list in
    let place = c.names.place in
    turn (codes ", ") (value_name c.args.ctx.now) c.names.is_first _ _ _ _ c.value_at.result (drop place vs)
    (drop (place + 1) vs) c.in_ok-put_between.ensures.ok c.in_ok-put_value.ensures
    (drop_at vs place c.value_at.result c.value_at.ensures.value) c.names.invariant

pub returns : goal.returns
returns g c =
    let vs = values_in c.args.ctx.now c.args.list in
    ended (codes ", ") (value_name c.args.ctx.now) c.names.is_first _ _ (drop c.names.place vs)
    (drop_all c.names.place vs (omega arith)) c.names.invariant
