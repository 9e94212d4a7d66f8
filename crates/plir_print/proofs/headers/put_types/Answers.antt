use Rattle.std.proofs.Common.{◌+◌, codes, drop, arith}
use Rattle.std.proofs.lemmas.List.{drop_all}
use Rattle.plir_print.specs.Headers.{value_type_text}
use Rattle.plir_print.specs.ValueLists.{values_in}
use Rattle.plir_data.specs.TextLaws.{turn, ended}
use Rattle.plir_print.proofs.Pieces.{drop_at}
use Rattle.plir_print.proofs.headers.put_types.Goals as goal

pub types-preserved : goal.types-preserved
types-preserved g c =
    let vs = values_in c.args.ctx.now c.args.list in
    let place = c.types.place in
    turn (codes ", ") (value_type_text g.D.OpSet c.args.ctx.now) c.types.is_first _ _ _ _ c.value_at.result
    (drop place vs) (drop (place + 1) vs) c.in_ok-put_between.ensures.ok c.in_ok-put_value_type.ensures
    (drop_at vs place c.value_at.result c.value_at.ensures.value) c.types.invariant

pub returns : goal.returns
returns g c =
    let vs = values_in c.args.ctx.now c.args.list in
    ended (codes ", ") (value_type_text g.D.OpSet c.args.ctx.now) c.types.is_first _ _ (drop c.types.place vs)
    (drop_all c.types.place vs (omega arith)) c.types.invariant
