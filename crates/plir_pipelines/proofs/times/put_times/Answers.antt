use Rattle.std.proofs.Common.{ap, sym, ◌∙◌, ◌++◌, string_bytes}
use Rattle.plir_pipelines.proofs.Answering.{on-ok}
use Rattle.plir_pipelines.proofs.Tables.{table-of-all}
use Rattle.plir_pipelines.proofs.times.put_times.Goals as goal

pub returns : goal.returns
returns c =
    on-ok c.put_table.result
    (λ e. e ∙ ap (λ z. string_bytes c.args.out.now ++ z)
    (table-of-all c.args.times.now _ _ (sym c.is_empty.ensures ∙ c.if-is_empty.false))) c.put_table.ensures
