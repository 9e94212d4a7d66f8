use Rattle.std.proofs.{Common.arith, Common.codes, lemmas.List.drop_all}
use Rattle.std.specs.Fmt.{decimal}
use Rattle.plir_data.specs.TextLaws.{ended}
use Rattle.plir_attr_text.proofs.put.put_sizes.Goals as goal

pub returns : goal.returns
returns c = ended (codes ", ") decimal c.sizes.is_first _ _ _ (drop_all c.sizes.size-index c.args.sizes.now
    (omega arith))
    c.sizes.invariant
