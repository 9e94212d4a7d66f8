use Rattle.std.proofs.Common.{rules, tests, bytes_eq}
use Rattle.std.proofs.lemmas.Iterator.{YieldsList-from_slice}
use Rattle.std.proofs.lemmas.Iterator.Search.{any_from_yields_List}
use Rattle.plir_pipelines.proofs.offer.is_own_word.Goals as goal

pub returns : goal.returns
returns c =
    any_from_yields_List (λ word. bytes_eq word.now c.args.name.now) _ _ c.any.result c.any.ensures.ran
    (YieldsList-from_slice _ c.iter.ensures.rest) (λ x b q k. search (rules, tests))
