use Rattle.std.proofs.Common.{lit<, rules, tests}
use Rattle.std.proofs.lemmas.Iterator.Splits.{YieldsList-from_str_split}
use Rattle.std.proofs.lemmas.Iterator.Consumers.{YieldsList-at}
use Rattle.std.proofs.lemmas.Iterator.Consumers.{YieldsList-from_filter, map_from_collect}
use Rattle.plir_pipelines.specs.Settings.{is_filled}
use Rattle.plir_pipelines.proofs.settings.words_of.Goals as goal

pub returns : goal.returns
returns c =
    map_from_collect _ c.collect.ensures.ran (YieldsList-from_filter _ is_filled
    (YieldsList-at c.filter.ensures.source (YieldsList-from_str_split 32 c.args.text.now (lit< tt) c.split.ensures.text
    c.split.ensures.has_more c.split.ensures.pattern)) c.filter.ensures.closure (λ x r q k. search (rules, tests)))
