use Rattle.std.proofs.Common.{◌∙◌, ap}
use Rattle.plir_data.specs.DictSeen.{pairs_view}
use Rattle.plir_data.specs.Dictionary.{dict_put_all, dict_of}
use Rattle.plir_data.proofs.attributes.DictAttr.new.Goals as goal

pub loop-key-init : goal.loop-key-init
loop-key-init g c =
    ap (λ d. dict_put_all d (pairs_view c.into_iter-key-iterator.result.rest.items)) c.new-dict.ensures ∙
    ap (λ l. dict_of (pairs_view l)) c.into_iter-key-iterator.ensures.into_iter_gives.0 ∙ c.in_ok-items.ensures
