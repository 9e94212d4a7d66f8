use Rattle.std.proofs.Common.{◌∙◌, ◌++◌, ◌∷◌, [], ap, sym, append_assoc, append-nil}
use Rattle.plir_data.specs.DictSeen.{pairs_view}
use Rattle.plir_data.specs.Dictionary.{dict_of}
use Rattle.plir_data.proofs.Dictionaries.{dict_of-again}
use Rattle.plir_data.proofs.ordering.sorted.Goals as goal

pub entries-preserved : goal.entries-preserved
entries-preserved g c =
    ap (λ l. l ++ c.next.new.self) c.in_ok-push.ensures.items ∙ append_assoc c.entries.sorted.items (c.in-Some.entry ∷
    []) c.next.new.self ∙ ap (λ l. c.entries.sorted.items ++ l) (sym c.in-Some.ensures.steps) ∙ c.entries.invariant

pub returns : goal.returns
returns g c =
    let all = sym (append-nil c.entries.sorted.items) ∙ ap (λ l. c.entries.sorted.items ++ l)
    (sym c.in-None.ensures.steps.0) ∙ c.entries.invariant ∙ c.into_iter-entry-iterator.ensures.into_iter_gives.0 in
    ap (λ l. dict_of (pairs_view l)) all ∙ ap dict_of c.in_ok-map.ensures ∙
    dict_of-again (pairs_view c.args.entries.items)
