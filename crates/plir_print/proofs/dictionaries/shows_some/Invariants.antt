use Rattle.std.proofs.Common.{◌≡◌}
use Rattle.std.specs.List.{filter}
use Rattle.std.specs.Prelude.{Some}
use Rattle.plir_data.specs.DictSeen.{pairs_view}
use Rattle.plir_print.specs.Dictionaries.{is_shown}
use Rattle.plir_print.proofs.dictionaries.shows_some.Given as goal

abbrev pub invariant-entries : goal.invariant-entries
invariant-entries g l =
    filter (is_shown g.D.OpSet (Some l.kind)) l.dict ≡
    filter (is_shown g.D.OpSet (Some l.kind)) (pairs_view l.key-iterator)
