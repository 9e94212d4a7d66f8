use Rattle.std.proofs.Common.{◌≡◌, true, false, Some, refl}
use Rattle.plir_data.specs.AttrSeen.{attr_view}
use Rattle.plir_print.specs.Dictionaries.{is_shown}
use Rattle.plir_roundtrip.proofs.PartLevels.{hidden_level, seen_level}
use Rattle.plir_roundtrip.proofs.part_levels.is_entry_below.Goals as goal

pub returns-then-not-is_shown : goal.returns-then-not-is_shown
returns-then-not-is_shown g c =
    let no : is_shown g.D.OpSet (Some c.args.kind) (c.args.key.now, attr_view c.args.value.now) ≡ false = cc in
    (λ t. hidden_level _ _ c.args.left no c.requires.some, λ h. refl)

pub returns : goal.returns
returns g c =
    let yes : is_shown g.D.OpSet (Some c.args.kind) (c.args.key.now, attr_view c.args.value.now) ≡ true = cc in
    seen_level _ _ c.args.left c.is_within_levels.result yes c.requires.some c.is_within_levels.ensures
