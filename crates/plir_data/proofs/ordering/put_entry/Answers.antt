use Rattle.std.proofs.Common.{◌∙◌, ap}
use Rattle.plir_data.specs.AttrSeen.{attr_view}
use Rattle.plir_data.specs.DictSeen.{pairs_view}
use Rattle.plir_data.proofs.Dictionaries.{put_seen}
use Rattle.plir_data.proofs.ordering.put_entry.Goals as goal

pub returns : goal.returns
returns g c =
    ap pairs_view c.in_ok-_old.ensures.entries ∙ put_seen attr_view c.args.map.now.entries c.args.key c.args.value
