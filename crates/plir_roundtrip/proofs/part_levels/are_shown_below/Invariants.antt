use Rattle.std.proofs.Common.{◌↔◌, ◌<◌, Some}
use Rattle.plir_data.specs.AttrLive.{HandlesLive}
use Rattle.plir_data.specs.DictSeen.{pairs_view}
use Rattle.plir_roundtrip.specs.WrittenLevels.{shown_levels}
use Rattle.plir_roundtrip.proofs.part_levels.are_shown_below.Given as goal

abbrev pub invariant-entries : goal.invariant-entries
invariant-entries g l =
    let rest = pairs_view l.key-iterator in
    record {
      low : (shown_levels g.D.OpSet l.ctx.types (Some l.kind) rest < l.left) ↔
          (shown_levels g.D.OpSet l.ctx.types (Some l.kind) l.dict < l.left);
      live : HandlesLive g.D.OpSet.attr_handles l.ctx.types rest;
    }
