use Rattle.std.proofs.Common.{◌↔◌, All}
use Rattle.plir_data.specs.AttrLive.{HandlesLive}
use Rattle.plir_data.specs.DictSeen.{pairs_view}
use Rattle.plir_roundtrip.specs.Readable.{IsEntryReadable}
use Rattle.plir_roundtrip.proofs.entries.are_entries_readable.Given as goal

abbrev pub invariant-entries : goal.invariant-entries
invariant-entries g l =
    let left = pairs_view l.key-iterator in
    record {
      readable : All (λ e. IsEntryReadable l.ctx.types e.0 e.1) left ↔
          All (λ e. IsEntryReadable l.ctx.types e.0 e.1) l.dict;
      live : HandlesLive g.D.OpSet.attr_handles l.ctx.types left;
    }
