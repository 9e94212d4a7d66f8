use Rattle.std.proofs.Common.{◌≡◌, ◌++◌, codes, string_bytes}
use Rattle.std.specs.List.{filter}
use Rattle.std.specs.Prelude.{Some}
use Rattle.plir_data.specs.AttrLive.{HandlesLive}
use Rattle.plir_data.specs.DictSeen.{pairs_view}
use Rattle.plir_attr_text.specs.AttrText.{entry_text}
use Rattle.plir_print.specs.Dictionaries.{is_shown}
use Rattle.plir_data.specs.TextParts.{parted, parted_from}
use Rattle.plir_print.proofs.dictionaries.put_entries.Given as goal

abbrev pub invariant-entries : goal.invariant-entries
invariant-entries g l =
    let write =
    entry_text g.D.OpSet.attr_id g.D.OpSet.attr_text g.D.OpSet.type_id g.D.OpSet.type_body_text l.ctx.types in
    let left = pairs_view l.key-iterator in
    record {
      written : string_bytes l.out ++
          parted_from l.is_first (codes ", ") write (filter (is_shown g.D.OpSet (Some l.kind)) left) ≡
          string_bytes l.fn.out ++ parted (codes ", ") write (filter (is_shown g.D.OpSet (Some l.kind)) l.dict);
      live : HandlesLive g.D.OpSet.attr_handles l.ctx.types left;
    }
