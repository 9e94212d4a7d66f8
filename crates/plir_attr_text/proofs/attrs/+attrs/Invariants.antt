use Rattle.std.proofs.Common.{◌+◌, ◌*◌, length, map}
use Rattle.plir_data.specs.AttrSeen.{attr_view}
use Rattle.plir_data.specs.{DictSeen.pairs_view, Dictionary.dict_of}
use Rattle.plir_attr_text.specs.{AttrReading.entry_at, AttrReading.attr_at, TypesIn.IsInEntry, TypesIn.IsInAttr}
use Rattle.plir_attr_text.specs.{laws.Meanings.ItemsFront, laws.Meanings.DictFront}
use Rattle.plir_attr_text.proofs.Gathering.{Gathers}
use Rattle.plir_attr_text.proofs.attrs.+attrs.Given as goal

abbrev pub decreases-read_attr_at : goal.decreases-read_attr_at
decreases-read_attr_at g l = 4 * l.levels

abbrev pub decreases-read_dict_attr : goal.decreases-read_dict_attr
decreases-read_dict_attr g l = 4 * l.levels + 3

abbrev pub decreases-read_list_attr : goal.decreases-read_list_attr
decreases-read_list_attr g l = 4 * l.levels + 3

abbrev pub decreases-read_entries : goal.decreases-read_entries
decreases-read_entries g l = 4 * l.levels + 2

abbrev pub decreases-read_items : goal.decreases-read_items
decreases-read_items g l = 4 * l.levels + 2

abbrev pub decreases-read_entry : goal.decreases-read_entry
decreases-read_entry g l = 4 * l.levels + 1

abbrev pub decreases-read_items-items : goal.decreases-read_items-items
decreases-read_items-items g l = length l.rest

abbrev pub decreases-read_entries-entries : goal.decreases-read_entries-entries
decreases-read_entries-entries g l = length l.rest

abbrev pub invariant-read_items-items : goal.invariant-read_items-items
invariant-read_items-items g l =
    Gathers g.C.TypeStore.types g.C.TypeStore.same_besides 91 93 (attr_at l.levels) (IsInAttr l.levels) ItemsFront
    l.bytes l.fn.ctx l.ctx (map attr_view l.items.items) l.rest

abbrev pub invariant-read_entries-entries : goal.invariant-read_entries-entries
invariant-read_entries-entries g l =
    Gathers g.C.TypeStore.types g.C.TypeStore.same_besides 91 93 (entry_at (attr_at l.levels))
    (IsInEntry (IsInAttr l.levels)) DictFront l.bytes l.fn.ctx l.ctx (dict_of (pairs_view l.entries.items)) l.rest
