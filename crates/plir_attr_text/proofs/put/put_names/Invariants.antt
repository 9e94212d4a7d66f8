use Rattle.std.proofs.Common.{◌≡◌, ◌++◌, drop, string_bytes, codes}
use Rattle.plir_attr_text.specs.Written.{name_or_mark}
use Rattle.plir_data.specs.TextParts.{parted, parted_from}
use Rattle.plir_attr_text.proofs.put.put_names.Given as goal

abbrev pub invariant-names : goal.invariant-names
invariant-names l = string_bytes l.out ++
    parted_from l.is_first (codes ", ") name_or_mark (drop l.name-index l.names) ≡ string_bytes l.fn.out ++
    parted (codes ", ") name_or_mark l.names
