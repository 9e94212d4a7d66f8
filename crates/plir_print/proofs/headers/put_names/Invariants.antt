use Rattle.std.proofs.Common.{◌≡◌, ◌++◌, codes, drop, string_bytes}
use Rattle.plir_data.specs.TextParts.{parted, parted_from}
use Rattle.plir_print.specs.ValueLists.{values_in}
use Rattle.plir_print.specs.ValueNames.{value_name}
use Rattle.plir_print.proofs.headers.put_names.Given as goal

abbrev pub invariant-names : goal.invariant-names
invariant-names g l =
    let vs = values_in l.ctx l.list in
    string_bytes l.out ++ parted_from l.is_first (codes ", ") (value_name l.ctx) (drop l.place vs) ≡
    string_bytes l.fn.out ++ parted (codes ", ") (value_name l.ctx) vs
