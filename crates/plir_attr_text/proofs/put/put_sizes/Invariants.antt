use Rattle.std.proofs.Common.{◌≡◌, ◌++◌, drop, string_bytes, codes}
use Rattle.std.specs.Fmt.{decimal}
use Rattle.plir_data.specs.TextParts.{parted, parted_from}
use Rattle.plir_attr_text.proofs.put.put_sizes.Given as goal

abbrev pub invariant-sizes : goal.invariant-sizes
invariant-sizes l = string_bytes l.out ++
    parted_from l.is_first (codes ", ") decimal (drop l.size-index l.sizes) ≡ string_bytes l.fn.out ++ parted
    (codes ", ") decimal l.sizes
