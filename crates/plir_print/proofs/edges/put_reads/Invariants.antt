use Rattle.std.proofs.Common.{◌≡◌, ◌++◌, codes, drop, string_bytes}
use Rattle.plir_print.specs.EdgeText.{use_text}
use Rattle.plir_data.specs.TextParts.{parted, parted_from}
use Rattle.plir_print.proofs.edges.put_reads.Given as goal

abbrev pub invariant-reads : goal.invariant-reads
invariant-reads g l =
    string_bytes l.out ++ parted_from l.is_first (codes ", ") (use_text l.ctx) (drop l.operand-index l.reads) ≡
    string_bytes l.fn.out ++ parted (codes ", ") (use_text l.ctx) l.reads
