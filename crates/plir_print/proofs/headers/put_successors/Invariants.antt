use Rattle.std.proofs.Common.{◌≡◌, ◌++◌, codes, drop, string_bytes}
use Rattle.plir_core.specs.ContextView.{successors_of}
use Rattle.plir_print.specs.Headers.{successor_text}
use Rattle.plir_data.specs.TextParts.{parted, parted_from}
use Rattle.plir_print.proofs.headers.put_successors.Given as goal

abbrev pub invariant-successors : goal.invariant-successors
invariant-successors g l =
    let bs = successors_of l.ctx l.op in
    let write = successor_text l.ctx in
    string_bytes l.out ++ parted_from l.is_first (codes ", ") write (drop l.place bs) ≡
    string_bytes l.fn.out ++ parted (codes ", ") write bs
