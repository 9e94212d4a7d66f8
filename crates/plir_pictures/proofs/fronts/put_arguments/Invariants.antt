use Rattle.std.proofs.Common.{◌≡◌, ◌++◌, codes, drop, string_bytes}
use Rattle.plir_data.specs.TextParts.{parted, parted_from}
use Rattle.plir_print.specs.OpText.{argument_text}
use Rattle.plir_print.specs.ValueNames.{arguments_of}
use Rattle.plir_pictures.proofs.fronts.put_arguments.Given as goal

abbrev pub invariant-arguments : goal.invariant-arguments
invariant-arguments g l =
    let vs = arguments_of l.ctx l.block in
    let write = argument_text g.D.OpSet l.ctx in
    string_bytes l.out ++ parted_from l.is_first (codes ", ") write (drop l.place vs) ≡
    string_bytes l.fn.out ++ parted (codes ", ") write vs
