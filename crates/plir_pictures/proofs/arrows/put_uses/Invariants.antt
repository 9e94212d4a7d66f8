use Rattle.std.proofs.Common.{◌≡◌, ◌++◌, drop, string_bytes}
use Rattle.std.specs.List.{flat_map}
use Rattle.plir_core.specs.ContextView.{operands_of}
use Rattle.plir_pictures.specs.Arrows.{use_arrow, use_arrows}
use Rattle.plir_pictures.proofs.arrows.put_uses.Given as goal

abbrev pub invariant-operands : goal.invariant-operands
invariant-operands g l =
    string_bytes l.out ++ flat_map (use_arrow l.ctx l.op) (drop l.place (operands_of l.ctx l.op)) ≡
    string_bytes l.fn.out ++ use_arrows l.ctx l.op
