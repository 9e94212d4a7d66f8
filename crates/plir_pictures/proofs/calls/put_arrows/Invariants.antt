use Rattle.std.proofs.Common.{◌≡◌, ◌++◌, take, string_bytes}
use Rattle.std.specs.List.{flat_map}
use Rattle.plir_pictures.specs.DrawnCalls.{arrow}
use Rattle.plir_pictures.proofs.calls.put_arrows.Given as goal

-- the arrows of the edges so far stand behind the text
abbrev pub invariant-loop-edge : goal.invariant-loop-edge
invariant-loop-edge l = string_bytes l.out ≡ string_bytes l.fn.out ++ flat_map arrow (take l.edge-index l.edges)
