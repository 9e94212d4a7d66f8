use Rattle.std.proofs.Common.{All, take}
use Rattle.plir_attr_text.specs.Writable.{IsNameOrMark}
use Rattle.plir_attr_text.proofs.writable.are_names.Given as goal

abbrev pub invariant-names : goal.invariant-names
invariant-names l = All IsNameOrMark (take l.name-index l.names)
