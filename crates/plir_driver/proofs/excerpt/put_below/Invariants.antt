use Rattle.std.proofs.Common.{string_bytes, take, chars}
use Rattle.plir_driver.proofs.Lines.{Remains}
use Rattle.plir_driver.proofs.excerpt.put_below.Given as goal

abbrev pub invariant-chars : goal.invariant-chars
invariant-chars l =
    Remains (string_bytes l.fn.out) (take l.fn.characters (chars l.fn.line)) (string_bytes l.out) l.left
    l.c-iterator.rest.now
