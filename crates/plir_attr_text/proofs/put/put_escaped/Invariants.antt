use Rattle.std.proofs.Common.{◌≡◌, ◌++◌, string_bytes}
use Rattle.plir_attr_text.specs.Written.{escaped}
use Rattle.plir_attr_text.proofs.put.put_escaped.Given as goal

abbrev pub invariant-chars : goal.invariant-chars
invariant-chars l = string_bytes l.out ++ escaped l.c-iterator.rest.now ≡ string_bytes l.fn.out ++ escaped l.text
