use Rattle.std.proofs.Common.{◌≡◌, ◌++◌, string_bytes}
use Rattle.plir_pictures.specs.Labels.{label_text}
use Rattle.plir_pictures.proofs.labels.put_label.Given as goal

abbrev pub invariant-chars : goal.invariant-chars
invariant-chars l = string_bytes l.out ++ label_text l.c-iterator.rest.now ≡ string_bytes l.fn.out ++ label_text l.text
