use Rattle.std.proofs.Common.{subst, ◌∙◌}
use Rattle.plir_roundtrip.specs.OpAnswer.{IsSameOrRefused}
use Rattle.plir_text_calls.proofs.roundtrip.copying.copy_by_text.Goals as goal

-- The law, at what the calls before it ensure.
pub returns-in-Ok : goal.returns-in-Ok
returns-in-Ok g c =
    let read = c.read_op-read.ensures in
    let new = c.read_op-read.new.ctx in
    let same =
    c.op_is_read_back.ensures c.args.from.now c.args.into.now new c.args.op c.in_ok-printed.ensures.whole
    c.types-types.ensures.table c.requires.readable (c.as_str-text.ensures.value ∙ c.in_ok-printed.ensures.text)
    c.requires.types (record {
      found = read.found;
      made = read.made;
      refused = read.refused;
      kept = read.kept;
    }) in
    record { same = subst (IsSameOrRefused c.args.from.now c.args.op new) c.in-Ok.is same }
