use Rattle.plir_text_calls.proofs.roundtrip.copying.copy_new_module.Goals as goal

pub copy_by_text-requires-clause-readable : goal.copy_by_text-requires-clause-readable
copy_by_text-requires-clause-readable g c =
    c.new_modules_can_be_read_back.ensures c.args.from.now c.args.op c.args.name.now c.stands.ensures.whole
    c.as_str-name.ensures.formed c.requires.new
