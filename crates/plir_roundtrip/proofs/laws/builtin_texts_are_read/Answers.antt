use Rattle.plir_roundtrip.proofs.BuiltinTexts.{builtin_text_read}
use Rattle.plir_roundtrip.proofs.laws.builtin_texts_are_read.Goals as goal

pub returns : goal.returns
returns g c s p whole readable =
    builtin_text_read g.D.OpSet g.D.ReadSet.find_kind g.D.ReadSet.is_isolated s (c.contexts_stand.ensures s whole) p
    readable
