use Rattle.std.proofs.Common.{◌≡◌}
use Rattle.plir_attr_text.specs.{Terms.integer_type, TypeGrammar.IsText, TypeGrammar.IsInteger, TypeReading.integer_at}
use Rattle.plir_attr_text.specs.{TypesIn.IsInInteger, TypesWritten.IsWrittenBare, laws.WrittenFound.integer_written}
use Rattle.plir_attr_text.specs.laws.PartsFound.{part_of_integer}
use Rattle.plir_attr_text.proofs.Wholes.{integer_text_found, integer_text_refused}
use Rattle.plir_attr_text.proofs.Texts.{keeps, found_by, refused_by, placed_by}
use Rattle.plir_attr_text.proofs.read_types.read_integer_type.Goals as goal

pub returns : goal.returns
returns g c =
    let same = c.as_bytes-bytes.ensures.value in
    let r = c.whole_integer-read.ensures in
    let k = keeps IsInInteger (IsWrittenBare c.args.text.now) (IsText IsInteger c.args.text.now)
    (λ x u. u ≡ integer_type x.0 x.1) _ _ same (integer_written _) (λ x s u w. part_of_integer _ u x s w) r.kept in
    record {
      found = found_by integer_at _ _ _ _ same (integer_text_found _) _ _ r.read c.with_place.ensures;
      refused = refused_by integer_at _ _ _ _ same (integer_text_refused _) _ _ r.read c.with_place.ensures;
      placeless = placed_by integer_at (IsText IsInteger c.args.text.now) _ _ _ same _ _ r.read c.with_place.ensures;
      grown = k.grown;
      named = k.named;
      held = k.held;
      rest = k.rest;
    }
