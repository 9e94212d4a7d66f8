use Rattle.plir_attr_text.specs.{TypeGrammar.IsText, TypeGrammar.TypeWithin, TypeReading.type_at, TypesIn.IsInType}
use Rattle.plir_attr_text.specs.{TypesWritten.IsWrittenIn, Parts.IsPartOf, laws.WrittenFound.type_written}
use Rattle.plir_attr_text.specs.laws.PartsFound.{part_of_type}
use Rattle.plir_attr_text.proofs.Wholes.{type_text_found, type_text_refused}
use Rattle.plir_attr_text.proofs.Texts.{keeps, found_by, refused_by, placed_by}
use Rattle.plir_attr_text.proofs.read_types.read_type.Goals as goal

pub returns : goal.returns
returns g c =
    let same = c.as_bytes-bytes.ensures.value in
    let r = c.whole_type-read.ensures in
    let k = keeps (IsInType 200) (IsWrittenIn c.args.text.now) (IsText (TypeWithin 200) c.args.text.now)
    (λ t u. IsPartOf u t) _ _ same (type_written 200 _) (λ t s u w. part_of_type 200 _ u t s w) r.kept in
    record {
      found = found_by (type_at 200) _ _ _ _ same (type_text_found 200 _) _ _ r.read c.with_place.ensures;
      refused = refused_by (type_at 200) _ _ _ _ same (type_text_refused 200 _) _ _ r.read c.with_place.ensures;
      placeless = placed_by (type_at 200) (IsText (TypeWithin 200) c.args.text.now) _ _ _ same _ _ r.read
          c.with_place.ensures;
      grown = k.grown;
      named = k.named;
      held = k.held;
      rest = k.rest;
    }
