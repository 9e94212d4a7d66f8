use Rattle.std.proofs.Common.{◌⊎◌}
use Rattle.plir_attr_text.specs.{Terms.function_type, TypeGrammar.IsText, TypeGrammar.FunctionWithin, Parts.IsPartOf}
use Rattle.plir_attr_text.specs.{TypeReading.function_at, TypeReading.type_at, TypesIn.IsInFunction}
use Rattle.plir_attr_text.specs.{TypesWritten.IsWrittenIn, TypesWritten.IsWrittenBare}
use Rattle.plir_attr_text.specs.laws.{WrittenFound.function_written, PartsFound.part_of_function}
use Rattle.plir_attr_text.proofs.Wholes.{function_text_found, function_text_refused}
use Rattle.plir_attr_text.proofs.Texts.{keeps, found_by, refused_by, placed_by}
use Rattle.plir_attr_text.proofs.read_types.read_function_type.Goals as goal

pub returns : goal.returns
returns g c =
    let same = c.as_bytes-bytes.ensures.value in
    let r = c.whole_function-read.ensures in
    let stands = IsText (FunctionWithin 200) c.args.text.now in
    let k = keeps (IsInFunction 199) (λ u. IsWrittenBare c.args.text.now u ⊎ IsWrittenIn c.args.text.now u) stands
    (λ x u. IsPartOf u (function_type x.0 x.1)) _ _ same (function_written 199 _)
    (λ x s u w. part_of_function 199 _ u x s w) r.kept in
    record {
      found = found_by (function_at (type_at 199)) _ _ _ _ same (function_text_found 199 _) _ _ r.read
          c.with_place.ensures;
      refused = refused_by (function_at (type_at 199)) _ _ _ _ same (function_text_refused 199 _) _ _ r.read
          c.with_place.ensures;
      placeless = placed_by (function_at (type_at 199)) stands _ _ _ same _ _ r.read c.with_place.ensures;
      grown = k.grown;
      named = k.named;
      held = k.held;
      rest = k.rest;
    }
