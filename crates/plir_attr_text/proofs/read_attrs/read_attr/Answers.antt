use Rattle.plir_attr_text.specs.{TypeGrammar.IsText, AttrGrammar.AttrWithin, AttrReading.attr_at, TypesIn.IsInAttr}
use Rattle.plir_attr_text.specs.{TypesWritten.IsWrittenIn, Parts.IsHeldBy, laws.WrittenFound.attr_written}
use Rattle.plir_attr_text.specs.laws.{PartsFound.held_by_attr, Meanings.IsMeant-live}
use Rattle.plir_attr_text.specs.laws.AttrsAgain.{attr_text_found, attr_text_refused}
use Rattle.plir_attr_text.proofs.Texts.{keeps, found_by, refused_by, placed_by, if_answered}
use Rattle.plir_attr_text.proofs.read_attrs.read_attr.Goals as goal

pub returns : goal.returns
returns g c =
    let same = c.as_bytes-bytes.ensures.value in
    let r = c.whole_attr-read.ensures in
    let k = keeps (IsInAttr 200) (IsWrittenIn c.args.text.now) (IsText (AttrWithin 200) c.args.text.now)
    (λ x t. IsHeldBy t x) _ _ same (attr_written 200 _) (λ x s t w. held_by_attr 200 _ t x s w) r.kept in
    let found = found_by (attr_at 200) _ _ _ _ same (attr_text_found 200 _) _ c.with_place.result r.read
    c.with_place.ensures in
    record {
      read = record {
        found = found;
        live = if_answered _ _ (λ a f. IsMeant-live g.D.OpSet.attr_handles _ f.0 _ f.2) c.with_place.result found;
        refused = refused_by (attr_at 200) _ _ _ _ same (attr_text_refused 200 _) _ _ r.read c.with_place.ensures;
        grown = k.grown;
        named = k.named;
        held = k.held;
      };
      placeless = placed_by (attr_at 200) (IsText (AttrWithin 200) c.args.text.now) _ _ _ same _ _ r.read
          c.with_place.ensures;
      rest = k.rest;
    }
