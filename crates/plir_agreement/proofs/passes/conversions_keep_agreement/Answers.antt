use Rattle.plir_passes.specs.ConversionLaws.{kept_by_conversion}
use Rattle.plir_agreement.specs.Lasts.{Lasts}
use Rattle.plir_agreement.proofs.passes.conversions_keep_agreement.Goals as goal

pub returns : goal.returns
returns g c = λ tables each s t root answer f.
    kept_by_conversion _ _ (Lasts g.D.OpSet.is_symbol g.D.OpSet.is_symbol_table tables) (λ d agree. agree)
    (λ d e u f g agree. g (f agree)) each s t root answer f
