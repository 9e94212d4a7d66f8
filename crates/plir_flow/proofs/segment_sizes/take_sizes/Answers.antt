use Rattle.std.proofs.Common.{[], Some, sym, ap, ◌∙◌}
use Rattle.std.specs.Prelude.{unwrap_or, option_and_then}
use Rattle.plir_data.specs.AttrSeen.{attr_view}
use Rattle.plir_flow.specs.Segments.{sizes_in}
use Rattle.plir_flow.proofs.segment_sizes.take_sizes.Goals as goal

pub returns-clause-value : goal.returns-clause-value
returns-clause-value g c =
    sym (ap (λ o. unwrap_or (option_and_then sizes_in o) [])
    (c.in-Ok-OperandSegmentSizes.ensures.found
    ∙ ap (λ a. Some (attr_view a)) c.in-Ok-OperandSegmentSizes.field-0-is))
