use Rattle.std.proofs.Common.{sym, ap, ◌∙◌}
use Rattle.std.specs.Prelude.{is_some}
use Rattle.plir_symbols.proofs.HeldNames.{some-map}
use Rattle.plir_symbols.proofs.builtin_names.uses_name.Goals as goal

pub returns : goal.returns
returns g c = c.is_some.ensures ∙ sym (some-map _ c.name_under.result) ∙ ap is_some c.name_under.ensures
