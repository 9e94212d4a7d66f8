use Rattle.std.proofs.Common.{Some, sym, ap, ◌∙◌}
use Rattle.std.specs.Str.{bytes_eq}
use Rattle.plir_data.specs.AttrSeen.{attr_view}
use Rattle.plir_symbols.specs.BuiltinNames.{is_text}
use Rattle.plir_symbols.proofs.builtin_names.is_text.Goals as goal

pub returns-in-String : goal.returns-in-String
returns-in-String g c =
    c.eq.ensures
    ∙ ap (λ z. bytes_eq z c.args.text.now) c.as_str.ensures
    ∙ sym (ap (λ a. is_text c.args.text.now (Some (attr_view a))) c.in-String.is)
