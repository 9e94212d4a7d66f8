use Rattle.std.proofs.Common.{◌≡◌, false}
use Rattle.std.specs.Str.{bytes_eq}
use Rattle.plir_data.specs.AttrSeen.{attr_view}
use Rattle.plir_data.specs.Keys.{symbol_key}
use Rattle.plir_symbols.proofs.HeldNames.{other-name}
use Rattle.plir_symbols.proofs.builtin_names.name_under.Goals as goal

pub returns : goal.returns
returns g c =
    let other : bytes_eq c.args.key.now symbol_key ≡ false = cc in
    other-name c.args.key.now (attr_view c.args.attribute.now) _ other c.name_in.ensures
