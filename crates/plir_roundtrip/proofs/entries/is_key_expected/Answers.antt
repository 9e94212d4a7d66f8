use Rattle.std.proofs.Common.{◌≡◌, true, false, bytes_eq, sym}
use Rattle.plir_data.specs.Keys.{names_key}
use Rattle.plir_roundtrip.proofs.Asked.{expected_names, expected_none, expected_value}
use Rattle.plir_roundtrip.proofs.entries.is_key_expected.Goals as goal

pub returns-then-eq : goal.returns-then-eq
returns-then-eq c =
    let e : bytes_eq c.args.key.now names_key ≡ true = cc in sym (expected_names c.args.key.now c.args.has_value e)

pub returns-then-not-has_value : goal.returns-then-not-has_value
returns-then-not-has_value c =
    let e : bytes_eq c.args.key.now names_key ≡ false = cc in
    let none : c.args.has_value ≡ false = cc in
    sym (expected_none c.args.key.now c.args.has_value e none)

pub returns : goal.returns
returns c =
    let e : bytes_eq c.args.key.now names_key ≡ false = cc in
    let some : c.args.has_value ≡ true = cc in
    let is = expected_value c.args.key.now c.args.has_value e some in
    cc
