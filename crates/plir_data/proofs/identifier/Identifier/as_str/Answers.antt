use Rattle.std.proofs.Common.{◌≡◌, true, subst}
use Rattle.std.proofs.lemmas.Str.{IsUtf8-from_ascii}
use Rattle.plir_data.specs.Identifier.{is_identifier}
use Rattle.plir_data.specs.Inline.{text_of}
use Rattle.plir_data.specs.NameLaws.{identifier_ascii}
use Rattle.plir_data.proofs.identifier.Identifier.as_str.Goals as goal

pub from_utf8_unchecked-requires : goal.from_utf8_unchecked-requires
from_utf8_unchecked-requires c =
    IsUtf8-from_ascii _ (identifier_ascii _ (subst (λ t. is_identifier (text_of t) ≡ true) c.in-Inline.is
    c.self.invariant.0))
