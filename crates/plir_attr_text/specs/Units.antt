-- A step in a string as the reader sees it.
use Rattle.std.specs.Prelude.{ℕ, List, [], ◌∷◌, encode_utf8}
use Rattle.plir_attr_text.specs.declared.strings.Step.{Step}
use Rattle.plir_attr_text.specs.declared.strings.Step.TheVariants.{Byte, Char}

-- the bytes that are meant
abbrev pub bytes_of : Step → List ℕ
bytes_of (Byte b) = b ∷ []
bytes_of (Char c) = encode_utf8 c
