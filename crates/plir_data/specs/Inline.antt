-- How an identifier holds its text. No public clause cites this module.
use Rattle.std.specs.Prelude.{ℕ, ◌≤◌, ◌<◌, List, length, take, string_bytes}
use Rattle.plir_data.specs.declared.identifier.Text.{Text}
use Rattle.plir_data.specs.declared.identifier.Text.TheVariants as Held

-- its bytes
abbrev pub text_of : Text → List ℕ
text_of (Held.Inline n bs) = take n bs
text_of (Held.Apart s) = string_bytes s.value

-- the text stands where its length says: up to 22 bytes in the identifier itself, and more in memory of their own
abbrev pub IsInPlace : Text → Type 0
IsInPlace (Held.Inline n bs) = n ≤ 22
IsInPlace (Held.Apart s) = 22 < length (string_bytes s.value)
