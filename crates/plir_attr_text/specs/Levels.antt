-- Where a level begins.
use Rattle.std.specs.Prelude.{ℕ, List, Result, Ok, Err, nat_le, if◌then◌else◌}
use Rattle.plir_attr_text.specs.declared.fault.Fault.TheVariants.{TooDeep}
use Rattle.plir_attr_text.specs.{Steps.◌>>=◌, TypeReading.word_at, declared.fault.Fault.Fault}

-- one level more is left
unfoldable pub if_level : ℕ → Result (Unit {0}) Fault
if_level n = if nat_le 1 n then Ok tt else Err TooDeep

-- a word comes, with which a level begins, and one level more is left
unfoldable pub level_at : (n : ℕ) → List ℕ → Result (Unit {0}) Fault
level_at n bytes = word_at bytes >>= λ w. if_level n
