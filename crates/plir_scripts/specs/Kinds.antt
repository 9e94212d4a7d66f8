-- The kinds of operations of the tests' op set.
use Rattle.std.specs.Prelude.{ℕ, List, Bool, true, false, codes}
use Rattle.plir_scripts.specs.declared.sample_set.SampleKind.{SampleKind}
use Rattle.plir_scripts.specs.declared.sample_set.SampleKind.TheVariants.{Plain, Yield}

-- whether operations of a kind end their block
abbrev pub ends_block : SampleKind → Bool
ends_block Plain = false
ends_block Yield = true

-- the id of a kind
abbrev pub id_of : SampleKind → List ℕ
id_of Plain = codes "sample.plain"
id_of Yield = codes "sample.yield"
