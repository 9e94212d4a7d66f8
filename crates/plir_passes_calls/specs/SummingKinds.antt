-- What the queries of the toy's kinds answer.
use Rattle.std.specs.Prelude.{ℕ, Bool, true, false, List, Option, None, codes}
use Rattle.plir_folding.specs.Worth.{Integer}
use Rattle.plir_folding.specs.declared.identity_set.Side.{Side}
use Rattle.plir_folding.specs.declared.identity_set.Side.TheVariants.{Left, Right}
use Rattle.plir_folding.specs.Sums.{is_zero, wrapping_sum}
use Rattle.plir_passes_calls.specs.declared.folding.toy.ToyKind.{ToyKind}
use Rattle.plir_passes_calls.specs.declared.folding.toy.ToyKind.TheVariants.{Add, Sub, Use, Yield}

-- whether an operation of the kind ends its block
abbrev pub is_yield : ToyKind → Bool
is_yield Add = false
is_yield Sub = false
is_yield Use = false
is_yield Yield = true

abbrev pub id_of : ToyKind → List ℕ
id_of Add = codes "toy.add"
id_of Sub = codes "toy.sub"
id_of Use = codes "toy.use"
id_of Yield = codes "toy.yield"

-- what an operation makes of two integers
abbrev pub fold_of : ToyKind → Integer → Integer → Option Integer
fold_of Add a b = wrapping_sum a b
fold_of Sub a b = None
fold_of Use a b = None
fold_of Yield a b = None

-- whether the result of an operation is its other operand, where the one at a side is the integer
abbrev pub identity_of : ToyKind → Side → Integer → Bool
identity_of Add side n = is_zero n
identity_of Sub Left n = false
identity_of Sub Right n = is_zero n
identity_of Use side n = false
identity_of Yield side n = false
