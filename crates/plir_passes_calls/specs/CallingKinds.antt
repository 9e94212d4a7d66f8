-- What the queries of the toy's kinds answer.
use Rattle.std.specs.Prelude.{ℕ, Bool, true, false, List, [], ◌∷◌, Option, Some, None, codes, is_some}
use Rattle.plir_data.specs.Dictionary.{dict_get}
use Rattle.plir_core.specs.Contents.{OpView}
use Rattle.plir_builtin.specs.Symbols.{name_in}
use Rattle.plir_passes_calls.specs.declared.symbols.toy.ToyKind.{ToyKind}
use Rattle.plir_passes_calls.specs.declared.symbols.toy.ToyKind.TheVariants.{Call, Yield}

-- whether an operation of the kind ends its block
abbrev pub is_yield : ToyKind → Bool
is_yield Call = false
is_yield Yield = true

-- whether it uses symbols
abbrev pub is_call : ToyKind → Bool
is_call Call = true
is_call Yield = false

abbrev pub id_of : ToyKind → List ℕ
id_of Call = codes "toy.call"
id_of Yield = codes "toy.yield"

-- the keys that the name of the used symbol and the mark of private symbols stand under
abbrev pub callee_key : List ℕ
callee_key = codes "toy_callee"

abbrev pub private_key : List ℕ
private_key = codes "toy_private"

-- what there is, as a list
abbrev pub listed : {X : Type 0} → Option X → List X
listed None = []
listed (Some x) = x ∷ []

-- the names that an operation uses: that under the key, if there is one
abbrev pub callees : {K A : Type 0} → OpView K A → List (List ℕ)
callees o = listed (name_in (dict_get o.attributes callee_key))

-- whether a symbol is private: something stands under the key
abbrev pub is_marked : {K A : Type 0} → OpView K A → Bool
is_marked o = is_some (dict_get o.attributes private_key)
