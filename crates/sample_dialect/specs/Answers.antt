-- What the queries of the kinds answer.
use Rattle.std.specs.Prelude.{ℕ, Bool, true, false, List, Option, Some, None, codes, if◌then◌else◌}
use Rattle.std.specs.Str.{bytes_eq}
use Rattle.plir_folding.specs.Sums.{is_zero, wrapping_sum}
use Rattle.plir_folding.specs.Worth.{Integer}
use Rattle.plir_folding.specs.declared.identity_set.Side.{Side}
use Rattle.sample_dialect.specs.declared.kinds.SampleKind.{SampleKind}
use Rattle.sample_dialect.specs.declared.kinds.SampleKind.TheVariants.{Add, Show, Call, Return, Branch, CondBranch}

-- the id of a kind
abbrev pub id_of : SampleKind → List ℕ
id_of Add = codes "sample.add"
id_of Show = codes "sample.show"
id_of Call = codes "sample.call"
id_of Return = codes "sample.return"
id_of Branch = codes "sample.br"
id_of CondBranch = codes "sample.cond_br"

-- whether an operation of the kind ends its block
abbrev pub ends_block : SampleKind → Bool
ends_block Return = true
ends_block Branch = true
ends_block CondBranch = true
ends_block _ = false

-- whether an operation of the kind does something besides its results, as a call may
abbrev pub has_effect : SampleKind → Bool
has_effect Show = true
has_effect Call = true
has_effect _ = false

-- the kind that an id names
abbrev pub kind_of : List ℕ → Option SampleKind
kind_of id =
    if bytes_eq id (codes "sample.add") then Some Add
    else if bytes_eq id (codes "sample.show") then Some Show
    else if bytes_eq id (codes "sample.call") then Some Call
    else if bytes_eq id (codes "sample.return") then Some Return
    else if bytes_eq id (codes "sample.br") then Some Branch
    else if bytes_eq id (codes "sample.cond_br") then Some CondBranch
    else None

-- what an operation of the kind makes of two integers
abbrev pub fold_of : SampleKind → Integer → Integer → Option Integer
fold_of Add a b = wrapping_sum a b
fold_of _ a b = None

-- whether the result of an operation of the kind is its other operand, where the one at a side is the integer
abbrev pub identity_of : SampleKind → Side → Integer → Bool
identity_of Add side n = is_zero n
identity_of _ side n = false
