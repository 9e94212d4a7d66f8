-- What a table says of each name.
use Rattle.std.specs.Prelude.{Bool, Option, Some, None}
use Rattle.std.specs.HashMap.{get}
use Rattle.plir_names.specs.declared.names.Meaning.{Meaning}
use Rattle.plir_names.specs.declared.names.Meaning.TheVariants.{Unknown, Only, Ambiguous}
use Rattle.plir_names.specs.declared.names.NameTable.{NameTable}

-- a meaning by what is kept of a name: nothing of one that none bears, and no value of one that several bear
abbrev pub kept_meaning : {V : Type 0} → Option (Option V) → Meaning V
kept_meaning None = Unknown
kept_meaning (Some (Some v)) = Only v
kept_meaning (Some None) = Ambiguous

-- the same of a name that one more bears, by what was kept
abbrev pub with_one_more : {V : Type 0} → Option (Option V) → V → Option V
with_one_more None v = Some v
with_one_more (Some kept) v = None

-- what a table says that a name means
abbrev pub meanings : {N V : Type 0} → (same : N → N → Bool) → NameTable N V → N → Meaning V
meanings same t n = kept_meaning (get same t.bearers n)
