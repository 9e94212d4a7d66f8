-- The kinds of the op set of operations that are read back.
use Rattle.std.specs.Prelude.{ℕ, List, Bool, Option, Some, None, true, false, codes, if◌then◌else◌}
use Rattle.std.specs.Str.{bytes_eq}
use Rattle.plir_text_calls.specs.declared.roundtrip.text_set.TextKind.{TextKind}
use Rattle.plir_text_calls.specs.declared.roundtrip.text_set.TextKind.TheVariants.{Plain, Closed, Pointless, Unfound}
use Rattle.plir_text_calls.specs.declared.roundtrip.text_set.TextKind.TheVariants.{Builtin}

-- the id of a kind
abbrev pub id_of : TextKind → List ℕ
id_of Plain = codes "sample.plain"
id_of Closed = codes "sample.closed"
id_of Pointless = codes "pointless"
id_of Unfound = codes "sample.unfound"
id_of Builtin = codes "builtin.func"

-- the kind that an id names
abbrev pub kind_of : List ℕ → Option TextKind
kind_of id =
    if bytes_eq id (codes "sample.plain") then Some Plain
    else if bytes_eq id (codes "sample.closed") then Some Closed
    else if bytes_eq id (codes "pointless") then Some Pointless
    else if bytes_eq id (codes "builtin.func") then Some Builtin
    else None

-- names in the regions of such an operation mean nothing that stands outside
abbrev pub is_closed : TextKind → Bool
is_closed Plain = false
is_closed Closed = true
is_closed Pointless = false
is_closed Unfound = false
is_closed Builtin = false
