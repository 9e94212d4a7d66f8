-- The ids of the kinds of these tests.
use Rattle.std.specs.Prelude.{ℕ, List, Bool, Option, Some, None, true, false, codes, if◌then◌else◌}
use Rattle.std.specs.Str.{bytes_eq}
use Rattle.plir_read_ir_tests.specs.declared.kinds.TestKind.{TestKind}
use Rattle.plir_read_ir_tests.specs.declared.kinds.TestKind.TheVariants.{Value, Branch, Open, Closed}

abbrev pub id_of : TestKind → List ℕ
id_of Value = codes "test.value"
id_of Branch = codes "test.branch"
id_of Open = codes "test.open"
id_of Closed = codes "test.closed"

abbrev pub is_branch : TestKind → Bool
is_branch Value = false
is_branch Branch = true
is_branch Open = false
is_branch Closed = false

abbrev pub is_closed : TestKind → Bool
is_closed Value = false
is_closed Branch = false
is_closed Open = false
is_closed Closed = true

abbrev pub kind_of : List ℕ → Option TestKind
kind_of id =
    if bytes_eq id (codes "test.value") then Some Value
    else if bytes_eq id (codes "test.branch") then Some Branch
    else if bytes_eq id (codes "test.open") then Some Open
    else if bytes_eq id (codes "test.closed") then Some Closed
    else None
