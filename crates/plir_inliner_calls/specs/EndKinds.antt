-- What the queries of the kinds of `arguments` answer, and what operations of them forward.
use Rattle.std.specs.Prelude.{ℕ, List, Bool, ◌&&◌, true, false, nat_eq, cond, codes, length, Option, Some, None}
use Rattle.plir_core.specs.Contents.{OpView}
use Rattle.plir_flow.specs.Branches.{Range as Places}
use Rattle.plir_inliner_calls.specs.declared.arguments.kinds.EndKind.{EndKind}
use Rattle.plir_inliner_calls.specs.declared.arguments.kinds.EndKind.TheVariants.{Jump, Fixed}

abbrev pub id_of : EndKind → List ℕ
id_of Jump = codes "branch.jump"
id_of Fixed = codes "branch.fixed"

-- the operands of an operation go to its first successor, and none to another one
abbrev pub all_to_first : {K A : Type 0} → OpView K A → ℕ → Option Places
all_to_first held i = cond (nat_eq i 0) (Some (0, length held.operands)) None

-- whether operations of a kind can come to have fewer operands
abbrev pub loses : EndKind → Bool
loses Jump = true
loses Fixed = false

-- whether a value that goes to a successor may be taken out
abbrev pub removes_of : EndKind → ℕ → Bool
removes_of kind i = loses kind && nat_eq i 0
