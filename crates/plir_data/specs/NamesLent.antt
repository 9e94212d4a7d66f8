-- What becomes of given names that are lent.
use denote.RattleType.{RattleType}
use Rattle.std.specs.Prelude.{ℕ, List, Option, Vec}
use Rattle.std.specs.Borrow.{Lends, MutBor, Fml}
use Rattle.std.specs.contracts.alloc.Global as global
use Rattle.std.specs.contracts.impls.GlobalAllocator.TheImpl.{ghosts}
use Rattle.std.specs.contracts.option.Option as option
use Rattle.std.specs.contracts.vec.Vec as vec
use Rattle.std.specs.declared.alloc.Global.{Global}
use Rattle.plir_data.specs.contracts.attributes.GivenNamesAttr.{the_row}
use Rattle.plir_data.specs.contracts.identifier.Identifier as identifier

-- a list of names as the logic holds it
abbrev pub names_row : RattleType
names_row = vec.the_row (option.the_row identifier.the_row) global.the_row ghosts

-- the attribute ends with the names that are left behind the reference
abbrev pub LendsNames : MutBor (List (Option (List ℕ))) → MutBor (Vec (Option (List ℕ)) Global) → Fml
LendsNames attr names = Lends the_row names_row attr names (λ left. left.items)
