-- What the arena ends as, where a `&mut` to what a node holds is returned.
use Rattle.std.specs.Borrow.{Lends, Fml, RattleType, MutBor}
use Rattle.plir_store.specs.Table.{with_content}
use Rattle.plir_core.specs.declared.ptr.Ptr.{Ptr}
use Rattle.plir_core.specs.declared.ptr.Operation.{Operation}
use Rattle.plir_core.specs.declared.ptr.BasicBlock.{BasicBlock}
use Rattle.plir_core.specs.Nodes.{Nodes}
use Rattle.plir_core.specs.contracts.arena.Arena.{the_row}

-- once the borrow r ends, the operation holds the last value written through r, and the block likewise
abbrev pub LendsOp : (O B : RattleType) → MutBor (Nodes O.Denot B.Denot) → Ptr Operation → MutBor O.Denot → Fml
LendsOp O B s p r = Lends (the_row O B) O s r (λ w. record s.now { ops = with_content s.now.ops p.slot w })

abbrev pub LendsBlock : (O B : RattleType) → MutBor (Nodes O.Denot B.Denot) → Ptr BasicBlock → MutBor B.Denot → Fml
LendsBlock O B s p r = Lends (the_row O B) B s r (λ w. record s.now { blocks = with_content s.now.blocks p.slot w })
