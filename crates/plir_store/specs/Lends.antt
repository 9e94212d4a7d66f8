-- What `Slots` ends as, where a `&mut` to one of its values is returned.
use Rattle.std.specs.Prelude.{ℕ}
use Rattle.std.specs.Borrow.{Lends, Fml, RattleType, MutBor}
use Rattle.plir_store.specs.Table.{Table, with_content}
use Rattle.plir_store.specs.contracts.slots.Slots.{the_row}

-- once the borrow r ends, the slot i holds the last value written through r
abbrev pub LendsContent : (T : RattleType) → MutBor (Table T.Denot) → ℕ → MutBor T.Denot → Fml
LendsContent T s i r = Lends (the_row T) T s r (with_content s.now i)
