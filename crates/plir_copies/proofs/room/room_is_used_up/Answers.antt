use Rattle.plir_core.specs.RoomLaws.{full_before, had_room}
use Rattle.plir_copies.proofs.room.room_is_used_up.Goals as goal

pub returns-clause-had : goal.returns-clause-had
returns-clause-had g c = λ s t n whole h full. had_room s.nodes t.nodes n whole.stored h full

pub returns-clause-left : goal.returns-clause-left
returns-clause-left g c = λ s t n m h full. full_before s.nodes t.nodes n m h full
