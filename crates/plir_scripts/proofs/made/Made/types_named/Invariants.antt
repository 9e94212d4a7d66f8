use Rattle.std.specs.Prelude.{All}
use Rattle.plir_data.specs.Types.{IsLive as IsTypeLive}
use Rattle.plir_scripts.proofs.made.Made.types_named.Given as goal

abbrev pub invariant-loop-name : goal.invariant-loop-name
invariant-loop-name g l = All (IsTypeLive l.ctx.types) l.handles.items
