-- Where copies were written that stand in place of calls.
use Rattle.std.specs.Prelude.{ℕ, Option, Some, None}
use Rattle.plir_data.specs.declared.location.Location.{Location}
use Rattle.plir_data.specs.declared.location.Location.TheVariants.{Unknown, SrcPos, CallSite}

-- where something was written, as line and column, if that is known
abbrev pub place_of : Location → Option (ℕ × ℕ)
place_of Unknown = None
place_of (SrcPos line column) = Some (line, column)
place_of (CallSite line column call_line call_column) = Some (line, column)

-- the location of a copy that was written at one place, and stands in place of a call that was written at another
abbrev pub written_and_called : Location → Option (ℕ × ℕ) → Option (ℕ × ℕ) → Location
written_and_called loc None call = loc
written_and_called loc (Some written) None = loc
written_and_called loc (Some (line, column)) (Some (call_line, call_column)) =
    CallSite line column call_line call_column

-- the location of a copy, which stands in place of a call, of what has this one: the place of each, where both are known
abbrev pub inlined_at : (loc call : Location) → Location
inlined_at loc call = written_and_called loc (place_of loc) (place_of call)
