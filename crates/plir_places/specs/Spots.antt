-- Lines and columns of a text.
use Rattle.std.specs.Prelude.{ℕ, ◌+◌, ◌-◌, ◌^◌, min, Bool, ◌&&◌, nat_eq, nat_le, nat_lt, if◌then◌else◌}
use Rattle.plir_data.specs.declared.location.Location.{Location}
use Rattle.plir_data.specs.declared.location.Location.TheVariants.{SrcPos}
use Rattle.plir_places.specs.declared.spots.Spot.{Spot}

-- where a text starts
abbrev pub start : Spot
start = record { line = 1; column = 1 }

-- one more, as far as lines and columns are counted
abbrev pub one_more : ℕ → ℕ
one_more n = min (n + 1) (2 ^ 32 - 1)

-- a byte goes on with a character that another one began
abbrev pub goes_on : ℕ → Bool
goes_on b = nat_le 128 b && nat_lt b 192

-- Where a text stands behind a byte: behind a line feed in the next line, behind a character in the next column.
abbrev pub spot_past : Spot → ℕ → Spot
spot_past s b =
    if nat_eq b 10 then record { line = one_more s.line; column = 1 }
    else if goes_on b then s
    else record { line = s.line; column = one_more s.column }

-- that as a place in a source text
abbrev pub location_of : Spot → Location
location_of s = SrcPos s.line s.column
