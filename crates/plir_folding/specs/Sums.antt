-- Sums of integers.
use Rattle.std.specs.Prelude.{◌+◌, ◌%◌, ◌^◌, ◌==◌, ◌&&◌, Bool, cond, Option, Some, None}
use Rattle.plir_folding.specs.Worth.{Integer}

-- The sum of two integers of one type and one width: an integer of these, whose bits are the sum modulo two to the
-- width. Other integers have none.
abbrev pub wrapping_sum : Integer → Integer → Option Integer
wrapping_sum a b = cond (a.type == b.type && a.width == b.width)
    (Some (record { type = a.type; width = a.width; bits = (a.bits + b.bits) % 2 ^ a.width }))
    None

-- whether an integer is 0
abbrev pub is_zero : Integer → Bool
is_zero n = n.bits == 0
