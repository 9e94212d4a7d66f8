-- Integers of some bits.
use Rattle.std.specs.Prelude.{ℕ, ◌-◌, ◌%◌, ◌^◌, ◌++◌, List, ℤ, pos, negsuc, Bool, ◌&&◌, nat_le, if◌then◌else◌, codes}
use Rattle.std.specs.Fmt.{decimal}

-- the bits of a whole number in a width: the number modulo two to the width
abbrev pub bits_of : ℤ → (width : ℕ) → ℕ
bits_of (pos n) width = n % 2 ^ width
bits_of (negsuc n) width = 2 ^ width - 1 - n % 2 ^ width

-- the highest bit is set
abbrev pub is_high : (width bits : ℕ) → Bool
is_high width bits = nat_le (2 ^ (width - 1)) bits

-- bits as a number with a sign, in two's complement
abbrev pub signed_of : (width bits : ℕ) → ℤ
signed_of width bits = if is_high width bits then negsuc (2 ^ width - 1 - bits) else pos bits

-- a number as it is written in decimal digits, with a sign or without
abbrev pub literal : (signed : Bool) (width bits : ℕ) → List ℕ
literal signed width bits = if signed && is_high width bits then codes "-" ++ decimal (2 ^ width - bits)
    else decimal bits

-- the widths that an integer may have
abbrev pub is_width : ℕ → Bool
is_width width = nat_le 1 width && nat_le width 64
