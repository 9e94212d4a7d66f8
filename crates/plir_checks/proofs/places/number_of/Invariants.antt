use Rattle.std.proofs.Common.{◌≡◌, ◌<◌, ◌^◌, true, take}
use Rattle.std.specs.Char.{is_ascii_digit}
use Rattle.std.specs.List.{list_all}
use Rattle.std.specs.Str.Parse.{digits_value}
use Rattle.plir_checks.proofs.places.number_of.Given as goal

-- the digits so far write the number
abbrev pub invariant-loop-digit : goal.invariant-loop-digit
invariant-loop-digit l =
    (l.value ≡ digits_value 10 (take l.digit-index l.digits))
    × (list_all is_ascii_digit (take l.digit-index l.digits) ≡ true)
    × (l.value < 10 ^ l.digit-index)
