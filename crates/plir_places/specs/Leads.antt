-- Whether an operation begins with a character of a text, by what stands in front of it.
use Rattle.std.specs.Prelude.{ℕ, Bool, false, not, ◌&&◌, ◌||◌, nat_eq, nat_le, if◌then◌else◌}
use Rattle.plir_places.specs.declared.leads.Lead.{Lead}
use Rattle.plir_places.specs.declared.leads.Lead.TheVariants.{Due, Caret, Label, Head, Closed, Behind, Quoted}
use Rattle.plir_places.specs.declared.leads.Lead.TheVariants.{Escaped, Inside}

-- space, tab, line feed or carriage return
abbrev pub is_blank : ℕ → Bool
is_blank b = nat_eq b 32 || (nat_eq b 9 || (nat_eq b 10 || nat_eq b 13))

-- a letter, a digit or `_`
abbrev pub is_in_name : ℕ → Bool
is_in_name b = (nat_le 97 b && nat_le b 122) || ((nat_le 65 b && nat_le b 90) ||
    ((nat_le 48 b && nat_le b 57) || nat_eq b 95))

-- An operation begins with a byte that is no blank where one is due, and behind the head of a block, unless the byte is
-- a `^`, with which the next block begins, or the `}` of the region.
abbrev pub begins_op : Lead → ℕ → Bool
begins_op Due b = not (is_blank b)
begins_op Behind b = not (is_blank b) && (not (nat_eq b 94) && not (nat_eq b 125))
begins_op _ b = false

-- behind a `(`: that behind a label begins the head of a block
abbrev pub past_open : Lead → Lead
past_open Label = Head
past_open Head = Head
past_open Closed = Head
past_open _ = Inside

-- behind a `)`
abbrev pub past_close : Lead → Lead
past_close Head = Closed
past_close Closed = Closed
past_close _ = Inside

-- behind a `:`, which ends the head of a block where a `)` stands before it
abbrev pub past_colon : Lead → Lead
past_colon Head = Head
past_colon Closed = Behind
past_colon _ = Inside

-- behind a byte of a name
abbrev pub past_word : Lead → Lead
past_word Caret = Label
past_word Label = Label
past_word Head = Head
past_word Closed = Head
past_word _ = Inside

-- behind any other byte
abbrev pub past_other : Lead → Lead
past_other Head = Head
past_other Closed = Head
past_other _ = Inside

-- Behind a byte that is no blank, outside strings: `"` begins one, behind `;` an operation is due, and `^` begins a
-- label.
abbrev pub past_sign : Lead → ℕ → Lead
past_sign l b =
    if nat_eq b 34 then Quoted
    else if nat_eq b 59 then Due
    else if nat_eq b 94 then Caret
    else if nat_eq b 40 then past_open l
    else if nat_eq b 41 then past_close l
    else if nat_eq b 58 then past_colon l
    else if is_in_name b then past_word l
    else past_other l

-- behind a byte of a string: `"` ends it, and what stands behind `\` does not
abbrev pub quoted_past : ℕ → Lead
quoted_past b = if nat_eq b 34 then Inside else if nat_eq b 92 then Escaped else Quoted

-- what stands in front of the next byte, blanks aside
abbrev pub lead_past : Lead → ℕ → Lead
lead_past Quoted b = quoted_past b
lead_past Escaped b = Quoted
lead_past l b = if is_blank b then l else past_sign l b
