-- Things one behind another, and lists in brackets with commas between their items, as they are read.
use Rattle.std.specs.Prelude.{ℕ, zero, suc, List, [], ◌∷◌, length, Bool, true, false, Option, Some, None, Result, Ok}
use Rattle.std.specs.Prelude.{Err, nat_eq, if◌then◌else◌}
use Rattle.plir_attr_text.specs.Tokens.{Token, word, digits, signed, quoted, arrow, sign, look}
use Rattle.plir_attr_text.specs.{Steps.◌>>=◌, declared.fault.Fault.Fault, declared.fault.Fault.TheVariants.Unexpected}

abbrev pub is_sign : ℕ → Token → Bool
is_sign b (sign c) = nat_eq c b
is_sign b (word w) = false
is_sign b (digits n) = false
is_sign b (signed s n) = false
is_sign b (quoted q) = false
is_sign b arrow = false

-- what stands behind a sign
unfoldable pub sign_at : ℕ → List ℕ → Result (List ℕ) Fault
sign_at b bytes = look bytes >>= λ t. if is_sign b t.0 then Ok t.1 else Err Unexpected

abbrev pub behind_sign : ℕ → Result (Token × List ℕ) Fault → Option (List ℕ)
behind_sign b (Ok t) = if is_sign b t.0 then Some t.1 else None
behind_sign b (Err f) = None

-- what stands behind a sign, if it comes next
unfoldable pub past_sign : ℕ → List ℕ → Option (List ℕ)
past_sign b bytes = behind_sign b (look bytes)

-- what stands behind an item: a comma, after which the list goes on, or the sign that closes it
unfoldable pub separator_at : (close : ℕ) → List ℕ → Result (Bool × List ℕ) Fault
separator_at close bytes = look bytes >>= λ t. if is_sign close t.0 then Ok (false, t.1) else if is_sign 44 t.0
    then Ok (true, t.1) else Err Unexpected

module _ {A : Type 0} where
  abbrev pub with_first : A → Result (List A × List ℕ) Fault → Result (List A × List ℕ) Fault
  with_first x read = read >>= λ xs. Ok (x ∷ xs.0, xs.1)

  abbrev pub if_more : Bool → (more : Result (List A × List ℕ) Fault) → (rest : List ℕ) → Result (List A × List ℕ) Fault
  if_more true more rest = more
  if_more false more rest = Ok ([], rest)

  -- One thing or more, less than n of them. `goes` looks behind a thing: whether one more comes, and where that begins
  -- or the things end.
  unfoldable pub more_at : (goes : List ℕ → Result (Bool × List ℕ) Fault) →
      (read : List ℕ → Result (A × List ℕ) Fault) → ℕ → List ℕ → Result (List A × List ℕ) Fault
  more_at goes read zero bytes = Err Unexpected
  more_at goes read (suc n) bytes = read bytes >>= λ x. goes x.1 >>=
      λ s. with_first x.0 (if_more s.0 (more_at goes read n s.1) s.1)

  abbrev pub unless_closed : Option (List ℕ) → (some : Result (List A × List ℕ) Fault) → Result (List A × List ℕ) Fault
  unless_closed (Some rest) some = Ok ([], rest)
  unless_closed None some = some

  -- a list in brackets: a comma behind an item says that one more comes
  unfoldable pub items_at : (open_ close : ℕ) → (List ℕ → Result (A × List ℕ) Fault) → List ℕ →
      Result (List A × List ℕ) Fault
  items_at open_ close read bytes = sign_at open_ bytes >>=
      λ start. unless_closed (past_sign close start) (more_at (separator_at close) read (suc (length start)) start)
