-- Readers over whole texts.
use Rattle.std.specs.Prelude.{ℕ, List, [], ◌∷◌, Result, Ok, Err}
use Rattle.plir_attr_text.specs.declared.fault.Fault.TheVariants.{Unexpected}
use Rattle.plir_attr_text.specs.{Bytes.is_blank, Bytes.past, Steps.◌>>=◌, declared.fault.Fault.Fault}

abbrev pub if_none_left : List ℕ → Result (Unit {0}) Fault
if_none_left [] = Ok tt
if_none_left (b ∷ bs) = Err Unexpected

-- the end of a text, behind white space
unfoldable pub end_at : List ℕ → Result (Unit {0}) Fault
end_at bytes = if_none_left (past is_blank bytes)

-- a reader over the whole text
unfoldable pub whole : {A : Type 0} → (List ℕ → Result (A × List ℕ) Fault) → List ℕ → Result A Fault
whole read bytes = read bytes >>= λ x. end_at x.1 >>= λ u. Ok x.0
