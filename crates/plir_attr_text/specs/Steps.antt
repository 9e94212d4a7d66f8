-- One step after another, up to the first fault.
use Rattle.std.specs.Prelude.{ℕ, List, Result, Ok, Err}
use Rattle.plir_attr_text.specs.declared.fault.Fault.{Fault}

infixl 10 ◌>>=◌
abbrev pub ◌>>=◌ : {A B : Type 0} → Result A Fault → (A → Result B Fault) → Result B Fault
(Ok x) >>= f = f x
(Err e) >>= f = Err e

-- what is read, as something that is made of it
abbrev pub read_as : {A B : Type 0} → (A → B) → Result (A × List ℕ) Fault → Result (B × List ℕ) Fault
read_as make read = read >>= λ x. Ok (make x.0, x.1)
