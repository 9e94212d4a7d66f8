-- What is told where nothing is printed.
use Rattle.std.specs.Prelude.{◌≡◌, ◌⊎◌, ℕ, List, [], ◌++◌, codes, cond, Option, Some, None}
use Rattle.std.specs.Fmt.{decimal}
use Rattle.std.specs.Str.{is_utf8}
use Rattle.plir_data.specs.CallSites.{place_of as written_at}
use Rattle.plir_driver.specs.declared.stop.Stop.{Stop}
use Rattle.plir_driver.specs.declared.stop.Stop.TheVariants.{Unread, Refused}
use Rattle.plir_driver.specs.Excerpt.{excerpt_of}

module _ {E : Type 0} where
  -- the line and the column at which what is refused was written, if they are known
  abbrev pub place_of : Stop E → Option (ℕ × ℕ)
  place_of (Unread line column fault) = Some (line, column)
  place_of (Refused loc e) = written_at loc
  place_of _ = None

-- the line, and a caret below the character, where the bytes are a text
abbrev pub excerpt_at : List ℕ → ℕ → ℕ → List ℕ
excerpt_at bytes line column = cond (is_utf8 bytes) (excerpt_of bytes line column) []

-- what is told behind a name, with the text of an error: the place and the lines, if the place is known
abbrev pub told_text : (name bytes what : List ℕ) → Option (ℕ × ℕ) → List ℕ
told_text name bytes what None = name ++ (codes ": " ++ (what ++ codes "\n"))
told_text name bytes what (Some (line, column)) =
    name ++ (codes ":" ++ (decimal line ++ (codes ":" ++ (decimal column ++ (codes ": " ++ (what ++ (codes "\n"
    ++ excerpt_at bytes line column)))))))

module _ {E : Type 0} (name bytes : List ℕ) (stop : Stop E) where
  -- it is told so, with some text in the error's place
  abbrev pub IsTold : List ℕ → Type 0
  IsTold told = (what : List ℕ) × (told ≡ told_text name bytes what (place_of stop))

  -- that is put, or that memory is wanting
  abbrev pub IsToldBy : (puts : List ℕ → Type 0) → Type 0
  IsToldBy puts = ((told : List ℕ) × IsTold told × puts told) ⊎ puts (codes "out of memory\n")
