-- The text of an own type or attribute, in parts.
use Rattle.std.specs.Prelude.{ℕ, List, [], ◌∷◌, ◌++◌}

-- A part: characters, or the type that a handle names, by its text.
pub data Part : Type 0 where
  chars : List ℕ → Part
  held : (handle : ℕ) → Part

-- the handles in parts, in their order
abbrev pub held_in : List Part → List ℕ
held_in [] = []
held_in (chars s ∷ ps) = held_in ps
held_in (held h ∷ ps) = h ∷ held_in ps

module _ (type_text : ℕ → List ℕ) where
  -- the text of a part, where `type_text` gives the text of the type that a handle names
  abbrev pub part_text : Part → List ℕ
  part_text (chars s) = s
  part_text (held h) = type_text h

  -- the texts of parts, one behind another
  abbrev pub parts_text : List Part → List ℕ
  parts_text [] = []
  parts_text (p ∷ ps) = part_text p ++ parts_text ps

  -- what stands behind an id: a space and the parts, where there are any
  abbrev pub behind_id : List Part → List ℕ
  behind_id [] = []
  behind_id (p ∷ ps) = 32 ∷ parts_text (p ∷ ps)
