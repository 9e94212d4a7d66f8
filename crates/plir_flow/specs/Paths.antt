-- Paths of steps.
use Rattle.std.specs.Prelude.{List, [], ◌∷◌}

module _ {N : Type 0} (Step : N → N → Type 0) where
  -- steps lead from a through these, one after another, to b
  abbrev pub IsPath : (a : N) (through : List N) (b : N) → Type 0
  IsPath a [] b = Step a b
  IsPath a (c ∷ cs) b = Step a c × IsPath c cs b

  -- a path of one step or more leads from a to b
  abbrev pub LeadsTo : (a b : N) → Type 0
  LeadsTo a b = (through : List N) × IsPath a through b
