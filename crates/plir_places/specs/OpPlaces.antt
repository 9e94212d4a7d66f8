-- Where operations begin in a text.
use Rattle.std.specs.Prelude.{ℕ, List, [], ◌∷◌, ◌++◌, cond}
use Rattle.plir_data.specs.declared.location.Location.{Location}
use Rattle.plir_places.specs.declared.leads.Lead.{Lead}
use Rattle.plir_places.specs.declared.leads.Lead.TheVariants.{Due}
use Rattle.plir_places.specs.declared.spots.Spot.{Spot}
use Rattle.plir_places.specs.Leads.{begins_op, lead_past}
use Rattle.plir_places.specs.Spots.{location_of, spot_past, start}

-- the place of a byte, if an operation begins with it
abbrev pub place_at : Spot → Lead → ℕ → List Location
place_at s l b = cond (begins_op l b) (location_of s ∷ []) []

-- the places at which operations begin in what is left of a text, behind what stands in front of it
abbrev pub places_in : Spot → Lead → List ℕ → List Location
places_in s l [] = []
places_in s l (b ∷ bs) = place_at s l b ++ places_in (spot_past s b) (lead_past l b) bs

-- those of a text
abbrev pub op_places : List ℕ → List Location
op_places text = places_in start Due text
