-- What names mean: a name means what bears it, where exactly one does.
use Rattle.std.specs.Prelude.{◌≡◌, List, [], ◌∷◌, Bool, if◌then◌else◌}
use Rattle.plir_names.specs.declared.names.Meaning.{Meaning}
use Rattle.plir_names.specs.declared.names.Meaning.TheVariants.{Unknown, Only, Ambiguous}

module _ {V : Type 0} where
  -- what a name means that these bear
  abbrev pub meaning_by : List V → Meaning V
  meaning_by [] = Unknown
  meaning_by (v ∷ []) = Only v
  meaning_by (v ∷ w ∷ vs) = Ambiguous

module _ {N V : Type 0} (same : N → N → Bool) where
  -- those that bear a name, in order, of names with what bears each
  abbrev pub bearers : List (N × V) → N → List V
  bearers [] n = []
  bearers (b ∷ bs) n = if same b.0 n then b.1 ∷ bearers bs n else bearers bs n

  -- what a name means among them
  abbrev pub meaning : List (N × V) → N → Meaning V
  meaning listed n = meaning_by (bearers listed n)

  -- the table says of each name what it means among these
  abbrev pub Says : (table : N → Meaning V) → (listed : List (N × V)) → Type 0
  Says table listed = (n : N) → table n ≡ meaning listed n
