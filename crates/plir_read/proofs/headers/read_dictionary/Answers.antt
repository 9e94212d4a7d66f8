use Rattle.std.proofs.Common.{[], refl, sym, ◌≡◌, ℕ, List}
use Rattle.plir_attr_text.specs.Terms.{no_entries, entries_of, EntryTerms}
use Rattle.plir_attr_text.specs.laws.TypeSteps.{behind_is}
use Rattle.plir_read.proofs.OpSteps.{no_dictionary, dictionary_is}
use Rattle.plir_read.specs.laws.TypesNamed.{entries_named}
use Rattle.plir_attr_text.specs.laws.StepLaws.{done}
use Rattle.plir_attr_text.specs.laws.Growth.{named_by}
use Rattle.plir_attr_text.specs.Parts.{IsHeldByEntry}
use Rattle.plir_attr_text.specs.laws.PartsFound.{entries_part}
use Rattle.plir_read.specs.OpReading.{dictionary_at}
use Rattle.plir_read.proofs.Held.{none_come, held_is}
use Rattle.plir_read.proofs.headers.read_dictionary.Goals as goal

pub returns-in-None-clause-read : goal.returns-in-None-clause-read
returns-in-None-clause-read g c = (
  (no_entries, c.args.bytes.now),
  no_dictionary c.args.levels _ (sym c.in-None.ensures),
  (([], refl, c.new.ensures), refl),
)

pub returns-in-Ok-clause-read : goal.returns-in-Ok-clause-read
returns-in-Ok-clause-read g c =
    let y = c.in-Ok.ensures.read in (
      (entries_of y.0.0, c.in-Ok.read.1.now),
      dictionary_is c.args.levels _ _ _ y.0.0 (sym c.in-Some.ensures) (behind_is _ y.0 c.in-Ok.read.1.now y.1 y.2.1),
      (y.2.0, refl),
    )

pub returns-in-Ok-clause-named : goal.returns-in-Ok-clause-named
returns-in-Ok-clause-named g c = entries_named c.args.levels _ _ _ c.in-Ok.ensures.kept.named

pub returns-in-Err-clause-named : goal.returns-in-Err-clause-named
returns-in-Err-clause-named g c = entries_named c.args.levels _ _ _ c.in-Err.ensures.kept.named

pub returns-in-None-clause-held : goal.returns-in-None-clause-held
returns-in-None-clause-held g c = λ y e. none_come (λ t. IsHeldByEntry t y.0) _

pub returns-in-Ok-clause-held : goal.returns-in-Ok-clause-held
returns-in-Ok-clause-held g c =
    let r = c.in-Ok.ensures.read in
    let z : EntryTerms × List ℕ = (entries_of r.0.0, c.in-Ok.read.1.now) in
    let whole : dictionary_at c.args.levels c.args.bytes.now ≡ done z =
    dictionary_is c.args.levels _ _ _ r.0.0 (sym c.in-Some.ensures) (behind_is _ r.0 c.in-Ok.read.1.now r.1 r.2.1)
    in
    λ y e. held_is IsHeldByEntry _ z y _ _ whole e
    (named_by _ (λ t. IsHeldByEntry t (entries_of r.0.0)) (λ t w. entries_part c.args.levels _ r.0 t r.1 w) _ _
    c.in-Ok.ensures.kept.named)
