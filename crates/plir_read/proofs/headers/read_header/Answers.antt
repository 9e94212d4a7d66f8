use Rattle.std.proofs.Common.{refl, ◌≡◌, inl, inr, ℕ, List}
use Rattle.plir_attr_text.specs.laws.TypeSteps.{behind_is}
use Rattle.plir_read.specs.OpTerms.{Header}
use Rattle.plir_read.proofs.HeadsGrown.{IsHead-grown}
use Rattle.plir_read.proofs.OpSteps.{header_is}
use Rattle.plir_read.specs.laws.OpEnds.{head_end}
use Rattle.plir_read.specs.laws.TypesNamed.{named_on, behind_named}
use Rattle.plir_attr_text.specs.laws.StepLaws.{done}
use Rattle.plir_attr_text.specs.Parts.{IsHeldByEntry}
use Rattle.plir_read.specs.HeldTypes.{IsHeldByHead, IsHeldByHeader}
use Rattle.plir_read.specs.OpReading.{header_at}
use Rattle.plir_read.proofs.Held.{both_come, held_is}
use Rattle.plir_read.proofs.headers.read_header.Goals as goal

pub returns-in-Ok-read_dictionary-clause-read : goal.returns-in-Ok-read_dictionary-clause-read
returns-in-Ok-read_dictionary-clause-read g c =
    let h = c.in-Ok.ensures.read in
    let d = c.in-Ok-read_dictionary.ensures.read in (
      ((h.0.0, d.0.0), c.in-Ok-read_dictionary.read.1.now),
      header_is c.args.levels c.args.kind _ _ _ h.0.0 d.0.0 (behind_is _ h.0 c.in-Ok.read.1.now h.1 h.2.1)
          (behind_is _ d.0 c.in-Ok-read_dictionary.read.1.now d.1 d.2.1),
      (
        record { head_is = IsHead-grown _ _ _ h.0.0 c.in-Ok-read_dictionary.ensures.grown h.2.0; dictionary = d.2.0 },
        refl,
      ),
    )

pub returns-in-Ok-read_dictionary-clause-named : goal.returns-in-Ok-read_dictionary-clause-named
returns-in-Ok-read_dictionary-clause-named g c =
    let h = c.in-Ok.ensures.read in
    named_on _ _ _ _ c.in-Ok-read_dictionary.ensures.grown c.in-Ok.ensures.named
    (behind_named _ _ _ _
    (head_end c.args.levels c.args.kind _ h.0.0 _ (behind_is _ h.0 c.in-Ok.read.1.now h.1 h.2.1))
    c.in-Ok-read_dictionary.ensures.named)

pub returns-in-Err-read_dictionary-clause-named : goal.returns-in-Err-read_dictionary-clause-named
returns-in-Err-read_dictionary-clause-named g c =
    let h = c.in-Ok.ensures.read in
    named_on _ _ _ _ c.in-Err-read_dictionary.ensures.grown c.in-Ok.ensures.named
    (behind_named _ _ _ _
    (head_end c.args.levels c.args.kind _ h.0.0 _ (behind_is _ h.0 c.in-Ok.read.1.now h.1 h.2.1))
    c.in-Err-read_dictionary.ensures.named)

pub returns-in-Ok-read_dictionary-clause-held : goal.returns-in-Ok-read_dictionary-clause-held
returns-in-Ok-read_dictionary-clause-held g c =
    let h = c.in-Ok.ensures.read in
    let d = c.in-Ok-read_dictionary.ensures.read in
    let z : Header × List ℕ = ((h.0.0, d.0.0), c.in-Ok-read_dictionary.read.1.now) in
    let whole : header_at c.args.levels c.args.kind c.args.bytes.now ≡ done z =
    header_is c.args.levels c.args.kind _ _ _ h.0.0 d.0.0 (behind_is _ h.0 c.in-Ok.read.1.now h.1 h.2.1)
    (behind_is _ d.0 c.in-Ok-read_dictionary.read.1.now d.1 d.2.1) in
    λ y e. held_is IsHeldByHeader _ z y _ _ whole e
    (both_come (λ t. IsHeldByHead t h.0.0) (λ t. IsHeldByEntry t d.0.0) (λ t. IsHeldByHeader t (h.0.0, d.0.0))
    (λ t p. inl p) (λ t p. inr p) _ _ _ c.in-Ok-read_dictionary.ensures.grown (c.in-Ok.ensures.held h.0 h.1)
    (c.in-Ok-read_dictionary.ensures.held d.0 d.1))
