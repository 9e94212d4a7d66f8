use Rattle.std.proofs.Common.{◌≡◌, true, false, refl, sym, ap, ◌∙◌, subst}
use Rattle.std.specs.Prelude.{IsSome}
use Rattle.plir_pipelines.specs.Offers.{is_option_name, is_own_word}
use Rattle.plir_pipelines.specs.Passes.{bearer}
use Rattle.plir_pipelines.proofs.offer.check_behind.Goals as goal

pub returns-then-not-is_option_name-clause-refused : goal.returns-then-not-is_option_name-clause-refused
returns-then-not-is_option_name-clause-refused g c = (
  c.name-name.ensures,
  subst (λ n. is_option_name n ≡ false) c.name-name.ensures (sym c.if-not-is_option_name.ensures),
)

pub returns-then-is_own_word-clause-refused : goal.returns-then-is_own_word-clause-refused
returns-then-is_own_word-clause-refused g c =
    (c.name-name.ensures, subst (λ n. is_own_word n ≡ true) c.name-name.ensures (sym c.if-is_own_word.ensures))

pub returns-in-Some-clause-refused : goal.returns-in-Some-clause-refused
returns-in-Some-clause-refused g c = (
  c.name-name.ensures,
  subst (λ n. IsSome (bearer g.P.Offered.pass_name c.args.front.now n)) c.name-name.ensures
      (subst IsSome c.in-Some.ensures.first refl),
)

pub returns-in-None-clause-offered : goal.returns-in-None-clause-offered
returns-in-None-clause-offered g c = record {
  formed = subst (λ n. is_option_name n ≡ true) c.name-name.ensures (sym c.if-not-is_option_name.ensures);
  free = subst (λ n. is_own_word n ≡ false) c.name-name.ensures (sym c.if-is_own_word.ensures);
  new =
      ap (λ n. bearer g.P.Offered.pass_name c.args.front.now n) (sym c.name-name.ensures)
      ∙ sym c.in-None.ensures.first;
}
