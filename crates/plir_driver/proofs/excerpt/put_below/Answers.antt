use Rattle.std.proofs.Common.{sym, ap, refl, chars, ◌∙◌}
use Rattle.std.proofs.lemmas.Str.{encodes-chars}
use Rattle.plir_driver.proofs.Lines.{remains_next, remains_full, remains_end}
use Rattle.plir_driver.proofs.excerpt.put_below.Goals as goal

pub chars-init : goal.chars-init
chars-init c =
    record {
      come = chars c.args.line.now;
      spell =
          encodes-chars c.args.line.now c.utf8.line
          ∙ sym (ap (λ z. z.rest.now) c.into_iter-c-iterator.ensures.into_iter_gives ∙ c.chars-c-items.ensures.rest);
      put = refl;
    }

pub chars-preserved : goal.chars-preserved
chars-preserved c =
    remains_next _ _ _ _ c.chars.left c.in-Some.c _ _ c.chars.invariant c.if-left-eq0.false c.in-Some.ensures.steps.0
    c.in_ok-put_below_one.ensures

pub returns-then-left-eq0 : goal.returns-then-left-eq0
returns-then-left-eq0 c = remains_full _ _ _ c.chars.left _ c.chars.invariant c.if-left-eq0.true

pub returns : goal.returns
returns c = remains_end _ _ _ c.chars.left _ c.chars.invariant c.in-None.ensures.steps.0.0
