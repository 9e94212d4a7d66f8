use Rattle.std.proofs.Common.{◌∙◌, ap, subst, sym}
use Rattle.std.specs.Prelude.{reverse}
use Rattle.std.proofs.lemmas.Option.{same_Some}
use Rattle.plir_store.specs.Members.{head}
use Rattle.plir_core.specs.declared.ptr.IRNode.TheVariants.{Operation}
use Rattle.plir_inline.specs.Inlined.{CanEnd}
use Rattle.plir_inline.proofs.Lists.{back, from-back, op-same}
use Rattle.plir_inline.proofs.testing.can_inline.Goals as goal

pub returns-in-Some : goal.returns-in-Some
returns-in-Some g c =
    let at = sym (c.in-Some.ensures.value ∙ c.last_child_is_back.ensures) in
    let r = from-back _ (Operation c.in-Some.last) at in (
      λ yes. record {
        stand = c.can_stand.ensures.0 c.if-not-can_stand.false;
        body = r.0;
        last = c.in-Some.last;
        ends = r.1;
        end = c.can_end.ensures.0 yes;
      },
      λ h.
          let same = op-same h.last c.in-Some.last (same_Some _ _ (sym (ap (λ xs. head (reverse xs)) h.ends
          ∙ back h.body (Operation h.last)) ∙ at)) in
          c.can_end.ensures.1 (subst (CanEnd c.args.ctx.now c.args.call) same h.end),
    )
