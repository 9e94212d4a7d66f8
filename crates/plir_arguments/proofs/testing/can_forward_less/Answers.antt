use Rattle.std.proofs.Common.{◌∙◌, sym}
use Rattle.std.proofs.lemmas.Bool.{false≢true}
use Rattle.std.proofs.lemmas.Option.{slice_get_within}
use Rattle.plir_core.specs.ContextView.{successors_of}
use Rattle.plir_arguments.proofs.testing.can_forward_less.Goals as goal

pub can_remove_forwarded-requires-clause-below : goal.can_remove_forwarded-requires-clause-below
can_remove_forwarded-requires-clause-below g c =
    slice_get_within (successors_of c.args.ctx.now c.args.op) c.args.place c.args.block c.requires.goes

pub num_forwarded-forwarded-requires-clause-below : goal.num_forwarded-forwarded-requires-clause-below
num_forwarded-forwarded-requires-clause-below g c =
    slice_get_within (successors_of c.args.ctx.now c.args.op) c.args.place c.args.block c.requires.goes

pub returns-then-not-can_remove_forwarded : goal.returns-then-not-can_remove_forwarded
returns-then-not-can_remove_forwarded g c = (
  λ yes. absurd (false≢true yes),
  λ h. absurd (false≢true (sym c.if-not-can_remove_forwarded.true ∙ c.can_remove_forwarded.ensures ∙ h.told)),
)

pub returns-then-forwarded-wanted : goal.returns-then-forwarded-wanted
returns-then-forwarded-wanted g c = (
  λ yes. absurd (false≢true yes),
  λ h. absurd (c.if-forwarded-wanted.true
      (c.num_forwarded-forwarded.ensures ∙ h.as_many ∙ sym c.get_num_arguments-wanted.ensures.value)),
)

pub returns : goal.returns
returns g c = (
  λ yes. record {
    told = sym c.can_remove_forwarded.ensures ∙ c.if-not-can_remove_forwarded.false;
    as_many = sym c.num_forwarded-forwarded.ensures ∙ c.if-forwarded-wanted.false
        ∙ c.get_num_arguments-wanted.ensures.value;
    once = c.goes_once.ensures.0 yes;
  },
  λ h. c.goes_once.ensures.1 h.once,
)
