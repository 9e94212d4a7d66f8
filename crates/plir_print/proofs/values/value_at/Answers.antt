use Rattle.std.proofs.Common.{◌<◌, Some, length, sym, ap, subst, ◌∙◌}
use Rattle.std.specs.Prelude.{slice_get}
use Rattle.plir_core.specs.declared.value.DefiningEntity.TheVariants.{Op, Block}
use Rattle.plir_print.specs.ValueLists.{values_in}
use Rattle.plir_print.proofs.ValueLists.{length-values, value-there}
use Rattle.plir_print.proofs.values.value_at.Goals as goal

pub get_result-requires-clause-below : goal.get_result-requires-clause-below
get_result-requires-clause-below g c =
    let below = subst (λ l. c.args.place < length (values_in c.args.ctx.now l)) c.in-Results.is c.requires.below in
    subst (λ n. c.args.place < n) (length-values c.args.ctx.now (Op c.in-Results.op)) below

pub get_argument-requires-clause-below : goal.get_argument-requires-clause-below
get_argument-requires-clause-below g c =
    let below = subst (λ l. c.args.place < length (values_in c.args.ctx.now l)) c.in-Arguments.is c.requires.below in
    subst (λ n. c.args.place < n) (length-values c.args.ctx.now (Block c.in-Arguments.block)) below

pub returns-in-Results-clause-value : goal.returns-in-Results-clause-value
returns-in-Results-clause-value g c =
    let s = c.args.ctx.now in
    let e = Op c.in-Results.op in
    let below = subst (λ l. c.args.place < length (values_in s l)) c.in-Results.is c.requires.below in
    ap (λ l. slice_get (values_in s l) c.args.place) c.in-Results.is
    ∙ value-there s e c.args.place (subst (λ n. c.args.place < n) (length-values s e) below)
    ∙ ap Some (sym c.get_result.ensures.value)

pub returns-in-Arguments-clause-value : goal.returns-in-Arguments-clause-value
returns-in-Arguments-clause-value g c =
    let s = c.args.ctx.now in
    let e = Block c.in-Arguments.block in
    let below = subst (λ l. c.args.place < length (values_in s l)) c.in-Arguments.is c.requires.below in
    ap (λ l. slice_get (values_in s l) c.args.place) c.in-Arguments.is
    ∙ value-there s e c.args.place (subst (λ n. c.args.place < n) (length-values s e) below)
    ∙ ap Some (sym c.get_argument.ensures.value)
