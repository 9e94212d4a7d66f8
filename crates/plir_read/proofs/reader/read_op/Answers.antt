use Rattle.std.proofs.Common.{[], ap, sym, subst, ◌∙◌}
use Rattle.plir_core.specs.Room.{HaveCome}
use Rattle.plir_attr_text.specs.laws.StepLaws.{ok_is}
use Rattle.plir_read.specs.Room.{BeginsTooMany, op_count}
use Rattle.plir_attr_text.specs.Wholes.{whole}
use Rattle.plir_read.specs.OpReading.{op_at}
use Rattle.plir_read.proofs.OpWhole.{told, no_place, no_room, op_text_found, op_text_refused, whole_first}
use Rattle.plir_read.specs.laws.TypesNamed.{behind_named}
use Rattle.plir_attr_text.specs.laws.ListsAgain.{whole_again}
use Rattle.plir_read.specs.OpGrammar.{OpWithin}
use Rattle.plir_read.proofs.OpAgain.{op_within_again}
use Rattle.plir_read.proofs.reader.read_op.Goals as goal

pub returns-in-Ok-clause-found : goal.returns-in-Ok-clause-found
returns-in-Ok-clause-found g c =
    let y = c.in-Ok.ensures.read in
    (y.0, op_text_found 200 _ y.0 (ap (whole (op_at 200)) (sym c.as_bytes-bytes.ensures.value) ∙ y.1), y.2.0)

pub returns-in-Ok-clause-come : goal.returns-in-Ok-clause-come
returns-in-Ok-clause-come g c =
    let y = c.in-Ok.ensures.read in
    λ w s. subst (λ v. HaveCome c.args.ctx.now.nodes c.whole_op.new.ctx.nodes (op_count v))
    (ok_is y.0 w (sym y.1 ∙ (ap (whole (op_at 200)) c.as_bytes-bytes.ensures.value ∙
    whole_again (op_at 200) (OpWithin 200) (op_within_again 200) _ w s))) y.2.1

pub returns-in-Err-clause-refused : goal.returns-in-Err-clause-refused
returns-in-Err-clause-refused g c =
    λ is w s. op_text_refused 200 _ _
    (ap (whole (op_at 200)) (sym c.as_bytes-bytes.ensures.value) ∙
    told _ c.in-Err.stop _ _ c.placed.ensures.fault c.in-Err.ensures.read is) w s

pub returns-in-Err-clause-met : goal.returns-in-Err-clause-met
returns-in-Err-clause-met g c =
    λ is. ap (whole (op_at 200)) (sym c.as_bytes-bytes.ensures.value) ∙
    told _ c.in-Err.stop _ _ c.placed.ensures.fault c.in-Err.ensures.read is

pub returns-in-Ok-clause-named : goal.returns-in-Ok-clause-named
returns-in-Ok-clause-named g c = behind_named _ _ _ _ ([], sym c.as_bytes-bytes.ensures.value) c.in-Ok.ensures.named

pub returns-in-Err-clause-named : goal.returns-in-Err-clause-named
returns-in-Err-clause-named g c = behind_named _ _ _ _ ([], sym c.as_bytes-bytes.ensures.value) c.in-Err.ensures.named

pub returns-in-Err-clause-placeless : goal.returns-in-Err-clause-placeless
returns-in-Err-clause-placeless g c =
    no_place _ c.in-Err.stop _ _ c.placed.ensures.fault c.placed.ensures.nowhere c.in-Err.ensures.read

pub returns-in-Err-clause-begins : goal.returns-in-Err-clause-begins
returns-in-Err-clause-begins g c =
    λ e. subst (BeginsTooMany op_count (OpWithin 200) c.args.ctx.now.nodes) c.as_bytes-bytes.ensures.value
    (no_room _ c.in-Err.stop _ _ c.placed.ensures.fault c.in-Err.ensures.read e).0

pub returns-in-Err-clause-too_many_only : goal.returns-in-Err-clause-too_many_only
returns-in-Err-clause-too_many_only g c =
    λ e w s. let total = ap (whole (op_at 200)) c.as_bytes-bytes.ensures.value ∙
    whole_again (op_at 200) (OpWithin 200) (op_within_again 200) _ w s in
    let first = whole_first (op_at 200) _ w total in
    (no_room _ c.in-Err.stop _ _ c.placed.ensures.fault c.in-Err.ensures.read e).1 (w, first.0) first.1

pub returns-in-Ok-clause-held : goal.returns-in-Ok-clause-held
returns-in-Ok-clause-held g c =
    λ w s. c.in-Ok.ensures.held w
    (ap (whole (op_at 200)) c.as_bytes-bytes.ensures.value ∙
    whole_again (op_at 200) (OpWithin 200) (op_within_again 200) _ w s)
