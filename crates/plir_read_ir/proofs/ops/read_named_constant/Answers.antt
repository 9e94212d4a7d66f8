use Rattle.std.proofs.Common.{◌≡◌, ◌∙◌, length, sym, ap, subst}
use Rattle.std.proofs.lemmas.List.{length-map}
use Rattle.std.proofs.lemmas.Result.{err_from_is_err_and}
use Rattle.plir_core.specs.ContextView.{results_in}
use Rattle.plir_attr_text.specs.laws.TypeSteps.{behind_is}
use Rattle.plir_core.specs.declared.ptr.IRNode.TheVariants.{Operation}
use Rattle.plir_read.specs.OpReading.{named_constant_at}
use Rattle.plir_read.specs.OpsStanding.{IsConstantAt}
use Rattle.plir_read.specs.Suffixes.{given_name}
use Rattle.plir_read.specs.declared.names.Suffix.TheVariants as Suffix
use Rattle.plir_read_ir.specs.Mentions.{results_bear, values_in}
use Rattle.plir_read_ir.specs.Readings.{AddsValues, scope_of}
use Rattle.plir_read_ir.specs.Spelling.{words}
use Rattle.plir_read_ir.proofs.Fronts.{constant_reads}
use Rattle.plir_read_ir.proofs.IrSteps.{stops_of, stops_refused}
use Rattle.plir_read_ir.proofs.Lefts.{constant_read}
use Rattle.plir_read_ir.proofs.Noted.{notes_results}
use Rattle.plir_read_ir.proofs.ops.read_named_constant.Goals as goal

pub bear_results-requires-clause-as_many : goal.bear_results-requires-clause-as_many
bear_results-requires-clause-as_many g c =
    let y = c.in-Ok.ensures.read in
    let r = constant_read c.args.levels _ c.args.bytes.now y.0.0 c.in-Ok.read.1.now
    (behind_is _ y.0 c.in-Ok.read.1.now y.1 y.2.1) in
    ap length c.as_slice.ensures.value ∙ c.requires.as_many ∙ sym r.one ∙
    ap (λ o. length (results_in o)) (sym y.2.0.0.3)

pub returns-clause-read : goal.returns-clause-read
returns-clause-read g c =
    let y = c.in-Ok.ensures.read in
    let r = constant_read c.args.levels _ c.args.bytes.now y.0.0 c.in-Ok.read.1.now
    (behind_is _ y.0 c.in-Ok.read.1.now y.1 y.2.1) in
    record { made = c.in-Ok.ensures.made; in_order = c.in-Ok.ensures.slots; behind = r.behind }

pub returns-clause-kept : goal.returns-clause-kept
returns-clause-kept g c = record { kept = c.in-Ok.ensures.kept; named = c.in-Ok.ensures.named }

pub returns-clause-noted : goal.returns-clause-noted
returns-clause-noted g c =
    let b = c.in_ok-bear_results.ensures in
    notes_results c.args.ctx.now c.read_constant.new.ctx _ _ c.in-Ok.ensures.kept.keeps b.borne b.labels b.uses

pub returns-in-Err-clause-kept : goal.returns-in-Err-clause-kept
returns-in-Err-clause-kept g c = record { kept = c.in-Err.ensures.kept; named = c.in-Err.ensures.named }

pub returns-clause-stands : goal.returns-clause-stands
returns-clause-stands g c =
    let y = c.in-Ok.ensures.read in
    let b = c.in_ok-bear_results.ensures in
    let names = c.args.names in
    let read = behind_is _ y.0 c.in-Ok.read.1.now y.1 y.2.1 in
    let r = constant_read c.args.levels _ c.args.bytes.now y.0.0 c.in-Ok.read.1.now read in
    λ ready ws held.
    let count : length names.given.items ≡ length ws =
    ap length held.given ∙ length-map ws (given_name Suffix.OpResult) in
    constant_reads g.D.ReadSet.find_kind g.D.ReadSet.is_isolated c.args.levels ws c.args.bytes.now
    c.in-Ok.read.1.now c.args.ctx.now c.read_constant.new.ctx c.args.notes.now c.bear_results.new.self
    (scope_of c.args.at) c.in-Ok.read.0 y.0.0 ready c.in-Ok.ensures.made.new (r.one ∙ count)
    (ap (λ n. named_constant_at c.args.levels n c.args.bytes.now) (sym count) ∙ read)
    (subst (λ z. IsConstantAt c.read_constant.new.ctx (Operation c.in-Ok.read.0) z y.0.0) held.given y.2.0.0)
    (subst (λ z. AddsValues c.args.notes.now.values c.bear_results.new.self.values
    (values_in (results_bear c.args.at.body (Operation c.in-Ok.read.0) z)))
    (ap words c.as_slice.ensures.value ∙ held.spelled) b.says) b.labels b.uses

pub returns-in-Err-clause-met : goal.returns-in-Err-clause-met
returns-in-Err-clause-met g c = stops_of _ c.in-Err.stop _ c.in-Err.ensures.read

pub returns-in_err-bear_results-clause-met : goal.returns-in_err-bear_results-clause-met
returns-in_err-bear_results-clause-met g c =
    let p = err_from_is_err_and c.from_residual.result c.from_residual.ensures.1 in
    rw (p.1, p.2) (stops_refused _ c.in_err-bear_results.field-0.0 _ c.in_err-bear_results.ensures.refused)

pub returns-clause-met : goal.returns-clause-met
returns-clause-met g c =
    let y = c.in-Ok.ensures.read in
    (y.0.0, behind_is _ y.0 c.in-Ok.read.1.now y.1 y.2.1)
