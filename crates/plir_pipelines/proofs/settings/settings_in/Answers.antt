use Rattle.std.proofs.Common.{arith, ap, sym, ◌∙◌}
use Rattle.std.proofs.lemmas.Result.{err_from_is_err_and}
use Rattle.plir_pipelines.specs.Settings.{is_set}
use Rattle.plir_pipelines.proofs.Written.{malformed-at, settings-next, twice-at}
use Rattle.plir_pipelines.proofs.settings.settings_in.Goals as goal

pub returns-in_err-setting-clause-refused : goal.returns-in_err-setting-clause-refused
returns-in_err-setting-clause-refused c =
    let p = err_from_is_err_and c.from_residual.result c.from_residual.ensures.1 in
    rw (p.1, p.2) (malformed-at c.args.words.now c.loop-word.word-index _ (omega arith) c.loop-word.settings.items
    c.loop-word.invariant c.in_err-setting.field-0.0 c.in_err-setting.ensures.refused)

pub returns-then-is_set-clause-refused : goal.returns-then-is_set-clause-refused
returns-then-is_set-clause-refused c =
    twice-at c.args.words.now c.loop-word.word-index _ (omega arith) c.loop-word.settings.items c.loop-word.invariant
    c.in_ok-setting.setting c.in_ok-setting.ensures.read
    (ap (λ z. is_set z c.in_ok-setting.setting.name.now) (sym c.as_slice.ensures.value)
    ∙ sym c.is_set.ensures ∙ c.if-is_set.true)

pub loop-word-preserved : goal.loop-word-preserved
loop-word-preserved c =
    settings-next c.args.words.now c.loop-word.word-index _ (omega arith) c.loop-word.settings.items
    c.loop-word.invariant c.push.new.self.items c.in_ok-setting.setting c.in_ok-push.ensures.items
    c.in_ok-setting.ensures.read (ap (λ z. is_set z c.in_ok-setting.setting.name.now) (sym c.as_slice.ensures.value)
    ∙ sym c.is_set.ensures ∙ c.if-is_set.false)
