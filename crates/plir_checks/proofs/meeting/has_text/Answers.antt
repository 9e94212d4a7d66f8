use Rattle.std.proofs.Common.{◌≡◌, ◌<◌, ◌-◌, false, length, drop, take, ap, sym, ◌∙◌, subst}
use Rattle.plir_checks.specs.Blanks.{begins}
use Rattle.plir_checks.proofs.Squeezing.{from_on, has_next}
use Rattle.plir_checks.proofs.meeting.has_text.Goals as goal

pub loop-start-preserved : goal.loop-start-preserved
loop-start-preserved c =
    let line = c.args.line.now in
    let bytes = c.as_bytes-bytes.result.now in
    let below : c.loop-start.start < length line =
    subst (λ z. c.loop-start.start < length z) c.as_bytes-bytes.ensures.value c.loop-start-test.true in
    let not_here : begins (drop c.loop-start.start line) c.args.text.now ≡ false =
    ap (λ z. begins (drop c.loop-start.start z) c.args.text.now) (sym c.as_bytes-bytes.ensures.value)
    ∙ ap (λ z. begins z c.args.text.now) (sym (from_on c.loop-start.start c.as_bytes-bytes.result.now))
    ∙ ap (begins (take (length bytes - c.loop-start.start) (drop c.loop-start.start bytes)))
    (sym c.as_bytes.ensures.value)
    ∙ sym c.begins.ensures ∙ c.if-begins.false in
    has_next line c.args.text.now c.loop-start.start below not_here ∙ c.loop-start.invariant
