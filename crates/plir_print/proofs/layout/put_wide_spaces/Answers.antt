use Rattle.std.proofs.Common.{◌*◌, ◌++◌, replicate, string_bytes, ap, ◌∙◌, append_assoc, arith}
use Rattle.std.proofs.lemmas.List.{replicate-append-replicate}
use Rattle.plir_print.proofs.layout.put_wide_spaces.Goals as goal

pub times-preserved : goal.times-preserved
times-preserved c =
    let old = string_bytes c.args.out.now in
    let before = replicate (64 * c.times._time) 32 in
    c.in_ok-put.ensures.ok
    ∙ (ap (λ z. z ++ replicate 64 32) c.times.invariant
    ∙ (append_assoc old before (replicate 64 32)
    ∙ ap (λ z. old ++ z)
    (replicate-append-replicate (64 * c.times._time) 64 32 ∙ ap (λ k. replicate k 32) (omega arith))))
