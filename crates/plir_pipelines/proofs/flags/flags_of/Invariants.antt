use Rattle.std.proofs.Common.{◌≡◌, map, take, string_bytes}
use Rattle.plir_pipelines.specs.Flags.{flags_in}
use Rattle.plir_pipelines.proofs.flags.flags_of.Given as goal

-- those of the passes so far
abbrev pub invariant-loop-pass : goal.invariant-loop-pass
invariant-loop-pass g l =
    map (λ f. string_bytes f.text) l.flags.items
    ≡ flags_in g.P.Offered.pass_name g.P.Offered.pass_options (take l.pass-index l.passes)
