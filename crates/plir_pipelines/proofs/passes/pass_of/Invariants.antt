use Rattle.std.proofs.Common.{◌≡◌, None, take}
use Rattle.plir_pipelines.specs.Passes.{bearer}
use Rattle.plir_pipelines.proofs.passes.pass_of.Given as goal

-- none of the passes so far bears the name
abbrev pub invariant-loop-pass : goal.invariant-loop-pass
invariant-loop-pass g l = bearer g.P.Offered.pass_name (take l.pass-index l.offered) l.name ≡ None
