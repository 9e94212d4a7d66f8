use Rattle.std.proofs.Common.{◌∙◌}
use Rattle.plir_symbols.proofs.Chaining.{put-chains}
use Rattle.plir_symbols.proofs.chains.Chains.put.Goals as goal

pub returns : goal.returns
returns c = λ ops chains.
    put-chains ops c.args.op c.args.self.now _ c.len-place.result c.in_ok-before.before
    (c.len-place.ensures ∙ c.args.self.now.earlier.ok.0) c.in_ok-before.ensures.before c.in_ok-before.ensures.updates
    c.in_ok-push.ensures.items chains
