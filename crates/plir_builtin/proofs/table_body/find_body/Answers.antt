use Rattle.std.proofs.Common.{refl, sym, true≢false}
use Rattle.plir_builtin.proofs.SoleBlocks.{sole-some, no-body}
use Rattle.plir_builtin.proofs.table_body.find_body.Goals as goal

pub body_of-requires-clause-at_body : goal.body_of-requires-clause-at_body
body_of-requires-clause-at_body g c =
    sole-some c.args.ctx.now c.args.op (c.in-Ok.ensures.ok.0 refl) (c.in-Ok-verify.ensures.ok.0 refl)

pub returns-in-Err-Refused-verify-clause-refused : goal.returns-in-Err-Refused-verify-clause-refused
returns-in-Err-Refused-verify-clause-refused g c = (
  c.in-Ok.ensures.ok.0 refl,
  no-body c.args.ctx.now c.args.op (λ h. true≢false (sym (c.in-Err-Refused-verify.ensures.ok.1 h))),
)
